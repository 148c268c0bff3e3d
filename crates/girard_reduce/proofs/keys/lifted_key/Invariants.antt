use Rattle.std.proofs.Common.{◌≡◌, [], get_or, pos, unsigned_abs, sum_by}
use Rattle.set_rules.specs.Reduce.{greatest}
use Rattle.girard_reduce.proofs.LiftedKeys.{first_entries}
use Rattle.girard_reduce.proofs.keys.lifted_key.Given as goal

abbrev pub invariant-loop-r : goal.invariant-loop-r
invariant-loop-r g l = record {
  sum : g.W.Whole.value l.sizes.sum ≡ pos (sum_by unsigned_abs (first_entries (get_or l.cols l.t []) l.rows.rows l.t l.r));
  greatest : g.W.Whole.value l.sizes.greatest ≡ pos (greatest (first_entries (get_or l.cols l.t []) l.rows.rows l.t l.r));
}
