use Rattle.std.proofs.Common.{◌≡◌, take, pos, unsigned_abs, sum_by}
use Rattle.set_rules.specs.Reduce.{greatest}
use Rattle.girard_reduce.proofs.keys.column_sizes.Given as goal

abbrev pub invariant-loop-entry : goal.invariant-loop-entry
invariant-loop-entry g l = record {
  sum : g.W.Whole.value l.sizes.sum ≡ pos (sum_by unsigned_abs (take l.entry-index l.column));
  greatest : g.W.Whole.value l.sizes.greatest ≡ pos (greatest (take l.entry-index l.column));
}
