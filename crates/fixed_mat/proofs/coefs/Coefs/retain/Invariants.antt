use Rattle.std.proofs.Common.{◌≡◌, ◌+◌, take, pos, unsigned_abs}
use Rattle.std.specs.List.{sum_by}
use Rattle.set_rules.specs.Sum.{total, magnitude}
use Rattle.set_rules.specs.Columns.{at}
use Rattle.set_rules.specs.Reduce.{dropped}
use Rattle.set_rules.proofs.Compaction.{Compacted}
use Rattle.fixed_mat.specs.Rows.{marked}
use Rattle.fixed_mat.proofs.coefs.Coefs.retain.Given as goal

abbrev pub invariant-loop-t : goal.invariant-loop-t
invariant-loop-t l = record {
  moved : Compacted (pos 0) (marked l.keep) l.initial.self-inside.items.items l.t l.count l.self-inside.items.items;
  lost : pos l.lost ≡ total l.t (dropped (marked l.keep) (λ s. magnitude (at l.initial.self-inside.items.items s)));
  sum : sum_by unsigned_abs (take l.count l.self-inside.items.items) + l.lost ≡ sum_by unsigned_abs (take l.t l.initial.self-inside.items.items);
  same : l.self-inside.sum ≡ l.initial.self-inside.sum;
}
