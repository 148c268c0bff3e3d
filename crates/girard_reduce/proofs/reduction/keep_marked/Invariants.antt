use Rattle.std.proofs.Common.{◌≡◌, ℕ, ◌<◌, [], get_or, pos}
use Rattle.set_rules.specs.Sum.{total, magnitude}
use Rattle.set_rules.specs.Columns.{column_entry}
use Rattle.set_rules.specs.Reduce.{dropped}
use Rattle.set_rules.proofs.Compaction.{Compacted}
use Rattle.fixed_mat.specs.Rows.{marked}
use Rattle.girard_reduce.proofs.reduction.keep_marked.Given as goal

abbrev pub invariant-loop-t : goal.invariant-loop-t
invariant-loop-t g l = record {
  moved : Compacted [] (marked l.marks) l.initial.cols l.t l.count l.cols;
  lost : (i : ℕ) → i < g.row.N → pos (get_or l.lost i 0) ≡ total l.t (dropped (marked l.marks) (λ s. magnitude (column_entry l.initial.cols i s)));
}
