use Rattle.std.proofs.Common.{◌≡◌, ◌+◌, ◌++◌, drop}
use Rattle.set_rules.specs.Columns.{tabulate}
use Rattle.set_rules.specs.Rows.{row_at}
use Rattle.fixed_mat.specs.Rows.{marked, condensed_row}
use Rattle.fixed_mat.proofs.rows.Rows.condense.Given as goal

abbrev pub invariant-loop-r : goal.invariant-loop-r
invariant-loop-r l = record {
  rows : l.self-inside.rows ≡ tabulate l.r (λ r. condensed_row (marked l.keep) (l.states + l.rows) (l.states + r) (row_at l.initial.self-inside.rows r)) ++ drop l.r l.initial.self-inside.rows;
  width : l.self-inside.width ≡ l.initial.self-inside.width;
}
