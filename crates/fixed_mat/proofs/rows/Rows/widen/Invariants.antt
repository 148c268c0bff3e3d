use Rattle.std.proofs.Common.{◌≡◌, ◌++◌, map, take, drop}
use Rattle.set_rules.specs.Rows.{widened_by}
use Rattle.fixed_mat.proofs.rows.Rows.widen.Given as goal

abbrev pub invariant-loop-r : goal.invariant-loop-r
invariant-loop-r l = record {
  rows : l.self-inside.rows ≡ map (widened_by l.by) (take l.r l.initial.self-inside.rows) ++ drop l.r l.initial.self-inside.rows;
  width : l.self-inside.width ≡ l.initial.self-inside.width;
}
