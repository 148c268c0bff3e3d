use Rattle.std.proofs.Common.{◌≡◌, ◌≤◌, unsigned_abs}
use Rattle.std.specs.List.{All}
use Rattle.set_rules.specs.Columns.{entry, tabulate}
use Rattle.fixed_mat.proofs.mat.Mat.row.Given as goal

abbrev pub invariant-loop-l : goal.invariant-loop-l
invariant-loop-l g l = record {
  cells : l.cells.items ≡ tabulate l.l (λ k. entry g.row.C l.self l.r k);
  within : All (λ z. unsigned_abs z ≤ g.L.Limit.LIM) l.cells.items;
}
