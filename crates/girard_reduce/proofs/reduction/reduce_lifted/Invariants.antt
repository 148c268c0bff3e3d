use Rattle.std.proofs.Common.{◌≡◌, ◌++◌}
use Rattle.set_rules.specs.Columns.{tabulate}
use Rattle.girard_reduce.proofs.LiftedReduced.{zero_column}
use Rattle.girard_reduce.proofs.reduction.reduce_lifted.Given as goal

abbrev pub invariant-loop : goal.invariant-loop
invariant-loop g l = l.cols ≡ l.initial.cols ++ tabulate l.counter (λ _. zero_column g.row.N)
