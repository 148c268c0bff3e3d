use Rattle.std.proofs.Common.{◌≡◌}
use Rattle.set_rules.specs.Columns.{row_magnitude, tabulate}
use Rattle.zono_set.proofs.zono.magnitudes.Given as goal

abbrev pub invariant-loop-i : goal.invariant-loop-i
invariant-loop-i g l = l.magnitudes.items ≡ tabulate l.i (row_magnitude l.cols)
