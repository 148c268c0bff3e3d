use Rattle.std.proofs.Common.{◌≡◌}
use Rattle.set_rules.specs.Columns.{tabulate}
use Rattle.set_rules.specs.Zono.{reach}
use Rattle.zono_set.proofs.zono.Zono.reaches.Given as goal

abbrev pub invariant-loop-i : goal.invariant-loop-i
invariant-loop-i g l = l.reaches.items ≡ tabulate l.i (reach l.self)
