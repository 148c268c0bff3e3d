use Rattle.std.proofs.Common.{◌≡◌}
use Rattle.set_rules.specs.Columns.{at, tabulate}
use Rattle.set_rules.specs.Symbols.{diagonal}
use Rattle.set_rules.specs.Zono.{InRange}
use Rattle.set_rules.specs.Box.{box}
use Rattle.zono_set.proofs.zono.Zono.of_box.Given as goal

abbrev pub invariant-loop-i : goal.invariant-loop-i
invariant-loop-i g l = InRange l.i (box g.row.N l.c l.r)

abbrev pub invariant-loop-i-2 : goal.invariant-loop-i-2
invariant-loop-i-2 g l = l.cols ≡ tabulate l.i (λ j. tabulate g.row.N (λ i. diagonal (at l.r) i j))
