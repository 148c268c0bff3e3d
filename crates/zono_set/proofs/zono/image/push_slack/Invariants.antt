use Rattle.std.proofs.Common.{◌≡◌, ◌++◌}
use Rattle.set_rules.specs.Columns.{at, tabulate}
use Rattle.set_rules.specs.Symbols.{diagonal}
use Rattle.zono_set.proofs.zono.image.push_slack.Given as goal

abbrev pub invariant-loop-i : goal.invariant-loop-i
invariant-loop-i g l = l.cols ≡ l.initial.cols ++ tabulate l.i (λ j. tabulate g.row.N (λ i. diagonal (at l.slack) i j))
