use Rattle.std.proofs.Common.{◌≡◌, get_or, pos, ◌+ℤ◌}
use Rattle.set_rules.specs.Columns.{at, tabulate}
use Rattle.set_rules.specs.Round.{ceil_s}
use Rattle.zono_set.proofs.zono.image.slack_of.Given as goal

abbrev pub invariant-loop-i : goal.invariant-loop-i
invariant-loop-i l = l.slack.items ≡ tabulate l.i (λ i. ceil_s (at l.of_centre i +ℤ pos (get_or l.of_columns i 0)))
