use Rattle.std.proofs.Common.{◌≡◌, get_or, pos, ◌+ℤ◌}
use Rattle.set_rules.specs.Sum.{total, magnitude}
use Rattle.set_rules.specs.Columns.{at, entry, tabulate}
use Rattle.zono_set.proofs.zono.image.radii_after.Given as goal

abbrev pub invariant-loop-i : goal.invariant-loop-i
invariant-loop-i g l = l.radii.items ≡ tabulate l.i (λ i. pos (get_or l.sizes i 0) +ℤ total l.w (λ t. magnitude (entry 8 l.e i t)) +ℤ at l.slack i)
