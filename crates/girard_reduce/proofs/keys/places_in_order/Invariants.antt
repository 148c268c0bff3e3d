use Rattle.std.proofs.Common.{◌≡◌, pos}
use Rattle.set_rules.specs.Columns.{tabulate}
use Rattle.girard_reduce.proofs.LiftedKeys.{smaller}
use Rattle.girard_reduce.proofs.keys.places_in_order.Given as goal

abbrev pub invariant-loop-key : goal.invariant-loop-key
invariant-loop-key l = l.places.items ≡ tabulate l.key-index (λ s. pos (smaller l.keys s))
