use Rattle.std.proofs.Common.{◌≡◌, ℕ, ◌<◌, ◌-ℤ◌, ◌*ℤ◌, pos}
use Rattle.set_rules.specs.Sum.{total, magnitude}
use Rattle.set_rules.specs.Columns.{at, column_entry}
use Rattle.zono_set.proofs.zono.unrounded.unrounded_sizes.Given as goal

abbrev pub invariant-loop-t : goal.invariant-loop-t
invariant-loop-t g l = record { value : (i : ℕ) → i < g.row.N → at l.sizes i ≡ total l.t (λ t. magnitude (pos 1_000_000_000 *ℤ column_entry l.cols i t -ℤ at l.gain i *ℤ at l.a t)) }
