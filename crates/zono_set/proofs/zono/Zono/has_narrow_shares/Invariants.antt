use Rattle.std.proofs.Common.{ℕ, ◌*◌, ◌<◌, ◌+ℤ◌, ◌*ℤ◌, ◌≤ℤ◌, pos, unsigned_abs}
use Rattle.std.specs.List.{sum_by}
use Rattle.set_rules.specs.Columns.{at, row_magnitude}
use Rattle.zono_set.proofs.zono.Zono.has_narrow_shares.Given as goal

abbrev pub invariant-loop-i : goal.invariant-loop-i
invariant-loop-i g l = record { sizes : (k : ℕ) → k < l.i → (pos 1_000_000_000 *ℤ row_magnitude l.self.columns k +ℤ pos (unsigned_abs (at l.gain k) * sum_by unsigned_abs l.a)) ≤ℤ pos 9_000_000_000_000_000_000 }
