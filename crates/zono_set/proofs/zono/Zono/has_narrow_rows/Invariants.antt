use Rattle.std.proofs.Common.{ℕ, ◌<◌}
use Rattle.fixed_mat.specs.Fits.{FitsRow}
use Rattle.zono_set.proofs.zono.Zono.has_narrow_rows.Given as goal

abbrev pub invariant-loop-i : goal.invariant-loop-i
invariant-loop-i g l = (i : ℕ) → i < l.i → FitsRow 9_000_000_000_000_000_000 g.row.N l.a i l.self.columns
