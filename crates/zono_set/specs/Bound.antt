-- How far an image can reach, without its products.
use Rattle.std.specs.Prelude.{ℕ, ◌+◌, List, length, ℤ, pos, ◌+ℤ◌, ◌*ℤ◌}
use Rattle.set_rules.specs.Sum.{total, magnitude}
use Rattle.set_rules.specs.Columns.{at, entry}
use Rattle.set_rules.specs.Round.{unit}
use Rattle.set_rules.specs.Zono.{Zono, reach}

-- no image reaches further than this in state i, in units of a unit: the reach of the set
-- through row i, what the inputs add, and what noise and rounding add
abbrev pub reach_bound : (n w : ℕ) (a shift e : List ℤ) → Zono → ℕ → ℤ
reach_bound n w a shift e z i =
    total n (λ l. magnitude (entry n a i l) *ℤ reach z l)
    +ℤ magnitude (at shift i) +ℤ pos unit *ℤ (pos (length z.columns + 2) +ℤ total w (λ t. magnitude (entry 8 e i t)))
