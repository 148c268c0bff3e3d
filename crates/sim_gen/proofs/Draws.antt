-- The first four draws, one by one.
use Rattle.std.proofs.Common.{◌≡◌, ℕ, ◌+◌, ℤ, pos, ◌*ℤ◌}
use Rattle.sim_gen.specs.Generator.{first_state, next_state, drawn, drawn_within}
use Rattle.sim_gen.specs.Process.{begun, thousandth}

-- the process that begins with these draws, from state g on to the states g1, g2, g3 and g4
pub begun-by : (seed g g1 g2 g3 g4 c b : ℕ) (x y first second : ℤ) → g ≡ first_state seed
    → g1 ≡ next_state g → c ≡ drawn 2 (next_state g) → g2 ≡ next_state g1 → b ≡ drawn 4 (next_state g1)
    → g3 ≡ next_state g2 → x ≡ drawn_within 1_000 (next_state g2) → g4 ≡ next_state g3 → y ≡ drawn_within 1_000 (next_state g3)
    → first ≡ pos thousandth *ℤ x → second ≡ pos thousandth *ℤ y
    → record { coupling = 1 + c; gain = 1 + b; generator = g4; first = first; second = second } ≡ begun seed
begun-by seed g g1 g2 g3 g4 c b x y first second e e1 ec e2 eb e3 ex e4 ey ef es =
    rw (ef, es, ex, ey, ec, eb, e4, e3, e2, e1, e)
