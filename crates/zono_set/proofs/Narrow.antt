-- Rows whose products with columns fit 64 bits, by the radii.
use Rattle.std.proofs.Common.{ℕ, ◌*◌, ◌≤◌, List, length, ℤ, pos, negsuc, ◌*ℤ◌, ◌≤ℤ◌, unsigned_abs, mul-le-mul, le_refl, arith}
use Rattle.std.proofs.lemmas.Int.{ints}
use Rattle.set_rules.specs.Sum.{total, magnitude}
use Rattle.set_rules.specs.Columns.{entry, column_entry, row_magnitude}
use Rattle.set_rules.proofs.Sums.{total-mono, magnitude-mul, magnitude-le-total}
use Rattle.fixed_mat.specs.Fits.{FitsRow}

-- the magnitudes of a row times the radii bound its products with each column
pub narrow-by-radii : (n : ℕ) (a : List ℤ) (r : ℕ) (g : List (List ℤ)) → total n (λ l. magnitude (entry n a r l) *ℤ row_magnitude g l) ≤ℤ pos 9_000_000_000_000_000_000 → FitsRow 9_000_000_000_000_000_000 n a r g
narrow-by-radii n a r g h t below =
    let all = total-mono n (λ l. magnitude (entry n a r l *ℤ column_entry g l t)) (λ l. magnitude (entry n a r l) *ℤ row_magnitude g l)
    (λ l _. one (entry n a r l) (column_entry g l t) (row_magnitude g l) (magnitude-le-total (length g) t (column_entry g l) below)) in
    omega (arith, ints)
  where
    one : (x y m : ℤ) → magnitude y ≤ℤ m → magnitude (x *ℤ y) ≤ℤ (magnitude x *ℤ m)
    one x y (pos m) h =
        let small : unsigned_abs y ≤ m = omega (arith, ints) in
        let mul = magnitude-mul x y in
        let most : unsigned_abs x * unsigned_abs y ≤ unsigned_abs x * m = mul-le-mul (le_refl (unsigned_abs x)) small in
        omega (arith, ints)
    one x y (negsuc m) h = absurd (omega (arith, ints))
