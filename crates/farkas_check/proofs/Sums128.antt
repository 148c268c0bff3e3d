-- Sums of numbers of rows, each times a multiplier, in 128 bits.
use Rattle.std.proofs.Common.{◌≡◌, ℕ, ◌+◌, ◌*◌, ◌^◌, ◌<◌, ◌≤◌, ℤ, ◌+ℤ◌, ◌*ℤ◌, unsigned_abs, to_z, of_z, SFits, mul-le-mul, ap, ◌∙◌, arith}
use Rattle.std.proofs.lemmas.Int.{ints, unsigned_abs-mul}
use mir.Syntax.{w128}
use Rattle.set_rules.specs.Sum.{total}
use Rattle.set_rules.specs.Limits.{row_limit}
use Rattle.fixed_mat.proofs.Bits.{small_fits, back, sum_on, next_sum}
use Rattle.farkas_check.specs.Multipliers.{multiplied_limit}

-- a product is within the limit
pub product-within : (x a : ℤ) → unsigned_abs x ≤ 2 ^ 31 → unsigned_abs a ≤ row_limit → unsigned_abs (x *ℤ a) ≤ multiplied_limit
product-within x a h k =
    let size = unsigned_abs-mul x a in
    let most : unsigned_abs x * unsigned_abs a ≤ 2 ^ 31 * row_limit = mul-le-mul h k in
    omega arith

-- one more product
module _ (n bits : ℕ) (y : ℤ) (few : n < 6) (within : unsigned_abs (to_z w128 bits) ≤ n * multiplied_limit) (one : unsigned_abs y ≤ multiplied_limit) where
  more-is : to_z w128 bits +ℤ to_z w128 (of_z w128 y) ≡ to_z w128 bits +ℤ y
  more-is = ap (λ z. to_z w128 bits +ℤ z) (back y (omega arith))

  pub more-fits : SFits w128 (to_z w128 bits +ℤ to_z w128 (of_z w128 y))
  more-fits = rw more-is (small_fits (to_z w128 bits +ℤ y) (omega (arith, ints)))

  more-back : to_z w128 (of_z w128 (to_z w128 bits +ℤ to_z w128 (of_z w128 y))) ≡ to_z w128 bits +ℤ y
  more-back = sum_on bits y (omega arith) (omega arith)

  pub more-total : (f : ℕ → ℤ) → to_z w128 bits ≡ total n f → y ≡ f n → to_z w128 (of_z w128 (to_z w128 bits +ℤ to_z w128 (of_z w128 y))) ≡ total (n + 1) f
  more-total f h e = more-back ∙ next_sum (to_z w128 bits) y n f h e

  pub more-within : unsigned_abs (to_z w128 (of_z w128 (to_z w128 bits +ℤ to_z w128 (of_z w128 y)))) ≤ (n + 1) * multiplied_limit
  more-within = let e = ap unsigned_abs more-back in omega (arith, ints)
