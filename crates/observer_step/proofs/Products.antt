-- A row of coefficients times the inputs, in 128 bits.
use Rattle.std.proofs.Common.{◌≡◌, ℕ, ◌+◌, ◌*◌, ◌^◌, ◌<◌, ◌≤◌, ℤ, ◌+ℤ◌, ◌*ℤ◌, unsigned_abs, to_z, of_z, SFits, refl, arith, mul-le-mul}
use Rattle.std.proofs.lemmas.Int.{ints, unsigned_abs-mul}
use mir.Syntax.{w128}
use Rattle.set_rules.specs.Sum.{total}
use Rattle.fixed_mat.proofs.Bits as bits

module _ (a b : ℤ) (la : unsigned_abs a ≤ 10 ^ 12) (lb : unsigned_abs b ≤ 10 ^ 15) where
  product_small : unsigned_abs (a *ℤ b) ≤ 10 ^ 27
  product_small =
      let size = unsigned_abs-mul a b in
      let most : unsigned_abs a * unsigned_abs b ≤ 10 ^ 12 * 10 ^ 15 = mul-le-mul la lb in
      omega arith

  pub product_fits : SFits w128 (to_z w128 (of_z w128 a) *ℤ to_z w128 (of_z w128 b))
  product_fits = bits.product_fits a b la (omega arith)

  module _ (n sum : ℕ) (few : n < 8) (within : unsigned_abs (to_z w128 sum) ≤ n * 10 ^ 27) where
    pub sum_fits : SFits w128 (to_z w128 sum +ℤ to_z w128 (of_z w128 (to_z w128 (of_z w128 a) *ℤ to_z w128 (of_z w128 b))))
    sum_fits = bits.sum_fits a b la (omega arith) n sum (to_z w128 sum) refl few (omega arith)

    pub next_total : (f : ℕ → ℤ) → to_z w128 sum ≡ total n f → a *ℤ b ≡ f n
        → to_z w128 (of_z w128 (to_z w128 sum +ℤ to_z w128 (of_z w128 (to_z w128 (of_z w128 a) *ℤ to_z w128 (of_z w128 b))))) ≡ total (n + 1) f
    next_total = bits.next_total a b la (omega arith) n sum (to_z w128 sum) refl few (omega arith)

    pub next_small : unsigned_abs (to_z w128 (of_z w128 (to_z w128 sum +ℤ to_z w128 (of_z w128 (to_z w128 (of_z w128 a) *ℤ to_z w128 (of_z w128 b)))))) ≤ (n + 1) * 10 ^ 27
    next_small =
        let size = product_small in
        let is = bits.next_is a b la (omega arith) n sum (to_z w128 sum) refl few (omega arith) in
        rw is (omega (arith, ints))
