-- A gain of one of two rows that a loss of the other outweighs.
use Rattle.std.proofs.Common.{◌≡◌, ℕ, zero, suc, ◌+◌, ◌-◌, ◌*◌, ◌<◌, ◌≤◌, ℤ, pos, ◌-ℤ◌, unsigned_abs, ap, ◌∙◌, sym, arith, ◌⊎◌, inl, inr}
use Rattle.std.proofs.Math.Nat.{mul_assoc, mul_comm, mul-le-mul_left, mul-le-mul_right, le_of_mul-le-mul_left}
use Rattle.std.proofs.lemmas.Int.{ints}

turned : (a b c : ℕ) → a * (b * c) ≡ c * (b * a)
turned a b c = mul_comm a (b * c) ∙ ap (λ n. n * a) (mul_comm b c) ∙ mul_assoc c b a

swapped : (a b c : ℕ) → a * (b * c) ≡ b * (a * c)
swapped a b c = sym (mul_assoc a b c) ∙ ap (λ n. n * c) (mul_comm a b) ∙ mul_assoc b a c

-- so many times the gain is no more than so many times the loss and how far so many times the shared sums are apart
module _ (u v gain shared loss other : ℕ) (within : gain ≤ shared) (outweighed : gain * other ≤ loss * shared) where
  scaled : shared * (u * gain) ≡ gain * (u * shared)
  scaled = turned shared u gain

  weighed : gain * (v * other) ≤ shared * (v * loss)
  weighed =
      let gained = swapped gain v other in
      let lost = swapped shared v loss ∙ ap (λ n. v * n) (mul_comm shared loss) in
      let more = mul-le-mul_left v outweighed in
      omega arith

  above : (left : ℕ) → u * shared ≡ v * other + left → 0 < shared → u * gain ≤ v * loss + left
  above left e some =
      let split = ap (λ n. gain * n) e in
      let rest : gain * left ≤ shared * left = mul-le-mul_right left within in
      let parts = scaled in
      let h = weighed in
      le_of_mul-le-mul_left {m = u * gain} {n = v * loss + left} {k = shared} (omega arith) some

  below : u * shared ≤ v * other → 0 < shared → u * gain ≤ v * loss
  below less some =
      let more : gain * (u * shared) ≤ gain * (v * other) = mul-le-mul_left gain less in
      let parts = scaled in
      let h = weighed in
      le_of_mul-le-mul_left {m = u * gain} {n = v * loss} {k = shared} (omega arith) some

  pub no_more : u * gain ≤ v * loss + unsigned_abs (pos (u * shared) -ℤ pos (v * other))
  no_more = by (which shared) (order (u * shared) (v * other))
    where
      which : (n : ℕ) → (n ≡ 0) ⊎ (0 < n)
      which n = grind arith

      order : (m n : ℕ) → (m ≤ n) ⊎ (n ≤ m)
      order m n = grind arith

      by : (shared ≡ 0) ⊎ (0 < shared) → (u * shared ≤ v * other) ⊎ (v * other ≤ u * shared) → u * gain ≤ v * loss + unsigned_abs (pos (u * shared) -ℤ pos (v * other))
      by (inl none) o = let e : gain ≡ 0 = omega (arith, within) in let zero_gain = ap (λ n. u * n) e in omega arith
      by (inr some) (inl less) = let h = below less some in omega arith
      by (inr some) (inr more) = let h = above (u * shared - v * other) (omega (arith, more)) some in omega (arith, ints, more)
