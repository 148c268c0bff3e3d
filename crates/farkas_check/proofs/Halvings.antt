-- How many halvings bring a number below 2 ^ 31, by its length in bits.
use Rattle.std.proofs.Common.{◌≡◌, ℕ, suc, ◌+◌, ◌-◌, ◌*◌, ◌/◌, ◌^◌, ◌<◌, ◌≤◌, ◌⊎◌, ⊎_elim, arith, ap, ◌∙◌, sym, subst}
use Rattle.std.specs.Int.Count.{count_leading_zeros, leading_of_zero}
use Rattle.std.proofs.Math.Pow.{pow_mono}
use Rattle.std.proofs.Math.Nat.{div-lt_iff_lt-mul, div-le_self}
use Rattle.std.proofs.lemmas.Nat.{leading_top, pow_pos, pow-add, le-div}
use Rattle.set_rules.specs.Gain.{shift_below}
use Rattle.set_rules.proofs.ShiftHolds.{shift-least}

-- a shift that is enough, where none below it is, is the least
least_is : (size z : ℕ) → size < 2 ^ 128 → ((y : ℕ) → y < z → 2 ^ 31 ≤ size / 2 ^ y) → size / 2 ^ z < 2 ^ 31
    → z ≡ shift_below (2 ^ 31) size
least_is size z small above below =
    let least = shift-least (2 ^ 31) size (omega arith) small in
    by (shift_below (2 ^ 31) size) (least.1 z below) (λ l. let h = above (shift_below (2 ^ 31) size) l in let k = least.0 in omega arith)
  where
    by : (s : ℕ) → s ≤ z → (s < z → ⊥) → z ≡ s
    by s low high = ⊎_elim (λ (l : s < z). absurd (high l)) (λ (e : z ≡ s). e) (grind arith)

-- a number of m bits, halved m - 31 times, is below 2 ^ 31
below_bits : (size m : ℕ) → size < 2 ^ m → size / 2 ^ (m - 31) < 2 ^ 31
below_bits size m h =
    let more : m ≤ 31 + (m - 31) = omega arith in
    let power : 2 ^ m ≤ 2 ^ 31 * 2 ^ (m - 31) = let wide = pow_mono more in let e = pow-add 2 31 (m - 31) in omega arith in
    (div-lt_iff_lt-mul (pow_pos (m - 31))).1 (omega arith)

-- and fewer halvings leave it at 2 ^ 31 or above
above_bits : (size j y : ℕ) → 2 ^ j ≤ size → y < suc j - 31 → 2 ^ 31 ≤ size / 2 ^ y
above_bits size j y h l =
    let less : 31 + y ≤ j = omega arith in
    let power : 2 ^ 31 * 2 ^ y ≤ 2 ^ j = let wide = pow_mono less in let e = pow-add 2 31 y in omega arith in
    le-div (2 ^ 31) size (2 ^ y) (pow_pos y) (omega arith)

-- so these are the halvings of a number by its leading zeros
module _ (size : ℕ) (fits : size < 2 ^ 128) where
  abbrev halvings : ℕ
  halvings = 128 - count_leading_zeros 128 size - 31

  none : size ≡ 0 → halvings ≡ 0
  none e = let zeros = ap (count_leading_zeros 128) e ∙ leading_of_zero 128 in omega arith

  pub halvings-below : size / 2 ^ halvings < 2 ^ 31
  halvings-below = ⊎_elim
      (λ (e : size ≡ 0). let small = div-le_self size (2 ^ halvings) in omega arith)
      (λ (some : 0 < size). let top = leading_top 128 size some fits in
      let is : halvings ≡ suc top.0 - 31 = let e = top.1 in omega arith in
      subst (λ z. size / 2 ^ z < 2 ^ 31) (sym is) (below_bits size (suc top.0) top.3))
      (either size)
    where
      either : (n : ℕ) → (n ≡ 0) ⊎ (0 < n)
      either n = grind arith

  pub halvings-least : halvings ≡ shift_below (2 ^ 31) size
  halvings-least = least_is size halvings fits (⊎_elim
      (λ (e : size ≡ 0) y l. let h = none e in absurd (omega arith))
      (λ (some : 0 < size) y l. let top = leading_top 128 size some fits in
      let is : halvings ≡ suc top.0 - 31 = let e = top.1 in omega arith in
      above_bits size top.0 y top.2 (omega arith))
      (either size)) halvings-below
    where
      either : (n : ℕ) → (n ≡ 0) ⊎ (0 < n)
      either n = grind arith
