-- A number of billionths is rounded by its whole tenths, and by whether there is more.
use Rattle.std.proofs.Common.{◌≡◌, ℕ, zero, suc, ◌+◌, ◌-◌, ◌*◌, ◌/◌, ◌%◌, ◌<◌, ◌≤◌, min, Bool, true, false, ◌&&◌, ◌||◌, not, pos, negsuc, neg_ℤ, ◌+ℤ◌, Err, refl, sym, ◌∙◌, ap, arith}
use Rattle.std.specs.Prelude.{◌==◌, nat_lt, nat_le, if◌then◌else◌, unsigned_abs}
use Rattle.std.proofs.lemmas.Nat.{div-mul-add, mod-mul-add, div-add-mod'}
use Rattle.std.proofs.Math.Nat.{div-eq_of_lt-le, div-eq_of_lt, mul-le-mul_right}
use Rattle.std.proofs.lemmas.Bool.Decides.{nat_tests}
use Rattle.dec_text.specs.declared.reading.DecFault.TheVariants.{TooLarge}
use Rattle.dec_text.specs.declared.field.TheConstants.{MOST_TENTHS}
use Rattle.dec_text.specs.Reading.{signed, nearest, slack_of, rounded, rounded_tenths}

-- minus n, and m at least as much
pub sub_pos : (n m : ℕ) → n ≤ m → neg_ℤ (pos n) +ℤ pos m ≡ pos (m - n)
sub_pos zero m h = ap pos (omega arith)
sub_pos (suc n) m h = let no : nat_lt m (suc n) ≡ false = grind (arith, nat_tests, h) in rw no refl

-- minus n, and m less
pub sub_neg : (n m : ℕ) → m < n → neg_ℤ (pos n) +ℤ pos m ≡ negsuc (n - suc m)
sub_neg zero m h = absurd (omega (arith, h))
sub_neg (suc n) m h = let yes : nat_lt m (suc n) ≡ true = grind (arith, nat_tests, h) in rw yes refl

pub not_zero : (n : ℕ) → (n ≡ 0 → ⊥) → (n == 0) ≡ false
not_zero n h = grind (arith, nat_tests)

is_zero : (n : ℕ) → n ≡ 0 → (n == 0) ≡ true
is_zero n h = grind (arith, nat_tests)

-- p / q is c tenths, and r / q of a tenth more
module _ (c r p q : ℕ) (is : 10 * p ≡ c * q + r) (less : r < q) where
  -- a half is rounded up
  up : nearest false p q ≡ signed false ((c + 5) / 10)
  up =
      let low : 10 * ((c + 5) / 10) * q ≤ (c + 5) * q = mul-le-mul_right {m = 10 * ((c + 5) / 10)} {n = c + 5} q (omega arith) in
      let high : (c + 5 + 1) * q ≤ (10 * ((c + 5) / 10) + 10) * q = mul-le-mul_right {m = c + 5 + 1} {n = 10 * ((c + 5) / 10) + 10} q (omega arith) in
      ap pos (div-eq_of_lt-le (2 * q) {m = 2 * p + q} (omega (arith, is, less, low)) (omega (arith, is, less, high)))

-- below nothing: past m and a half, and up to the next half
down_past : (m p q : ℕ) → (10 * m + 5) * q < 10 * p → 10 * p ≤ (10 * m + 15) * q → nearest true p q ≡ signed true (suc m)
down_past m p q low high =
    let same : (2 * p - suc q) / (2 * q) ≡ m = div-eq_of_lt-le (2 * q) {m = 2 * p - suc q} (omega (arith, low)) (omega (arith, low, high)) in
    rw (sub_neg (2 * p) q (omega (arith, low)), same) refl

-- at most a half
down_none : (p q : ℕ) → 0 < q → 10 * p ≤ 5 * q → nearest true p q ≡ signed true 0
down_none p q some half = rw (sub_pos (2 * p) q (omega (arith, half)), div-eq_of_lt {n = q - 2 * p} {m = 2 * q} (omega (arith, some, half))) refl

-- what is said of more than the tenths: whether there is some
pub record Tells (is_fine : Bool) (r : ℕ) : Type 0 where
  pub some : is_fine ≡ true → 0 < r
  pub none : is_fine ≡ false → r ≡ 0

module _ (c r p q : ℕ) (is : 10 * p ≡ c * q + r) (less : r < q) where
  down_fine : (m : ℕ) → (c + 5) / 10 ≡ m → 0 < r → nearest true p q ≡ signed true m
  down_fine zero e some =
      let high : c * q ≤ 4 * q = mul-le-mul_right {m = c} {n = 4} q (omega (arith, e)) in
      down_none p q (omega (arith, less)) (omega (arith, is, less, high))
  down_fine (suc m) e some =
      let low : (10 * m + 5) * q ≤ c * q = mul-le-mul_right {m = 10 * m + 5} {n = c} q (omega (arith, e)) in
      let high : c * q ≤ (10 * m + 14) * q = mul-le-mul_right {m = c} {n = 10 * m + 14} q (omega (arith, e)) in
      (down_past m p q (omega (arith, is, some, low)) (omega (arith, is, less, high)))

  down_even : (m : ℕ) → (c + 4) / 10 ≡ m → r ≡ 0 → nearest true p q ≡ signed true m
  down_even zero e none =
      let high : c * q ≤ 5 * q = mul-le-mul_right {m = c} {n = 5} q (omega (arith, e)) in
      down_none p q (omega (arith, less)) (omega (arith, is, none, high))
  down_even (suc m) e none =
      let low : (10 * m + 6) * q ≤ c * q = mul-le-mul_right {m = 10 * m + 6} {n = c} q (omega (arith, e)) in
      let high : c * q ≤ (10 * m + 15) * q = mul-le-mul_right {m = c} {n = 10 * m + 15} q (omega (arith, e)) in
      (down_past m p q (omega (arith, is, less, low)) (omega (arith, is, none, high)))

  nearest_is : (negative is_fine : Bool) → Tells is_fine r → nearest negative p q ≡ signed negative ((c + (if negative && not is_fine then 4 else 5)) / 10)
  nearest_is false is_fine t = up c r p q is less
  nearest_is true true t = down_fine _ refl (t.some refl)
  nearest_is true false t = down_even _ refl (t.none refl)

  -- q divides p just where it divides ten times p into whole tens
  whole_tens : p % q ≡ 0 → (c % 10 ≡ 0) × (r ≡ 0)
  whole_tens e =
      let whole : p ≡ p / q * q = omega (arith, div-add-mod' p q, e) in
      let same : c * q + r ≡ (10 * (p / q)) * q + 0 = omega (arith, is, whole) in
      let c_is : c ≡ 10 * (p / q) = sym (div-mul-add c q r less) ∙ (ap (λ n. n / q) same ∙ div-mul-add (10 * (p / q)) q 0 (omega (arith, less))) in
      let r_is : r ≡ 0 = sym (mod-mul-add c q r less) ∙ (ap (λ n. n % q) same ∙ mod-mul-add (10 * (p / q)) q 0 (omega (arith, less))) in
      (omega (arith, c_is), r_is)

  from_tens : c % 10 ≡ 0 → r ≡ 0 → p % q ≡ 0
  from_tens e f =
      let tens : c ≡ 10 * (c / 10) = omega (arith, e) in
      let one_part : 10 * p ≡ c * q = omega (arith, is, f) in
      let ten_p : 10 * p ≡ (10 * (c / 10)) * q = one_part ∙ ap (λ n. n * q) tens in
      let whole : p ≡ (c / 10) * q + 0 = omega (arith, ten_p) in
      ap (λ n. n % q) whole ∙ mod-mul-add (c / 10) q 0 (omega (arith, less))

  slack_is : (is_fine : Bool) → Tells is_fine r → slack_of p q ≡ (if is_fine || not ((c % 10) == 0) then 1 else 0)
  slack_is true t = rw (not_zero (p % q) (λ e. omega (arith, t.some refl, (whole_tens e).1))) refl
  slack_is false t = by_tens ((c % 10) == 0) refl
    where
      by_tens : (b : Bool) → ((c % 10) == 0) ≡ b → slack_of p q ≡ (if not ((c % 10) == 0) then 1 else 0)
      by_tens true e = rw (e, is_zero (p % q) (from_tens (grind (arith, nat_tests, e)) (t.none refl))) refl
      by_tens false e = rw (e, not_zero (p % q) (λ f. grind (arith, nat_tests, e, (whole_tens f).0))) refl

  pub rounded_is : (negative is_fine : Bool) → Tells is_fine r → rounded negative p q ≡ rounded_tenths negative c is_fine
  unfolding rounded
  rounded_is negative is_fine t = rw (nearest_is negative is_fine t, slack_is is_fine t) refl

pub unsigned_abs-signed : (negative : Bool) (n : ℕ) → unsigned_abs (signed negative n) ≡ n
unsigned_abs-signed false n = refl
unsigned_abs-signed true zero = refl
unsigned_abs-signed true (suc n) = omega arith

large : (negative is_fine : Bool) (c : ℕ) → MOST_TENTHS ≤ c → rounded_tenths negative c is_fine ≡ Err TooLarge
large negative is_fine c h =
    let past : nat_lt 1000000000000000000 ((c + (if negative && not is_fine then 4 else 5)) / 10) ≡ true = grind (arith, nat_tests, half_more ((c + (if negative && not is_fine then 4 else 5)) / 10) (negative && not is_fine) refl) in
    rw (unsigned_abs-signed negative ((c + (if negative && not is_fine then 4 else 5)) / 10), past) refl
  where
    half_more : (n : ℕ) (b : Bool) → (c + (if b then 4 else 5)) / 10 ≡ n → 1000000000000000001 ≤ n
    half_more n true e = omega (arith, h, e)
    half_more n false e = omega (arith, h, e)

-- so many tenths and more are all too large
pub capped : (negative is_fine : Bool) (c : ℕ) → rounded_tenths negative (min c MOST_TENTHS) is_fine ≡ rounded_tenths negative c is_fine
capped negative is_fine c = by_order (nat_le c MOST_TENTHS) refl
  where
    by_order : (b : Bool) → nat_le c MOST_TENTHS ≡ b → rounded_tenths negative (min c MOST_TENTHS) is_fine ≡ rounded_tenths negative c is_fine
    by_order true e = let le : c ≤ MOST_TENTHS = grind (arith, nat_tests, e) in ap (λ n. rounded_tenths negative n is_fine) (omega (arith, le))
    by_order false e =
        let gt : MOST_TENTHS ≤ c = grind (arith, nat_tests, e) in
        let m : min c MOST_TENTHS ≡ MOST_TENTHS = omega (arith, gt) in
        ap (λ n. rounded_tenths negative n is_fine) m ∙ (large negative is_fine MOST_TENTHS (omega arith) ∙ sym (large negative is_fine c gt))
