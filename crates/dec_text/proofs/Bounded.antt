-- An exponent past a bound that the mantissa's length gives changes nothing.
use Rattle.std.proofs.Common.{◌≡◌, ℕ, zero, suc, ◌+◌, ◌-◌, ◌*◌, ◌/◌, ◌^◌, ◌<◌, ◌≤◌, min, Bool, true, false, ◌&&◌, ◌||◌, List, [], ◌∷◌, ◌++◌, length, pos, Ok, Err, refl, sym, ◌∙◌, arith}
use Rattle.std.specs.Prelude.{◌==◌, nat_lt, nat_le, if◌then◌else◌}
use Rattle.std.specs.List.{position_or_len}
use Rattle.std.proofs.lemmas.List.{length-append, length-take, length-drop}
use Rattle.std.proofs.Math.Nat.{div-eq_of_lt, mod-eq_of_lt, one-le-pow, pow-le-pow_right, mul-le-mul_right, zero-mul, le_trans}
use Rattle.std.proofs.lemmas.Nat.{le-div, pow-add}
use Rattle.std.proofs.lemmas.Bool.Decides.{nat_tests}
use Rattle.dec_text.specs.Decimal.{number, after_sign, is_negative, is_point, before_point, after_point}
use Rattle.dec_text.specs.Reading.{rounded, in_billionths, whole_of, fraction_of, is_exact_form, scaled_reading}
use Rattle.fixed_mat.specs.declared.reading.Reading.TheVariants.{Value}
use Rattle.dec_text.specs.declared.reading.DecFault.TheVariants.{TooLarge}
use Rattle.dec_text.proofs.Judged.{both, number-lt}
use Rattle.dec_text.proofs.Rounds.{sub_pos, sub_neg, not_zero}
use Rattle.dec_text.proofs.Tenths.{AreDigits, digits-append}

-- nothing is nothing
zero_rounded : (negative : Bool) (q : ℕ) → 0 < q → rounded negative 0 q ≡ Ok (Value (pos 0) (pos 0))
unfolding rounded
zero_rounded true q h = rw (div-eq_of_lt {n = 0 + q} {m = 2 * q} (omega arith), mod-eq_of_lt {n = 0} {m = q} h) refl
zero_rounded false q h = rw (div-eq_of_lt {n = 0 + q} {m = 2 * q} (omega arith), mod-eq_of_lt {n = 0} {m = q} h) refl

some_left : (p : ℕ) → 0 < p → (p == 0) ≡ false
some_left p h = not_zero p (λ e. omega (arith, h, e))

-- less than a tenth of a billionth, but not nothing
small_up : (p q : ℕ) → 0 < p → 10 * p ≤ q → rounded false p q ≡ Ok (Value (pos 0) (pos 1))
unfolding rounded
small_up p q some h = rw (div-eq_of_lt {n = 2 * p + q} {m = 2 * q} (omega (arith, some, h)), mod-eq_of_lt {n = p} {m = q} (omega (arith, some, h)), some_left p some) refl

small_down : (p q : ℕ) → 0 < p → 10 * p ≤ q → rounded true p q ≡ Ok (Value (pos 0) (pos 1))
unfolding rounded
small_down p q some h = rw (sub_pos (2 * p) q (omega (arith, some, h)), div-eq_of_lt {n = q - 2 * p} {m = 2 * q} (omega (arith, some, h)), mod-eq_of_lt {n = p} {m = q} (omega (arith, some, h)), some_left p some) refl

small_rounded : (negative : Bool) (p q : ℕ) → 0 < p → 10 * p ≤ q → rounded negative p q ≡ Ok (Value (pos 0) (pos 1))
small_rounded true p q some h = small_down p q some h
small_rounded false p q some h = small_up p q some h

-- many billionths
large_up : (p q : ℕ) → 0 < q → 10000000000000000000 * q ≤ p → rounded false p q ≡ Err TooLarge
unfolding rounded
large_up p q some h =
    let big : 5000000000000000000 ≤ (2 * p + q) / (2 * q) = le-div 5000000000000000000 (2 * p + q) (2 * q) (omega (arith, some)) (omega (arith, h)) in
    let past : nat_lt 1000000000000000000 ((2 * p + q) / (2 * q)) ≡ true = grind (arith, nat_tests, big) in
    rw past refl

large_down : (p q : ℕ) → 0 < q → 10000000000000000000 * q ≤ p → rounded true p q ≡ Err TooLarge
unfolding rounded
large_down p q some h =
    let big : 2000000000000000000 ≤ (2 * p - suc q) / (2 * q) = le-div 2000000000000000000 (2 * p - suc q) (2 * q) (omega (arith, some)) (omega (arith, some, h)) in
    let past : nat_lt 1000000000000000000 (suc ((2 * p - suc q) / (2 * q))) ≡ true = grind (arith, nat_tests, big) in
    rw (sub_neg (2 * p) q (omega (arith, some, h)), past) refl

large_rounded : (negative : Bool) (p q : ℕ) → 0 < q → 10000000000000000000 * q ≤ p → rounded negative p q ≡ Err TooLarge
large_rounded true p q some h = large_down p q some h
large_rounded false p q some h = large_up p q some h

power_some : (k : ℕ) → 0 < 10 ^ k
power_some k = one-le-pow k 10 (omega arith)

-- two exponents that are both ten more than the digits of the mantissa
far_up : (negative : Bool) (n d m e f : ℕ) → d ≤ m → m + 10 ≤ e → m + 10 ≤ f → rounded negative (n * 10 ^ (e + 9)) (10 ^ d) ≡ rounded negative (n * 10 ^ (f + 9)) (10 ^ d)
far_up negative zero d m e f short he hf = rw (zero-mul (10 ^ (e + 9)), zero-mul (10 ^ (f + 9))) refl
far_up negative (suc n) d m e f short he hf = large e he ∙ sym (large f hf)
  where
    large : (g : ℕ) → m + 10 ≤ g → rounded negative (suc n * 10 ^ (g + 9)) (10 ^ d) ≡ Err TooLarge
    large g hg =
        let grown : 10 ^ (19 + d) ≤ 10 ^ (g + 9) = pow-le-pow_right (omega arith) {i = 19 + d} {j = g + 9} (omega (arith, short, hg)) in
        let parts : 10 ^ (19 + d) ≡ 10 ^ 19 * 10 ^ d = pow-add 10 19 d in
        let more : 1 * 10 ^ (g + 9) ≤ suc n * 10 ^ (g + 9) = mul-le-mul_right {m = 1} {n = suc n} (10 ^ (g + 9)) (omega arith) in
        large_rounded negative (suc n * 10 ^ (g + 9)) (10 ^ d) (power_some d) (omega (arith, grown, parts, more))

far_down : (negative : Bool) (n d m e f : ℕ) → n < 10 ^ m → m + 10 ≤ e → m + 10 ≤ f → rounded negative (n * 10 ^ (0 + 9)) (10 ^ (d + e)) ≡ rounded negative (n * 10 ^ (0 + 9)) (10 ^ (d + f))
far_down negative zero d m e f below he hf = zero_rounded negative (10 ^ (d + e)) (power_some (d + e)) ∙ sym (zero_rounded negative (10 ^ (d + f)) (power_some (d + f)))
far_down negative (suc n) d m e f below he hf = small e he ∙ sym (small f hf)
  where
    small : (g : ℕ) → m + 10 ≤ g → rounded negative (suc n * 10 ^ (0 + 9)) (10 ^ (d + g)) ≡ Ok (Value (pos 0) (pos 1))
    small g hg =
        let grown : 10 ^ (m + 10) ≤ 10 ^ (d + g) = pow-le-pow_right (omega arith) {i = m + 10} {j = d + g} (omega (arith, hg)) in
        let parts : 10 ^ (m + 10) ≡ 10 ^ m * 10 ^ 10 = pow-add 10 m 10 in
        small_rounded negative (suc n * 10 ^ (0 + 9)) (10 ^ (d + g)) (omega arith) (omega (arith, grown, parts, below))

-- the exponent held below the bound, and as it is
bounded_value : (negative divided : Bool) (n d m e : ℕ) → d ≤ m → n < 10 ^ m
    → in_billionths (record { negative = negative; digits = n; up = if divided then 0 else min e (m + 10); down = d + (if divided then min e (m + 10) else 0) })
    ≡ in_billionths (record { negative = negative; digits = n; up = if divided then 0 else e; down = d + (if divided then e else 0) })
unfolding in_billionths
bounded_value negative true n d m e short below = by_size (nat_le e (m + 10)) refl
  where
    by_size : (b : Bool) → nat_le e (m + 10) ≡ b → rounded negative (n * 10 ^ (0 + 9)) (10 ^ (d + min e (m + 10))) ≡ rounded negative (n * 10 ^ (0 + 9)) (10 ^ (d + e))
    by_size true h = let le : e ≤ m + 10 = grind (arith, nat_tests, h) in let same : min e (m + 10) ≡ e = omega (arith, le) in rw same refl
    by_size false h = let gt : m + 10 ≤ e = grind (arith, nat_tests, h) in let same : min e (m + 10) ≡ m + 10 = omega (arith, gt) in
        rw same (far_down negative n d m (m + 10) e below (omega arith) gt)
bounded_value negative false n d m e short below = by_size (nat_le e (m + 10)) refl
  where
    by_size : (b : Bool) → nat_le e (m + 10) ≡ b → rounded negative (n * 10 ^ (min e (m + 10) + 9)) (10 ^ (d + 0)) ≡ rounded negative (n * 10 ^ (e + 9)) (10 ^ (d + 0))
    by_size true h = let le : e ≤ m + 10 = grind (arith, nat_tests, h) in let same : min e (m + 10) ≡ e = omega (arith, le) in rw same refl
    by_size false h = let gt : m + 10 ≤ e = grind (arith, nat_tests, h) in let same : min e (m + 10) ≡ m + 10 = omega (arith, gt) in
        rw same (far_up negative n (d + 0) m (m + 10) e (omega (arith, short)) (omega arith) gt)

-- Lengths of the parts of a text

after_sign_short : (text : List ℕ) → length (after_sign text) ≤ length text
after_sign_short [] = omega arith
after_sign_short (c ∷ cs) = by_sign ((c == 45) || (c == 43))
  where
    by_sign : (b : Bool) → length (if b then cs else (c ∷ cs)) ≤ suc (length cs)
    by_sign true = omega arith
    by_sign false = omega arith

-- the parts round the first point
record Short (body : List ℕ) : Type 0 where
  both_parts : length (before_point body ++ after_point body) ≤ length body
  behind : length (after_point body) ≤ length body

parts_short : (body : List ℕ) → Short body
parts_short body = by_place (nat_lt (position_or_len is_point body) (length body)) refl
  where
    by_place : (b : Bool) → nat_lt (position_or_len is_point body) (length body) ≡ b → Short body
    by_place true e = record {
      both_parts = rw (e, length-append, length-take, length-drop) (omega arith);
      behind = rw (e, length-drop) (omega arith);
    }
    by_place false e = record { both_parts = rw (e, length-append) (omega arith); behind = rw e (omega arith) }

are_digits_both : (a b d : Bool) → (a && (b && d)) ≡ true → (b ≡ true) × (d ≡ true)
are_digits_both a b d h = both b d (both a (b && d) h).1

pub digits_of_form : (mantissa : List ℕ) → is_exact_form mantissa ≡ true → AreDigits (whole_of mantissa) × AreDigits (fraction_of mantissa)
digits_of_form mantissa h = are_digits_both _ _ _ h

-- the law: an exponent past the bound is as good as the bound
pub bounded_size : (mantissa : List ℕ) (divided : Bool) (size : ℕ) → scaled_reading mantissa divided (min size (length mantissa + 10)) ≡ scaled_reading mantissa divided size
bounded_size mantissa divided size = by_form (is_exact_form mantissa) refl
  where
    by_form : (b : Bool) → is_exact_form mantissa ≡ b → scaled_reading mantissa divided (min size (length mantissa + 10)) ≡ scaled_reading mantissa divided size
    by_form false h = rw h refl
    by_form true h =
        let ds = digits_of_form mantissa h in
        let short = parts_short (after_sign mantissa) in
        let sign = after_sign_short mantissa in
        let all = whole_of mantissa ++ fraction_of mantissa in
        let below : number all < 10 ^ length all = number-lt all (digits-append (whole_of mantissa) (fraction_of mantissa) ds.0 ds.1) in
        let room : 10 ^ length all ≤ 10 ^ length mantissa = pow-le-pow_right (omega arith) {i = length all} {j = length mantissa} (le_trans short.both_parts sign) in
        rw h (bounded_value (is_negative mantissa) divided (number all) (length (fraction_of mantissa)) (length mantissa) size (le_trans short.behind sign) (omega (arith, below, room)))
