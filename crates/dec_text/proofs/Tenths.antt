-- Which digits of a mantissa are whole tenths of a billionth, and what the others add.
use Rattle.std.proofs.Common.{◌≡◌, ℕ, ◌+◌, ◌-◌, ◌*◌, ◌^◌, ◌<◌, ◌≤◌, Bool, true, false, List, [], ◌++◌, length, take, drop, refl, sym, ◌∙◌, ap, arith, append_assoc}
use Rattle.std.specs.Prelude.{nat_le, if◌then◌else◌}
use Rattle.std.specs.Char.{is_ascii_digit}
use Rattle.std.specs.List.{list_all, list_any}
use Rattle.std.proofs.lemmas.List.{take-append-drop, take_all, drop_all, length-append, length-drop, append-nil}
use Rattle.std.proofs.lemmas.List.Folds.{list_all-append}
use Rattle.std.proofs.lemmas.Bool.Decides.{nat_tests}
use Rattle.std.proofs.lemmas.Nat.{pow-add}
use Rattle.std.proofs.Math.Nat.{mul-le-mul_right, one-le-pow, pow-le-pow_right, pow-suc}
use Rattle.dec_text.specs.Decimal.{number, is_not_zero}
use Rattle.dec_text.specs.Reading.{kept_tenths, lost_digits, lost_places, kept_places, in_billionths, rounded_tenths}
use Rattle.dec_text.proofs.Judged.{number_after-++, number_after-shift, number-lt, more_than_zero, only_zeros, digits_behind}
use Rattle.dec_text.proofs.Rounds.{Tells, rounded_is}

abbrev pub AreDigits : List ℕ → Type 0
AreDigits ds = list_all is_ascii_digit ds ≡ true

power_some : (k : ℕ) → 0 < 10 ^ k
power_some k = one-le-pow k 10 (omega arith)

pub number-append : (xs ys : List ℕ) → number (xs ++ ys) ≡ number xs * 10 ^ length ys + number ys
number-append xs ys = number_after-++ 0 xs ys ∙ number_after-shift (number xs) ys

pub digits-append : (xs ys : List ℕ) → AreDigits xs → AreDigits ys → AreDigits (xs ++ ys)
digits-append xs ys h k = list_all-append is_ascii_digit xs ys ∙ rw (h, k) refl

-- some digits tell by a digit that is not 0 that their number is not 0
tells_digits : (ds : List ℕ) → AreDigits ds → Tells (list_any is_not_zero ds) (number ds)
tells_digits ds h = record { some = more_than_zero 0 ds h; none = only_zeros ds }

tells_times : (is_fine : Bool) (n k : ℕ) → Tells is_fine n → Tells is_fine (n * 10 ^ k)
tells_times is_fine n k t = record {
  some = λ h. omega (arith, power_some k, mul-le-mul_right {m = 1} {n = n} (10 ^ k) (t.some h));
  none = λ h. rw (t.none h) (omega arith);
}

-- n is c of the unit and a rest
record Parts (n c unit rest : ℕ) : Type 0 where
  whole : n ≡ c * unit + rest
  less : rest < unit

-- the digits behind the point, moved by `behind` places
behind_parts : (w f : List ℕ) (b : ℕ) → AreDigits f → Parts (number (w ++ f) * 10 ^ b) (number (w ++ take b f) * 10 ^ (b - length f)) (10 ^ length f) (number (drop b f) * 10 ^ b)
behind_parts w f b h = by_order (nat_le b (length f)) refl
  where
    by_order : (t : Bool) → nat_le b (length f) ≡ t → Parts (number (w ++ f) * 10 ^ b) (number (w ++ take b f) * 10 ^ (b - length f)) (10 ^ length f) (number (drop b f) * 10 ^ b)
    by_order true e =
        let le : b ≤ length f = grind (arith, nat_tests, e) in
        let none : b - length f ≡ 0 = omega (arith, le) in
        let all : w ++ f ≡ (w ++ take b f) ++ drop b f = ap (λ ds. w ++ ds) (sym (take-append-drop b f)) ∙ sym (append_assoc w (take b f) (drop b f)) in
        let parts : number (w ++ f) ≡ number (w ++ take b f) * 10 ^ length (drop b f) + number (drop b f) = ap number all ∙ number-append (w ++ take b f) (drop b f) in
        let len : length f ≡ length (drop b f) + b = omega (arith, le, length-drop b f) in
        let unit : 10 ^ length f ≡ 10 ^ length (drop b f) * 10 ^ b = ap (λ k. 10 ^ k) len ∙ pow-add 10 (length (drop b f)) b in
        let more : (number (drop b f) + 1) * 10 ^ b ≤ 10 ^ length (drop b f) * 10 ^ b = mul-le-mul_right (10 ^ b) (omega (arith, number-lt (drop b f) (digits_behind b f h))) in
        record { whole = rw (none, parts, unit) (omega arith); less = omega (arith, more, unit, power_some b) }
    by_order false e =
        let le : length f ≤ b = grind (arith, nat_tests, e) in
        let len : b ≡ (b - length f) + length f = omega (arith, le) in
        let unit : 10 ^ b ≡ 10 ^ (b - length f) * 10 ^ length f = ap (λ k. 10 ^ k) len ∙ pow-add 10 (b - length f) (length f) in
        record { whole = rw (take_all b f le, drop_all b f le, unit) (omega arith); less = rw (drop_all b f le) (omega (arith, power_some (length f))) }

-- the digits before the point without the last `lost`
lost_parts : (w f : List ℕ) (lost : ℕ) → AreDigits w → AreDigits f → Parts (number (w ++ f)) (number (take (length w - lost) w)) (10 ^ (lost + length f)) (number (drop (length w - lost) w ++ f))
lost_parts w f lost hw hf = by_order (nat_le lost (length w)) refl
  where
    tail_digits : AreDigits (drop (length w - lost) w ++ f)
    tail_digits = digits-append (drop (length w - lost) w) f (digits_behind (length w - lost) w hw) hf

    all : number (w ++ f) ≡ number (take (length w - lost) w) * 10 ^ length (drop (length w - lost) w ++ f) + number (drop (length w - lost) w ++ f)
    all =
        ap (λ ds. number (ds ++ f)) (sym (take-append-drop (length w - lost) w))
        ∙ (ap number (append_assoc (take (length w - lost) w) (drop (length w - lost) w) f) ∙ number-append (take (length w - lost) w) (drop (length w - lost) w ++ f))

    by_order : (t : Bool) → nat_le lost (length w) ≡ t → Parts (number (w ++ f)) (number (take (length w - lost) w)) (10 ^ (lost + length f)) (number (drop (length w - lost) w ++ f))
    by_order true e =
        let le : lost ≤ length w = grind (arith, nat_tests, e) in
        let len : length (drop (length w - lost) w ++ f) ≡ lost + length f = omega (arith, le, length-append (drop (length w - lost) w) f, length-drop (length w - lost) w) in
        record { whole = rw len at all; less = rw len at (number-lt (drop (length w - lost) w ++ f) tail_digits) }
    by_order false e =
        let gt : length w < lost = grind (arith, nat_tests, e) in
        let none : length w - lost ≡ 0 = omega (arith, gt) in
        let small : number (w ++ f) < 10 ^ length (w ++ f) = number-lt (w ++ f) (digits-append w f hw hf) in
        let grown : 10 ^ length (w ++ f) ≤ 10 ^ (lost + length f) = pow-le-pow_right (omega arith) {i = length (w ++ f)} {j = lost + length f} (omega (arith, gt, length-append w f)) in
        record { whole = rw none (omega arith); less = rw none (omega (arith, small, grown)) }

by_parts : (negative is_fine : Bool) (n up down c r : ℕ) → Parts (10 * (n * 10 ^ (up + 9))) c (10 ^ down) r → Tells is_fine r
    → in_billionths (record { negative = negative; digits = n; up = up; down = down }) ≡ rounded_tenths negative c is_fine
unfolding in_billionths
by_parts negative is_fine n up down c r p t = rounded_is c r (n * 10 ^ (up + 9)) (10 ^ down) p.whole p.less negative is_fine t

ten_times : (n k : ℕ) → 10 * (n * 10 ^ (k + 9)) ≡ n * 10 ^ (k + 10)
ten_times n k = let more : 10 ^ (k + 10) ≡ 10 ^ (k + 9) * 10 = ap (λ j. 10 ^ j) (omega arith) ∙ pow-suc 10 (k + 9) in rw more (omega arith)

-- nothing before the point is lost
nothing_lost : (w f : List ℕ) (b : ℕ) → kept_tenths w f 0 b ≡ number (w ++ take b f) * 10 ^ (b - length f)
nothing_lost w f b = let all : take (length w - 0) w ≡ w = take_all (length w - 0) w (omega arith) in rw all refl

lost_behind : (w f : List ℕ) (b : ℕ) → lost_digits w f 0 b ≡ drop b f
lost_behind w f b = let none : drop (length w - 0) w ≡ [] = drop_all (length w - 0) w (omega arith) in rw none refl

module _ (w f : List ℕ) (hw : AreDigits w) (hf : AreDigits f) where
  times_power : (negative : Bool) (size : ℕ) → in_billionths (record { negative = negative; digits = number (w ++ f); up = size; down = length f + 0 })
      ≡ rounded_tenths negative (kept_tenths w f 0 (10 + size)) (list_any is_not_zero (lost_digits w f 0 (10 + size)))
  times_power negative size =
      let b = behind_parts w f (10 + size) hf in
      let e : length f + 0 ≡ length f = omega arith in
      let s : 10 + size ≡ size + 10 = omega arith in
      rw (e, nothing_lost w f (10 + size), lost_behind w f (10 + size))
      (by_parts negative (list_any is_not_zero (drop (10 + size) f)) (number (w ++ f)) size (length f) _ _
      (record { whole = ten_times (number (w ++ f)) size ∙ (ap (λ k. number (w ++ f) * 10 ^ k) (sym s) ∙ b.whole); less = b.less })
      (tells_times _ _ (10 + size) (tells_digits (drop (10 + size) f) (digits_behind (10 + size) f hf))))

  by_small_power : (negative : Bool) (size : ℕ) → size ≤ 10 → in_billionths (record { negative = negative; digits = number (w ++ f); up = 0; down = length f + size })
      ≡ rounded_tenths negative (kept_tenths w f 0 (10 - size)) (list_any is_not_zero (lost_digits w f 0 (10 - size)))
  by_small_power negative size le =
      let b = behind_parts w f (10 - size) hf in
      let unit : 10 ^ (length f + size) ≡ 10 ^ length f * 10 ^ size = pow-add 10 (length f) size in
      let ten : 10 ^ (0 + 10) ≡ 10 ^ (10 - size) * 10 ^ size = (let e : 0 + 10 ≡ (10 - size) + size = omega (arith, le) in ap (λ j. 10 ^ j) e ∙ pow-add 10 (10 - size) size) in
      let more : (number (drop (10 - size) f) * 10 ^ (10 - size) + 1) * 10 ^ size ≤ 10 ^ length f * 10 ^ size = mul-le-mul_right (10 ^ size) (omega (arith, b.less)) in
      let scaled : (number (w ++ f) * 10 ^ (10 - size)) * 10 ^ size ≡ (number (w ++ take (10 - size) f) * 10 ^ ((10 - size) - length f) * 10 ^ length f + number (drop (10 - size) f) * 10 ^ (10 - size)) * 10 ^ size = ap (λ n. n * 10 ^ size) b.whole in
      rw (nothing_lost w f (10 - size), lost_behind w f (10 - size))
      (by_parts negative (list_any is_not_zero (drop (10 - size) f)) (number (w ++ f)) 0 (length f + size) _ ((number (drop (10 - size) f) * 10 ^ (10 - size)) * 10 ^ size)
      (record { whole = ten_times (number (w ++ f)) 0 ∙ rw (ten, unit) (omega (arith, scaled)); less = rw unit (omega (arith, more, power_some size)) })
      (tells_times _ _ size (tells_times _ _ (10 - size) (tells_digits (drop (10 - size) f) (digits_behind (10 - size) f hf)))))

  by_large_power : (negative : Bool) (lost : ℕ) → in_billionths (record { negative = negative; digits = number (w ++ f); up = 0; down = length f + (lost + 10) })
      ≡ rounded_tenths negative (number (take (length w - lost) w)) (list_any is_not_zero (drop (length w - lost) w ++ f))
  by_large_power negative lost =
      let b = lost_parts w f lost hw hf in
      let e : length f + (lost + 10) ≡ (lost + length f) + 10 = omega arith in
      let unit : 10 ^ (length f + (lost + 10)) ≡ 10 ^ (lost + length f) * 10 ^ 10 = ap (λ j. 10 ^ j) e ∙ pow-add 10 (lost + length f) 10 in
      by_parts negative (list_any is_not_zero (drop (length w - lost) w ++ f)) (number (w ++ f)) 0 (length f + (lost + 10)) (number (take (length w - lost) w)) (number (drop (length w - lost) w ++ f) * 10 ^ 10)
      (record { whole = ten_times (number (w ++ f)) 0 ∙ rw unit (omega (arith, b.whole)); less = rw unit (omega (arith, b.less)) })
      (tells_times _ _ 10 (tells_digits (drop (length w - lost) w ++ f) (digits-append (drop (length w - lost) w) f (digits_behind (length w - lost) w hw) hf)))

  -- nothing behind the point is kept
  none_kept : (lost : ℕ) → kept_tenths w f lost 0 ≡ number (take (length w - lost) w)
  none_kept lost =
      let none : 0 - length f ≡ 0 = omega arith in
      rw (append-nil (take (length w - lost) w), none) (omega arith)

  pub scaled_is : (negative divided : Bool) (size : ℕ)
      → in_billionths (record { negative = negative; digits = number (w ++ f); up = if divided then 0 else size; down = length f + (if divided then size else 0) })
      ≡ rounded_tenths negative (kept_tenths w f (lost_places divided size) (kept_places divided size)) (list_any is_not_zero (lost_digits w f (lost_places divided size) (kept_places divided size)))
  scaled_is negative false size = times_power negative size
  scaled_is negative true size = by_order (nat_le size 10) refl
    where
      by_order : (t : Bool) → nat_le size 10 ≡ t → in_billionths (record { negative = negative; digits = number (w ++ f); up = 0; down = length f + size })
          ≡ rounded_tenths negative (kept_tenths w f (size - 10) (10 - size)) (list_any is_not_zero (lost_digits w f (size - 10) (10 - size)))
      by_order true e =
          let le : size ≤ 10 = grind (arith, nat_tests, e) in
          let z : size - 10 ≡ 0 = omega (arith, le) in
          rw z (by_small_power negative size le)
      by_order false e =
          let gt : 10 < size = grind (arith, nat_tests, e) in
          let z : 10 - size ≡ 0 = omega (arith, gt) in
          let s : size ≡ (size - 10) + 10 = omega (arith, gt) in
          rw (z, none_kept (size - 10)) (ap (λ k. in_billionths (record { negative = negative; digits = number (w ++ f); up = 0; down = length f + k })) s ∙ by_large_power negative (size - 10))
