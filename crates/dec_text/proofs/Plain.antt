-- A number that is printed is a reading of that number.
use Rattle.std.proofs.Common.{◌≡◌, ℕ, suc, ◌+◌, ◌*◌, ◌/◌, ◌%◌, ◌^◌, ◌<◌, ◌≤◌, Bool, true, false, ◌&&◌, ◌||◌, List, [], ◌∷◌, ◌++◌, length, refl, ◌∙◌, ap, arith, None, Ok}
use Rattle.std.specs.Prelude.{◌==◌, nat_lt, not, if◌then◌else◌, ℤ, pos, negsuc, decimal, unsigned_abs}
use Rattle.std.specs.Char.{is_ascii_digit}
use Rattle.std.specs.List.{list_all, position, position_or_len}
use Rattle.std.proofs.lemmas.List.Folds.{list_all-append}
use Rattle.std.proofs.lemmas.List.{length-append}
use Rattle.std.proofs.lemmas.Bool.Decides.{nat_tests}
use Rattle.std.proofs.lemmas.Fmt.{decimal_nonempty}
use Rattle.fixed_mat.specs.declared.reading.Reading.TheVariants.{Value}
use Rattle.dec_text.specs.Decimal.{number, after_sign, is_negative}
use Rattle.dec_text.specs.Printed.{printed, places_text}
use Rattle.dec_text.specs.Reading.{is_gap, without_front_gaps, before_text, without_back_gaps, without_gaps, is_missing, is_e, in_billionths, in_range, signed, reading_of}
use Rattle.dec_text.proofs.Judged.{both, lt_no}
use Rattle.dec_text.proofs.Rounds.{rounded_is, unsigned_abs-signed}
use Rattle.dec_text.proofs.Tenths.{number-append}
use Rattle.dec_text.proofs.Printed.{Writes, whole_writes, places_write, length-places, unsigned, positive, parts, before, after}

-- the bytes of a printed number
abbrev is_plain : ℕ → Bool
is_plain c = is_ascii_digit c || ((c == 46) || (c == 45))

plain_gap : (c : ℕ) → is_plain c ≡ true → is_gap c ≡ false
plain_gap c h = grind (arith, nat_tests)

plain_e : (c : ℕ) → is_plain c ≡ true → is_e c ≡ false
plain_e c h = grind (arith, nat_tests)

plain_big_n : (c : ℕ) → is_plain c ≡ true → (c == 78) ≡ false
plain_big_n c h = grind (arith, nat_tests)

plain_small_n : (c : ℕ) → is_plain c ≡ true → (c == 110) ≡ false
plain_small_n c h = grind (arith, nat_tests)

front_stays : (text : List ℕ) → list_all is_plain text ≡ true → without_front_gaps text ≡ text
front_stays [] h = refl
front_stays (c ∷ cs) h = rw (plain_gap c (both _ _ h).0) refl

back_stays : (text : List ℕ) → list_all is_plain text ≡ true → without_back_gaps text ≡ text
back_stays [] h = refl
back_stays (c ∷ cs) h = ap (before_text c) (back_stays cs (both (is_plain c) (list_all is_plain cs) h).1) ∙ some cs
  where
    no_gap : is_gap c ≡ false
    no_gap = plain_gap c (both (is_plain c) (list_all is_plain cs) h).0

    some : (cs : List ℕ) → before_text c cs ≡ c ∷ cs
    some [] = rw no_gap refl
    some (d ∷ ds) = refl

gaps_stay : (text : List ℕ) → list_all is_plain text ≡ true → without_gaps text ≡ text
gaps_stay text h = ap without_back_gaps (front_stays text h) ∙ back_stays text h

not_missing : (text : List ℕ) → 0 < length text → list_all is_plain text ≡ true → is_missing text ≡ false
not_missing [] some h = absurd (omega (arith, some))
not_missing (c ∷ cs) some h = rw (plain_big_n c (both _ _ h).0, plain_small_n c (both _ _ h).0) refl

no_e_before : (text : List ℕ) → list_all is_plain text ≡ true → position_or_len is_e text ≡ length text
no_e_before [] h = refl
no_e_before (c ∷ cs) h = rw (plain_e c (both _ _ h).0) (ap (λ k. 1 + k) (no_e_before cs (both _ _ h).1) ∙ omega arith)

no_e : (text : List ℕ) → list_all is_plain text ≡ true → position is_e text ≡ None
no_e text h = rw (no_e_before text h, lt_no (length text) (length text) (omega arith)) refl

digits_plain : (ds : List ℕ) → list_all is_ascii_digit ds ≡ true → list_all is_plain ds ≡ true
digits_plain [] h = refl
digits_plain (c ∷ cs) h =
    let parts = both (is_ascii_digit c) (list_all is_ascii_digit cs) h in
    let first : is_ascii_digit c ≡ true = parts.0 in
    rw (first, digits_plain cs parts.1) refl

body_plain : (w f : List ℕ) → list_all is_ascii_digit w ≡ true → list_all is_ascii_digit f ≡ true → list_all is_plain (w ++ 46 ∷ f) ≡ true
body_plain w f h k = list_all-append is_plain w (46 ∷ f) ∙ rw (digits_plain w h, digits_plain f k) refl

-- ten times m tenths are m
whole_tenths : (negative : Bool) (m : ℕ) → m ≤ 1000000000000000000 → in_billionths (record { negative = negative; digits = m; up = 0; down = 9 + 0 }) ≡ Ok (Value (signed negative m) (pos 0))
unfolding in_billionths
whole_tenths negative m h =
    rounded_is (10 * m) 0 (m * 10 ^ (0 + 9)) (10 ^ (9 + 0)) (omega arith) (omega arith) negative false (record { some = λ e. absurd (cc); none = λ e. refl })
    ∙ by_sign negative
  where
    same : (k : ℕ) → k < 10 → (10 * m + k) / 10 ≡ m
    same k s = omega (arith, s)

    tens : (10 * m) % 10 ≡ 0
    tens = omega arith

    small : nat_lt 1000000000000000000 m ≡ false
    small = lt_no _ _ h

    by_sign : (negative : Bool) → in_range (signed negative ((10 * m + (if negative && true then 4 else 5)) / 10)) (if false || not (((10 * m) % 10) == 0) then 1 else 0) ≡ Ok (Value (signed negative m) (pos 0))
    by_sign true = rw (same 4 (omega arith), tens, unsigned_abs-signed true m, small) refl
    by_sign false = rw (same 5 (omega arith), tens, small) refl

-- a sign or none, whole units, a point and nine places
number_read : (negative : Bool) (text w f : List ℕ) (m : ℕ) → list_all is_plain text ≡ true → 0 < length text → after_sign text ≡ w ++ 46 ∷ f → is_negative text ≡ negative
    → Writes w (m / 1000000000) → 0 < length w → Writes f (m % 1000000000) → length f ≡ 9 → m ≤ 1000000000000000000 → reading_of text ≡ Ok (Value (signed negative m) (pos 0))
number_read negative text w f m plain some body sign p some_w q nine h =
    let all : number (w ++ f) ≡ m = number-append w f ∙ rw (nine, p.value, q.value) (omega arith) in
    rw (gaps_stay text plain, not_missing text some plain, no_e text plain, body, sign, before w f p.digits, after w f p.digits, parts w f p.digits q.digits some_w, all, nine) (whole_tenths negative m h)

-- what is printed is read as a reading without slack
pub reading_of-printed : (v : ℤ) → unsigned_abs v ≤ 1000000000000000000 → reading_of (printed v) ≡ Ok (Value v (pos 0))
reading_of-printed (pos n) h =
    let few : n / 1000000000 < 2 ^ 64 = omega (arith, h) in
    let w = decimal (n / 1000000000) in
    let f = places_text 9 (n % 1000000000) in
    let p = whole_writes (n / 1000000000) few in
    let some = decimal_nonempty (n / 1000000000) few in
    let q = places_write 9 (n % 1000000000) (omega arith) in
    number_read false (w ++ 46 ∷ f) w f n (body_plain w f p.digits q.digits) (omega (arith, length-append w (46 ∷ f))) (unsigned w f p.digits some) (positive w f p.digits some) p some q (length-places 9 _) h
reading_of-printed (negsuc n) h =
    let few : suc n / 1000000000 < 2 ^ 64 = omega (arith, h) in
    let w = decimal (suc n / 1000000000) in
    let f = places_text 9 (suc n % 1000000000) in
    let p = whole_writes (suc n / 1000000000) few in
    let some = decimal_nonempty (suc n / 1000000000) few in
    let q = places_write 9 (suc n % 1000000000) (omega arith) in
    number_read true (45 ∷ (w ++ 46 ∷ f)) w f (suc n) (body_plain w f p.digits q.digits) (omega arith) refl refl p some q (length-places 9 _) h
