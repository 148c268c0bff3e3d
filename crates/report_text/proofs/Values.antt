-- Numbers, indices, multipliers and ends of intervals are written as one word and read back.
use Rattle.std.proofs.Common.{◌≡◌, ℕ, suc, ◌/◌, ◌%◌, ◌^◌, ◌<◌, ◌≤◌, min, ℤ, pos, negsuc, true, false, not, List, [], ◌∷◌, ◌++◌, refl, arith}
use Rattle.std.specs.Prelude.{decimal, unsigned_abs, ◌==◌, nat_le}
use Rattle.std.specs.Char.{is_ascii_digit}
use Rattle.std.specs.Fmt.{signed_decimal}
use Rattle.std.specs.List.{list_all}
use Rattle.std.proofs.lemmas.Fmt.{decimal_nonempty}
use Rattle.std.proofs.lemmas.List.Folds.{list_all-append}
use Rattle.std.proofs.lemmas.Bool.Decides.{nat_tests}
use Rattle.dec_text.specs.Decimal.{is_negative}
use Rattle.dec_text.specs.Printed.{printed, minus, places_text}
use Rattle.dec_text.proofs.Judged.{both}
use Rattle.dec_text.proofs.Printed.{whole_writes, places_write, reads_back}
use Rattle.report_text.specs.Line.{is_printable}
use Rattle.report_text.specs.Loose.{is_space, count_of, index_of, without_minus, multiplier_of, end_of}
use Rattle.report_text.proofs.Cuts.{is_word, IsWritten}

no_space_digit : (c : ℕ) → is_ascii_digit c ≡ true → not (is_space c) ≡ true
no_space_digit c h = grind (arith, nat_tests)

no_minus_digit : (c : ℕ) → is_ascii_digit c ≡ true → (c == 45) ≡ false
no_minus_digit c h = grind (arith, nat_tests)

pub digits_word : (ds : List ℕ) → list_all is_ascii_digit ds ≡ true → is_word ds ≡ true
digits_word [] h = refl
digits_word (c ∷ cs) h = rw (no_space_digit c (both _ _ h).0) (digits_word cs (both _ _ h).1)

pub decimal_word : (n : ℕ) → n < 2 ^ 64 → is_word (decimal n) ≡ true
decimal_word n h = digits_word (decimal n) (whole_writes n h).digits

pub count_back : (n : ℕ) → n < 2 ^ 63 → count_of (decimal n) ≡ n
unfolding count_of
count_back n h = rw (whole_writes n (omega (arith, h))).value (omega (arith, h))

pub index_back : (n : ℕ) → n < 16 → index_of (decimal n) ≡ n
unfolding index_of
index_back n h = rw (whole_writes n (omega (arith, h))).value (omega (arith, h))

pub index_written : (n : ℕ) → n < 16 → IsWritten decimal index_of n
index_written n h = record {
  some = decimal_nonempty n (omega (arith, h));
  word = decimal_word n (omega (arith, h));
  back = index_back n h;
}

positive : (ds : List ℕ) → list_all is_ascii_digit ds ≡ true → is_negative ds ≡ false
positive [] h = refl
positive (c ∷ cs) h = no_minus_digit c (both _ _ h).0

unsigned : (ds : List ℕ) → list_all is_ascii_digit ds ≡ true → without_minus ds ≡ ds
unsigned [] h = refl
unsigned (c ∷ cs) h = rw (no_minus_digit c (both _ _ h).0) refl

pub multiplier_written : (l : ℤ) → nat_le (unsigned_abs l) 2147483647 ≡ true → IsWritten signed_decimal multiplier_of l
unfolding multiplier_of
multiplier_written (pos n) h =
    let small : n ≤ 2147483647 = grind (arith, nat_tests, h) in
    let w = whole_writes n (omega (arith, small)) in
    let held : min n 2147483647 ≡ n = omega (arith, small) in
    record {
      some = decimal_nonempty n (omega (arith, small));
      word = decimal_word n (omega (arith, small));
      back = rw (positive (decimal n) w.digits, unsigned (decimal n) w.digits, w.value, held) refl;
    }
multiplier_written (negsuc n) h =
    let small : suc n ≤ 2147483647 = grind (arith, nat_tests, h) in
    let w = whole_writes (suc n) (omega (arith, small)) in
    let held : min (suc n) 2147483647 ≡ suc n = omega (arith, small) in
    record {
      some = omega arith;
      word = decimal_word (suc n) (omega (arith, small));
      back = rw (w.value, held) refl;
    }

minus_word : (v : ℤ) → is_word (minus v) ≡ true
minus_word (pos n) = refl
minus_word (negsuc n) = refl

pub printed_word : (v : ℤ) → unsigned_abs v ≤ 10 ^ 24 → is_word (printed v) ≡ true
printed_word v h =
    let whole = unsigned_abs v / 1000000000 in
    let parts = unsigned_abs v % 1000000000 in
    let w : is_word (decimal whole) ≡ true = decimal_word whole (omega (arith, h)) in
    let p : is_word (places_text 9 parts) ≡ true = digits_word (places_text 9 parts) (places_write 9 parts (omega arith)).digits in
    rw (list_all-append (λ c. not (is_space c)) (minus v ++ decimal whole) (46 ∷ places_text 9 parts), list_all-append (λ c. not (is_space c)) (minus v) (decimal whole), minus_word v, w, p) refl

pub end_back : (v : ℤ) → unsigned_abs v ≤ 10 ^ 24 → end_of (printed v) ≡ v
unfolding end_of
end_back v h = rw (reads_back v h) refl

pub printable : (v : ℤ) → is_printable v ≡ true → unsigned_abs v ≤ 10 ^ 24
printable v h = grind (arith, nat_tests, h)
