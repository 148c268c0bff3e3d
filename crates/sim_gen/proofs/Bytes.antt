-- The bytes of a printed number: each is one that a number has, and they are few.
use Rattle.std.proofs.Common.{◌≡◌, ℕ, suc, ◌/◌, ◌%◌, ◌^◌, ◌<◌, ◌≤◌, true, All, List, [], ◌∷◌, ◌++◌, length, ℤ, pos, negsuc, decimal, unsigned_abs, arith, length-append}
use Rattle.std.specs.Char.{is_ascii_digit}
use Rattle.std.specs.List.{list_all}
use Rattle.std.proofs.lemmas.Bool.Decides.{nat_tests}
use Rattle.std.proofs.lemmas.Fmt.{decimal_nonempty, length-decimal-le}
use Rattle.std.proofs.lemmas.List.Elements.{All-nil, All-cons, All-append}
use Rattle.dec_text.specs.Printed.{printed, places_text}
use Rattle.dec_text.proofs.Judged.{both}
use Rattle.dec_text.proofs.Printed.{whole_writes, places_write, length-places}

-- the bytes from `-` to `9`
abbrev pub IsNumberByte : ℕ → Type 0
IsNumberByte c = (45 ≤ c) × (c ≤ 57)

-- a text of at most so many such bytes
pub record IsNumberText (most : ℕ) (text : List ℕ) : Type 0 where
  pub bytes : All IsNumberByte text
  pub some : 0 < length text
  pub short : length text ≤ most

digit-is : (c : ℕ) → is_ascii_digit c ≡ true → IsNumberByte c
digit-is c h = (grind (arith, nat_tests), grind (arith, nat_tests))

digits-are : (ds : List ℕ) → list_all is_ascii_digit ds ≡ true → All IsNumberByte ds
digits-are [] h = All-nil IsNumberByte
digits-are (c ∷ cs) h =
    let parts = both (is_ascii_digit c) (list_all is_ascii_digit cs) h in
    All-cons IsNumberByte c cs (digit-is c parts.0) (digits-are cs parts.1)

-- the text of a number without its sign
body-is : (m : ℕ) → m ≤ 1_000_000_000_000_000_000 → IsNumberText 20 (decimal (m / 1_000_000_000) ++ 46 ∷ places_text 9 (m % 1_000_000_000))
body-is m h =
    let few : m / 1_000_000_000 < 2 ^ 64 = omega arith in
    let w = decimal (m / 1_000_000_000) in
    let f = places_text 9 (m % 1_000_000_000) in
    let size = length-append w (46 ∷ f) in
    let whole : length w ≤ 10 = length-decimal-le 10 (m / 1_000_000_000) (omega arith) (omega arith) few in
    let some : 0 < length w = decimal_nonempty (m / 1_000_000_000) few in
    let places : length f ≡ 9 = length-places 9 (m % 1_000_000_000) in
    record {
      bytes = All-append IsNumberByte w (46 ∷ f) (digits-are w (whole_writes (m / 1_000_000_000) few).digits)
          (All-cons IsNumberByte 46 f (omega arith, omega arith) (digits-are f (places_write 9 (m % 1_000_000_000) (omega arith)).digits));
      some = omega arith;
      short = omega arith;
    }

pub printed-is : (v : ℤ) → unsigned_abs v ≤ 1_000_000_000_000_000_000 → IsNumberText 21 (printed v)
printed-is (pos n) h = let body = body-is n h in record { bytes = body.bytes; some = body.some; short = let short = body.short in omega arith }
printed-is (negsuc n) h =
    let body = body-is (suc n) h in
    record {
      bytes = All-cons IsNumberByte 45 (decimal (suc n / 1_000_000_000) ++ 46 ∷ places_text 9 (suc n % 1_000_000_000)) (omega arith, omega arith) body.bytes;
      some = omega arith;
      short = let short = body.short in omega arith;
    }
