-- A number that is held below a bound on the way ends as the number would, held below the bound.
use Rattle.std.proofs.Common.{◌≡◌, ℕ, ◌-◌, ◌*◌, ◌^◌, ◌≤◌, min, Bool, true, false, List, ◌++◌, length, take, refl, sym, ◌∙◌, ap, arith}
use Rattle.std.specs.Prelude.{nat_le}
use Rattle.std.proofs.lemmas.List.{take_all}
use Rattle.std.proofs.lemmas.Bool.Decides.{nat_tests}
use Rattle.std.proofs.Math.Nat.{mul-le-mul_right, one-le-pow}
use Rattle.dec_text.specs.Decimal.{number, number_after}
use Rattle.dec_text.specs.Reading.{kept_tenths}
use Rattle.dec_text.proofs.Judged.{number_after-++, number_after-ge}

-- what is said of a number below the bound and of the bound is said of a number held below it
by_bound : (P : ℕ → ℕ) (n bound : ℕ) → (bound ≤ n → P bound ≡ P n) → P (min n bound) ≡ P n
by_bound P n bound h = by_order (nat_le n bound) refl
  where
    by_order : (b : Bool) → nat_le n bound ≡ b → P (min n bound) ≡ P n
    by_order true e = let le : n ≤ bound = grind (arith, nat_tests, e) in ap P (omega (arith, le))
    by_order false e = let gt : bound ≤ n = grind (arith, nat_tests, e) in let m : min n bound ≡ bound = omega (arith, gt) in ap P m ∙ h gt

min_above : (a b bound : ℕ) → bound ≤ a → bound ≤ b → min a bound ≡ min b bound
min_above a b bound h k = omega (arith, h, k)

digits_capped : (n bound : ℕ) (ds : List ℕ) → min (number_after (min n bound) ds) bound ≡ min (number_after n ds) bound
digits_capped n bound ds =
    by_bound (λ m. min (number_after m ds) bound) n bound (λ h. min_above _ _ bound (number_after-ge bound ds) (omega (arith, h, number_after-ge n ds)))

grown : (n k : ℕ) → n ≤ n * 10 ^ k
grown n k = omega (arith, mul-le-mul_right {m = 1} {n = 10 ^ k} n (one-le-pow k 10 (omega arith)))

zeros_capped : (n bound k : ℕ) → min (min n bound * 10 ^ k) bound ≡ min (n * 10 ^ k) bound
zeros_capped n bound k = by_bound (λ m. min (m * 10 ^ k) bound) n bound (λ h. min_above _ _ bound (grown bound k) (omega (arith, h, grown n k)))

take-min : (n : ℕ) (xs : List ℕ) → take (min n (length xs)) xs ≡ take n xs
take-min n xs = by_order (nat_le n (length xs)) refl
  where
    by_order : (b : Bool) → nat_le n (length xs) ≡ b → take (min n (length xs)) xs ≡ take n xs
    by_order true e = let le : n ≤ length xs = grind (arith, nat_tests, e) in ap (λ m. take m xs) (omega (arith, le))
    by_order false e =
        let gt : length xs ≤ n = grind (arith, nat_tests, e) in
        let m : min n (length xs) ≡ length xs = omega (arith, gt) in
        ap (λ k. take k xs) m ∙ (take_all (length xs) xs (omega arith) ∙ sym (take_all n xs gt))

pub kept_is : (whole fraction head places : List ℕ) (lost behind cut held bound first second last : ℕ)
    → cut ≡ min lost (length whole) → head ≡ take (length whole - cut) whole
    → held ≡ min behind (length fraction) → places ≡ take held fraction
    → first ≡ min (number_after 0 head) bound → second ≡ min (number_after first places) bound → last ≡ min (second * 10 ^ (behind - length fraction)) bound
    → last ≡ min (kept_tenths whole fraction lost behind) bound
kept_is whole fraction head places lost behind cut held bound first second last c h d p f s l =
    let cut_is : length whole - cut ≡ length whole - lost = omega (arith, c) in
    let head_is : head ≡ take (length whole - lost) whole = h ∙ ap (λ n. take n whole) cut_is in
    let places_are : places ≡ take behind fraction = p ∙ (ap (λ n. take n fraction) d ∙ take-min behind fraction) in
    let second_is : second ≡ min (number (head ++ places)) bound = s ∙ (ap (λ n. min (number_after n places) bound) f ∙ (digits_capped (number head) bound places ∙ ap (λ n. min n bound) (sym (number_after-++ 0 head places)))) in
    l ∙ (ap (λ n. min (n * 10 ^ (behind - length fraction)) bound) second_is ∙ (zeros_capped (number (head ++ places)) bound (behind - length fraction) ∙ rw (head_is, places_are) refl))
