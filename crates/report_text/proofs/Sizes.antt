-- The text of a line in range is short and printable, so that its line feed ends it.
use Rattle.std.proofs.Common.{◌≡◌, ℕ, suc, ◌+◌, ◌*◌, ◌/◌, ◌%◌, ◌^◌, ◌<◌, ◌≤◌, ℤ, pos, negsuc, Bool, true, false, ◌&&◌, List, [], ◌∷◌, ◌++◌, length, refl, sym, ◌∙◌, subst, arith, append_assoc, length-append, codes}
use Rattle.std.specs.Prelude.{decimal, flat_map, unsigned_abs, nat_lt, nat_le}
use Rattle.std.specs.Char.{is_ascii_digit}
use Rattle.std.specs.List.{list_all, list_any}
use Rattle.std.proofs.lemmas.Fmt.{length-decimal-le}
use Rattle.std.proofs.lemmas.List.Folds.{list_all-append}
use Rattle.std.proofs.lemmas.Bool.Decides.{nat_tests}
use Rattle.dec_text.specs.Printed.{printed, minus, places_text}
use Rattle.dec_text.proofs.Judged.{both}
use Rattle.dec_text.proofs.Printed.{whole_writes, places_write, length-places}
use Rattle.farkas_check.specs.Certificate.{Certificate, by_out, by_rows}
use Rattle.farkas_check.specs.Multipliers.{are_small}
use Rattle.isolate_core.specs.declared.verdict.Verdict.{Verdict as Judgement}
use Rattle.isolate_core.specs.declared.verdict.Verdict.TheVariants as judged
use Rattle.report_text.specs.Line.{Line, title, model, sample, pred, exclude, hull, status, possible, verdict, end, line_text, put_text, then_word, number_word, multiplier_word, certificate_text, interval_text, verdict_text, is_printable}
use Rattle.report_text.specs.Names.{is_model_name, is_name_byte, has_no_outer_spaces}
use Rattle.report_text.specs.Ranges.{is_in_range, is_model_index, is_output_index, is_state_index, is_interval, is_certificate, is_verdict}
use Rattle.report_text.specs.Laws.{is_feed}
use Rattle.report_text.proofs.Values.{printable}
use Rattle.report_text.proofs.Guessed.{below, rising, lines-differ}

-- at most so many bytes, each printable
pub record IsText (most : ℕ) (text : List ℕ) : Type 0 where
  pub short : length text ≤ most
  pub bytes : list_all is_name_byte text ≡ true

joined : {m n : ℕ} {a b : List ℕ} → IsText m a → IsText n b → IsText (m + n) (a ++ b)
joined {m} {n} {a} {b} p q = record {
  short = omega (arith, p.short, q.short, length-append a b);
  bytes = rw (list_all-append is_name_byte a b, p.bytes, q.bytes) refl;
}

wider : {m n : ℕ} {a : List ℕ} → m ≤ n → IsText m a → IsText n a
wider l p = record { short = omega (arith, l, p.short); bytes = p.bytes }

spaced : {m : ℕ} {a : List ℕ} → IsText m a → IsText (1 + m) (32 ∷ a)
spaced {m} {a} p = record { short = omega (arith, p.short); bytes = p.bytes }

byte_digit : (c : ℕ) → is_ascii_digit c ≡ true → is_name_byte c ≡ true
byte_digit c h = grind (arith, nat_tests)

digits_bytes : (ds : List ℕ) → list_all is_ascii_digit ds ≡ true → list_all is_name_byte ds ≡ true
digits_bytes [] h = refl
digits_bytes (c ∷ cs) h = rw (byte_digit c (both _ _ h).0) (digits_bytes cs (both _ _ h).1)

decimal_text : (k n : ℕ) → 0 < k → n < 10 ^ k → n < 2 ^ 64 → IsText k (decimal n)
decimal_text k n some h few = record { short = length-decimal-le k n some h few; bytes = digits_bytes (decimal n) (whole_writes n few).digits }

index_text : (i : ℕ) → i < 16 → IsText 3 (number_word i)
index_text i h = spaced (decimal_text 2 i (omega arith) (omega (arith, h)) (omega (arith, h)))

count_text : (k : ℕ) → k < 2 ^ 63 → IsText 21 (number_word k)
count_text k h = spaced (decimal_text 20 k (omega arith) (omega (arith, h)) (omega (arith, h)))

multiplier_text : (l : ℤ) → nat_le (unsigned_abs l) 2147483647 ≡ true → IsText 12 (multiplier_word l)
multiplier_text (pos n) h =
    let small : n ≤ 2147483647 = grind (arith, nat_tests, h) in
    wider (omega arith) (spaced (decimal_text 10 n (omega arith) (omega (arith, small)) (omega (arith, small))))
multiplier_text (negsuc n) h =
    let small : suc n ≤ 2147483647 = grind (arith, nat_tests, h) in
    let digits = decimal_text 10 (suc n) (omega arith) (omega (arith, small)) (omega (arith, small)) in
    record { short = omega (arith, digits.short); bytes = digits.bytes }

minus_text : (v : ℤ) → IsText 1 (minus v)
minus_text (pos n) = record { short = omega arith; bytes = refl }
minus_text (negsuc n) = record { short = omega arith; bytes = refl }

printed_text : (v : ℤ) → unsigned_abs v ≤ 10 ^ 24 → IsText 27 (printed v)
printed_text v h =
    let whole = unsigned_abs v / 1000000000 in
    let parts = unsigned_abs v % 1000000000 in
    let ds : IsText 16 (decimal whole) = decimal_text 16 whole (omega arith) (omega (arith, h)) (omega (arith, h)) in
    let ps : IsText 10 (46 ∷ places_text 9 parts) = record {
      short = omega (arith, length-places 9 parts);
      bytes = digits_bytes (places_text 9 parts) (places_write 9 parts (omega arith)).digits;
    } in
    joined (joined (minus_text v) ds) ps

end_text : (v : ℤ) → is_printable v ≡ true → IsText 28 (then_word (printed v))
end_text v h = spaced (printed_text v (printable v h))

interval_texts : (i j : ℕ) (lo hi : ℤ) → i < 16 → j < 16 → is_interval lo hi ≡ true → IsText 62 (interval_text i j lo hi)
interval_texts i j lo hi hi_ hj h =
    let ends = both (is_printable lo) (is_printable hi) h in
    joined (joined (joined (index_text i hi_) (index_text j hj)) (end_text lo ends.0)) (end_text hi ends.1)

indices_text : (is : List ℕ) → list_all is_model_index is ≡ true → IsText (3 * length is) (flat_map number_word is)
indices_text [] h = record { short = omega arith; bytes = refl }
indices_text (i ∷ is) h =
    let parts = both (is_model_index i) (list_all is_model_index is) h in
    wider (omega arith) (joined (index_text i (below i 16 parts.0)) (indices_text is parts.1))

multipliers_text : (ls : List ℤ) → are_small ls ≡ true → IsText (12 * length ls) (flat_map multiplier_word ls)
multipliers_text [] h = record { short = omega arith; bytes = refl }
multipliers_text (l ∷ ls) h =
    let parts = both (nat_le (unsigned_abs l) 2147483647) (are_small ls) h in
    wider (omega arith) (joined (multiplier_text l parts.0) (multipliers_text ls parts.1))

certificate_texts : (c : Certificate) → is_certificate c ≡ true → IsText 77 (certificate_text c)
certificate_texts (by_out o) h =
    let small = below o 6 h in
    let words : IsText 4 (codes " out") = record { short = omega arith; bytes = refl } in
    wider (omega arith) (joined words (index_text o (omega (arith, small))))
certificate_texts (by_rows ls) h =
    let counts = both (nat_le (length ls) 6) (are_small ls) (both (nat_lt 0 (length ls)) (nat_le (length ls) 6 && are_small ls) h).1 in
    let few : length ls ≤ 6 = grind (arith, nat_tests, counts.0) in
    let words : IsText 5 (codes " rows") = record { short = omega arith; bytes = refl } in
    wider (omega (arith, few)) (joined words (multipliers_text ls counts.1))

verdict_texts : (v : Judgement) → is_verdict v ≡ true → IsText 12 (verdict_text v)
verdict_texts judged.None h = record { short = omega arith; bytes = refl }
verdict_texts judged.Several h = record { short = omega arith; bytes = refl }
verdict_texts judged.Fault h = record { short = omega arith; bytes = refl }
verdict_texts (judged.Isolated i) h =
    let words : IsText 9 (codes " isolated") = record { short = omega arith; bytes = refl } in
    joined words (index_text i (below i 16 h))

name_text : (name : List ℕ) → is_model_name name ≡ true → IsText 33 (then_word name)
name_text name h =
    let parts = both (nat_lt 0 (length name) && nat_le (length name) 32) (list_all is_name_byte name && has_no_outer_spaces name) h in
    let size = (both (nat_lt 0 (length name)) (nat_le (length name) 32) parts.0).1 in
    let few : length name ≤ 32 = grind (arith, nat_tests, size) in
    spaced (record { short = few; bytes = (both (list_all is_name_byte name) (has_no_outer_spaces name) parts.1).0 })

-- the words that begin a line
begins : (w : List ℕ) → length w ≤ 9 → list_all is_name_byte w ≡ true → IsText 9 w
begins w s b = record { short = s; bytes = b }

status_text : (i : ℕ) (fits : Bool) → i < 16 → IsText 192 (line_text (status i fits))
status_text i true h =
    let words : IsText 5 (codes " fits") = record { short = omega arith; bytes = refl } in
    wider (omega arith) (joined (joined (begins (codes "s") (omega arith) refl) (index_text i h)) words)
status_text i false h =
    let words : IsText 10 (codes " undecided") = record { short = omega arith; bytes = refl } in
    wider (omega arith) (joined (joined (begins (codes "s") (omega arith) refl) (index_text i h)) words)

line_is_text : (l : Line) → is_in_range l ≡ true → IsText 192 (line_text l)
line_is_text title h = record { short = omega arith; bytes = refl }
line_is_text (model i name) h =
    let parts = both (is_model_index i) (is_model_name name) h in
    wider (omega arith) (joined (joined (begins (codes "model") (omega arith) refl) (index_text i (below i 16 parts.0))) (name_text name parts.1))
line_is_text (sample k) h = wider (omega arith) (joined (begins (codes "sample") (omega arith) refl) (count_text k (below k (2 ^ 63) h)))
line_is_text (pred i o lo hi) h =
    let parts = both (is_model_index i && is_output_index o) (is_interval lo hi) h in
    let indices = both (is_model_index i) (is_output_index o) parts.0 in
    let small = below o 6 indices.1 in
    wider (omega arith)
    (joined (begins (codes "p") (omega arith) refl) (interval_texts i o lo hi (below i 16 indices.0) (omega (arith, small)) parts.1))
line_is_text (exclude i c) h =
    let parts = both (is_model_index i) (is_certificate c) h in
    wider (omega arith)
    (joined (joined (begins (codes "x") (omega arith) refl) (index_text i (below i 16 parts.0))) (certificate_texts c parts.1))
line_is_text (hull i x lo hi) h =
    let parts = both (is_model_index i && is_state_index x) (is_interval lo hi) h in
    let indices = both (is_model_index i) (is_state_index x) parts.0 in
    let small = below x 8 indices.1 in
    wider (omega arith)
    (joined (begins (codes "h") (omega arith) refl) (interval_texts i x lo hi (below i 16 indices.0) (omega (arith, small)) parts.1))
line_is_text (status i fits) h = status_text i fits (below i 16 h)
line_is_text (possible is) h =
    let all = rising 0 is h in
    let few : length is ≤ 16 = omega (arith, all.1 (omega arith)) in
    wider (omega (arith, few)) (joined (begins (codes "possible") (omega arith) refl) (indices_text is all.0))
line_is_text (verdict v) h = wider (omega arith) (joined (begins (codes "verdict") (omega arith) refl) (verdict_texts v h))
line_is_text (end k) h = wider (omega arith) (joined (begins (codes "end") (omega arith) refl) (count_text k (below k (2 ^ 63) h)))

pub lines-are_short : (l : Line) → is_in_range l ≡ true → length (line_text l) ≤ 192
lines-are_short l h = (line_is_text l h).short

no_feed_byte : (c : ℕ) → is_name_byte c ≡ true → is_feed c ≡ false
no_feed_byte c h = grind (arith, nat_tests)

no_feed_bytes : (xs : List ℕ) → list_all is_name_byte xs ≡ true → list_any is_feed xs ≡ false
no_feed_bytes [] h = refl
no_feed_bytes (c ∷ cs) h = rw (no_feed_byte c (both _ _ h).0) (no_feed_bytes cs (both _ _ h).1)

pub lines-have_no_feed : (l : Line) → is_in_range l ≡ true → list_any is_feed (line_text l) ≡ false
lines-have_no_feed l h = no_feed_bytes (line_text l) (line_is_text l h).bytes

-- two texts that end at their first line feed
same_fronts : (xs ys rest rest' : List ℕ) → list_all is_name_byte xs ≡ true → list_all is_name_byte ys ≡ true
    → xs ++ 10 ∷ rest ≡ ys ++ 10 ∷ rest' → (xs ≡ ys) × (rest ≡ rest')
same_fronts [] [] rest rest' h k e = (refl, cc)
same_fronts [] (y ∷ ys) rest rest' h k e =
    let is : 10 ≡ y = cc in
    let byte : is_name_byte 10 ≡ true = subst (λ n. is_name_byte n ≡ true) (sym is) (both (is_name_byte y) (list_all is_name_byte ys) k).0 in
    absurd (cc)
same_fronts (x ∷ xs) [] rest rest' h k e =
    let is : 10 ≡ x = cc in
    let byte : is_name_byte 10 ≡ true = subst (λ n. is_name_byte n ≡ true) (sym is) (both (is_name_byte x) (list_all is_name_byte xs) h).0 in
    absurd (cc)
same_fronts (x ∷ xs) (y ∷ ys) rest rest' h k e =
    let tails : xs ++ 10 ∷ rest ≡ ys ++ 10 ∷ rest' = cc in
    let heads : x ≡ y = cc in
    let more = same_fronts xs ys rest rest' (both (is_name_byte x) (list_all is_name_byte xs) h).1 (both (is_name_byte y) (list_all is_name_byte ys) k).1 tails in
    (cc (heads, more.0), more.1)

pub fronts-differ : (l l' : Line) (rest rest' : List ℕ) → is_in_range l ≡ true → is_in_range l' ≡ true
    → put_text l ++ rest ≡ put_text l' ++ rest' → (l ≡ l') × (rest ≡ rest')
fronts-differ l l' rest rest' h h' e =
    let put = sym (append_assoc (line_text l) (10 ∷ []) rest) ∙ (e ∙ append_assoc (line_text l') (10 ∷ []) rest') in
    let same = same_fronts (line_text l) (line_text l') rest rest' (line_is_text l h).bytes (line_is_text l' h').bytes put in
    (lines-differ l l' h h' same.0, same.1)

certificate_in_range : (i : ℕ) (c : Certificate) → is_model_index i ≡ true → is_certificate c ≡ true → is_in_range (exclude i c) ≡ true
certificate_in_range i c h k = rw (h, k) refl

same_certificate : (i : ℕ) (c c' : Certificate) → exclude i c ≡ exclude i c' → c ≡ c'
same_certificate i c c' e = cc

pub exclusions-differ : (i : ℕ) (c c' : Certificate) (rest rest' : List ℕ) → is_model_index i ≡ true → is_certificate c ≡ true → is_certificate c' ≡ true
    → put_text (exclude i c) ++ rest ≡ put_text (exclude i c') ++ rest' → (c ≡ c') × (rest ≡ rest')
exclusions-differ i c c' rest rest' h k k' e =
    let same = fronts-differ (exclude i c) (exclude i c') rest rest' (certificate_in_range i c h k) (certificate_in_range i c' h k') e in
    (same_certificate i c c' same.0, same.1)
