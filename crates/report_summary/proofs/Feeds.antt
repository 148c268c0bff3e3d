-- No line feed stands in the text of a told line, so that it ends at the next one.
use Rattle.std.proofs.Common.{◌≡◌, ℕ, zero, suc, ◌+◌, ◌/◌, ◌%◌, ◌==◌, ℤ, pos, negsuc, Bool, true, false, ◌||◌, if◌then◌else◌, List, [], ◌∷◌, ◌++◌, length, flat_map, decimal, codes, unsigned_abs, Some, nat_lt, refl, ap, ◌∙◌, arith, length-append}
use Rattle.std.specs.Fmt.{digits, digits_onto, digit_glyph}
use Rattle.std.specs.List.{list_any, position, position_or_len}
use Rattle.std.proofs.lemmas.Bool.Decides.{nat_tests}
use Rattle.std.proofs.lemmas.List.Folds.{list_any-append}
use Rattle.dec_text.specs.Printed.{minus, places_text, printed}
use Rattle.dec_text.proofs.Judged.{lt_yes}
use Rattle.isolate_core.specs.declared.verdict.Verdict.{Verdict as Judgement}
use Rattle.isolate_core.specs.declared.verdict.Verdict.TheVariants as judged
use Rattle.report_text.specs.Line.{Line, title, model, sample, pred, exclude, hull, status, possible, verdict, end, line_text, number_word, then_word, interval_text, verdict_text}
use Rattle.report_text.specs.Laws.{is_feed}
use Rattle.report_text.proofs.Sizes.{lines-have_no_feed}
use Rattle.report_summary.specs.Told.{IsTold}

-- no byte is a line feed
abbrev pub Free : List ℕ → Type 0
Free text = list_any is_feed text ≡ false

joined : (a b : List ℕ) → Free a → Free b → Free (a ++ b)
joined a b h k = rw (list_any-append is_feed a b, h, k) refl

digit-free : (m : ℕ) → is_feed (digit_glyph false (m % 10)) ≡ false
digit-free m = grind (arith, nat_tests)

either : (b : Bool) (xs ys : List ℕ) → Free xs → Free ys → Free (if b then xs else ys)
either true xs ys h k = h
either false xs ys h k = k

onto-free : (k n : ℕ) (text : List ℕ) → Free text → Free (digits_onto k 10 false n text)
onto-free zero n text h = h
onto-free (suc k) n text h =
    let more : Free (digit_glyph false (n % 10) ∷ text) = rw (digit-free n) h in
    either (n / 10 == 0) (digit_glyph false (n % 10) ∷ text) (digits_onto k 10 false (n / 10) (digit_glyph false (n % 10) ∷ text)) more
    (onto-free k (n / 10) (digit_glyph false (n % 10) ∷ text) more)

decimal-free : (n : ℕ) → Free (decimal n)
unfolding digits
decimal-free n = onto-free 64 n [] refl

number-free : (n : ℕ) → Free (number_word n)
number-free n = decimal-free n

numbers-free : (ns : List ℕ) → Free (flat_map number_word ns)
numbers-free [] = refl
numbers-free (n ∷ ns) = joined (number_word n) (flat_map number_word ns) (number-free n) (numbers-free ns)

last-free : (n : ℕ) → Free ((48 + n % 10) ∷ [])
last-free n = grind (arith, nat_tests)

places-free : (k n : ℕ) → Free (places_text k n)
unfolding places_text
places-free zero n = refl
places-free (suc k) n = joined (places_text k (n / 10)) ((48 + n % 10) ∷ []) (places-free k (n / 10)) (last-free n)

minus-free : (v : ℤ) → Free (minus v)
minus-free (pos n) = refl
minus-free (negsuc n) = refl

printed-free : (v : ℤ) → Free (printed v)
printed-free v =
    joined (minus v ++ decimal (unsigned_abs v / 1000000000)) (46 ∷ places_text 9 (unsigned_abs v % 1000000000))
    (joined (minus v) (decimal (unsigned_abs v / 1000000000)) (minus-free v) (decimal-free (unsigned_abs v / 1000000000))) (places-free 9 (unsigned_abs v % 1000000000))

interval-free : (i j : ℕ) (lo hi : ℤ) → Free (interval_text i j lo hi)
interval-free i j lo hi =
    joined ((number_word i ++ number_word j) ++ then_word (printed lo)) (then_word (printed hi))
    (joined (number_word i ++ number_word j) (then_word (printed lo)) (joined (number_word i) (number_word j) (number-free i) (number-free j)) (printed-free lo)) (printed-free hi)

verdict-free : (v : Judgement) → Free (verdict_text v)
verdict-free judged.None = refl
verdict-free judged.Several = refl
verdict-free judged.Fault = refl
verdict-free (judged.Isolated i) = joined (codes " isolated") (number_word i) refl (number-free i)

-- a told line
pub told-free : (l : Line) → IsTold l → Free (line_text l)
told-free title h = refl
told-free (model i name) h = joined (codes "model" ++ number_word i) (then_word name) (joined (codes "model") (number_word i) refl (number-free i)) h
told-free (sample k) h = lines-have_no_feed (sample k) h
told-free (pred i o lo hi) h = joined (codes "p") (interval_text i o lo hi) refl (interval-free i o lo hi)
told-free (exclude i c) h = lines-have_no_feed (exclude i c) h
told-free (hull i x lo hi) h = joined (codes "h") (interval_text i x lo hi) refl (interval-free i x lo hi)
told-free (status i fits) h = lines-have_no_feed (status i fits) h
told-free (possible is) h = joined (codes "possible") (flat_map number_word is) refl (numbers-free is)
told-free (verdict v) h = joined (codes "verdict") (verdict_text v) refl (verdict-free v)
told-free (end k) h = joined (codes "end") (number_word k) refl (number-free k)

neither : (a b : Bool) → (a || b) ≡ false → (a ≡ false) × (b ≡ false)
neither true b h = absurd (cc)
neither false b h = (refl, h)

-- a text without a line feed ends at the next one
feed-behind : (text more : List ℕ) → Free text → position_or_len is_feed (text ++ 10 ∷ more) ≡ length text
feed-behind [] more h = refl
feed-behind (c ∷ text) more h =
    let parts = neither (is_feed c) (list_any is_feed text) h in
    rw parts.0 (ap (λ k. 1 + k) (feed-behind text more parts.1) ∙ omega arith)

pub first-feed : (text more : List ℕ) → Free text → position is_feed (text ++ 10 ∷ more) ≡ Some (length text)
first-feed text more h =
    let t : nat_lt (length text) (length (text ++ 10 ∷ more)) ≡ true = (let l = length-append text (10 ∷ more) in lt_yes _ _ (omega (arith, l))) in
    rw (feed-behind text more h, t) refl
