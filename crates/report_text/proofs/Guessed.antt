-- The one line that the text of a line can be is that line.
use Rattle.std.proofs.Common.{◌≡◌, ℕ, ◌+◌, ◌^◌, ◌<◌, ◌≤◌, ℤ, Bool, true, false, ◌&&◌, List, [], ◌∷◌, ◌++◌, length, refl, sym, ◌∙◌, ap, subst, arith, append_assoc, codes}
use Rattle.std.specs.Prelude.{decimal, flat_map, unsigned_abs, nat_lt, nat_le}
use Rattle.std.specs.Fmt.{signed_decimal}
use Rattle.std.specs.List.{list_all}
use Rattle.std.proofs.lemmas.Bool.Decides.{nat_tests}
use Rattle.dec_text.specs.Printed.{printed}
use Rattle.dec_text.proofs.Judged.{both}
use Rattle.farkas_check.specs.Certificate.{Certificate, by_out, by_rows}
use Rattle.farkas_check.specs.Multipliers.{are_multipliers, are_small}
use Rattle.isolate_core.specs.declared.verdict.Verdict.{Verdict as Judgement}
use Rattle.isolate_core.specs.declared.verdict.Verdict.TheVariants as judged
use Rattle.report_text.specs.Line.{Line, title, model, sample, pred, exclude, hull, status, possible, verdict, end, line_text, number_word, multiplier_word, interval_text, is_printable}
use Rattle.report_text.specs.Names.{is_model_name}
use Rattle.report_text.specs.Ranges.{IsLine, is_in_range, is_model_index, is_output_index, is_state_index, is_interval, is_certificate, rise_from, is_verdict}
use Rattle.report_text.specs.Loose.{word_of, rest_of, index_of, count_of, multiplier_of, end_of, name_of, certificate_in, verdict_in, model_in, pred_in, hull_in, exclude_in, status_in, possible_in, first_in, second_in, low_in, high_in, line_by, candidate}
use Rattle.report_text.proofs.Cuts.{is_word, word_before, rest_behind, word_alone, rest_none, words_none, values_back}
use Rattle.report_text.proofs.Values.{decimal_word, count_back, index_back, index_written, multiplier_written, printed_word, end_back, printable}

pub below : (n most : ℕ) → nat_lt n most ≡ true → n < most
below n most h = grind (arith, nat_tests, h)

-- a first word and what follows it
begun : (w rest : List ℕ) → is_word w ≡ true → candidate (w ++ 32 ∷ rest) ≡ line_by w rest
begun w rest h = rw (word_before w rest h, rest_behind w rest h) refl

alone : (w : List ℕ) → is_word w ≡ true → candidate w ≡ line_by w []
alone w h = rw (word_alone w h, rest_none w h) refl

-- an index and what follows it
indexed : (i : ℕ) (rest : List ℕ) → i < 16 → (index_of (word_of (decimal i ++ 32 ∷ rest)) ≡ i) × (rest_of (decimal i ++ 32 ∷ rest) ≡ rest)
indexed i rest h =
    let w = decimal_word i (omega (arith, h)) in
    (ap index_of (word_before (decimal i) rest w) ∙ index_back i h, rest_behind (decimal i) rest w)

-- each kind of line by its first word

by_model : (rest : List ℕ) → line_by (codes "model") rest ≡ model_in rest
unfolding line_by
by_model rest = refl

by_sample : (rest : List ℕ) → line_by (codes "sample") rest ≡ sample (count_of rest)
unfolding line_by
by_sample rest = refl

by_pred : (rest : List ℕ) → line_by (codes "p") rest ≡ pred_in rest
unfolding line_by
by_pred rest = refl

by_exclude : (rest : List ℕ) → line_by (codes "x") rest ≡ exclude_in rest
unfolding line_by
by_exclude rest = refl

by_hull : (rest : List ℕ) → line_by (codes "h") rest ≡ hull_in rest
unfolding line_by
by_hull rest = refl

by_status : (rest : List ℕ) → line_by (codes "s") rest ≡ status_in rest
unfolding line_by
by_status rest = refl

by_possible : (rest : List ℕ) → line_by (codes "possible") rest ≡ possible_in rest
unfolding line_by
by_possible rest = refl

by_verdict : (rest : List ℕ) → line_by (codes "verdict") rest ≡ verdict (verdict_in rest)
unfolding line_by
by_verdict rest = refl

by_end : (rest : List ℕ) → line_by (codes "end") rest ≡ end (count_of rest)
unfolding line_by
by_end rest = refl

by_title : (rest : List ℕ) → line_by (codes "zonomon") rest ≡ title
unfolding line_by
by_title rest = refl

name_back : (name : List ℕ) → is_model_name name ≡ true → name_of name ≡ name
unfolding name_of
name_back name h = rw h refl

model_back : (i : ℕ) (name : List ℕ) → i < 16 → is_model_name name ≡ true → model_in (decimal i ++ 32 ∷ name) ≡ model i name
model_back i name h n = let is = indexed i name h in rw (is.0, is.1, name_back name n) refl

-- the four words of an interval
module _ (i j : ℕ) (lo hi : ℤ) (hi_ : i < 16) (hj : j < 16) (hl : unsigned_abs lo ≤ 10 ^ 24) (hh : unsigned_abs hi ≤ 10 ^ 24) where
  abbrev low_high : List ℕ
  low_high = printed lo ++ 32 ∷ printed hi

  abbrev four : List ℕ
  four = decimal i ++ 32 ∷ (decimal j ++ 32 ∷ low_high)

  interval_words : 32 ∷ four ≡ interval_text i j lo hi
  interval_words =
      ap (λ xs. 32 ∷ xs)
      (
      sym (append_assoc (decimal i) (32 ∷ decimal j) (32 ∷ low_high))
      ∙ sym (append_assoc (decimal i ++ 32 ∷ decimal j) (32 ∷ printed lo) (32 ∷ printed hi))
      )

  ends_are : rest_of (rest_of four) ≡ low_high
  ends_are = ap rest_of (indexed i (decimal j ++ 32 ∷ low_high) hi_).1 ∙ (indexed j low_high hj).1

  first_back : first_in four ≡ i
  first_back = (indexed i (decimal j ++ 32 ∷ low_high) hi_).0

  second_back : second_in four ≡ j
  second_back = ap (λ r. index_of (word_of r)) (indexed i (decimal j ++ 32 ∷ low_high) hi_).1 ∙ (indexed j low_high hj).0

  low_back : low_in four ≡ lo
  low_back = ap (λ r. end_of (word_of r)) ends_are ∙ ap end_of (word_before (printed lo) (printed hi) (printed_word lo hl)) ∙ end_back lo hl

  high_back : high_in four ≡ hi
  high_back = ap (λ r. end_of (rest_of r)) ends_are ∙ ap end_of (rest_behind (printed lo) (printed hi) (printed_word lo hl)) ∙ end_back hi hh

  pred_back : candidate (codes "p" ++ interval_text i j lo hi) ≡ pred i j lo hi
  pred_back =
      ap (λ t. candidate (codes "p" ++ t)) (sym interval_words) ∙ begun (codes "p") four refl ∙ by_pred four
      ∙ rw (first_back, second_back, low_back, high_back) refl

  hull_back : candidate (codes "h" ++ interval_text i j lo hi) ≡ hull i j lo hi
  hull_back =
      ap (λ t. candidate (codes "h" ++ t)) (sym interval_words) ∙ begun (codes "h") four refl ∙ by_hull four
      ∙ rw (first_back, second_back, low_back, high_back) refl

status_back : (i : ℕ) (fits : Bool) → i < 16 → candidate (line_text (status i fits)) ≡ status i fits
status_back i true h =
    begun (codes "s") (decimal i ++ codes " fits") refl ∙ by_status (decimal i ++ codes " fits")
    ∙ (let is = indexed i (codes "fits") h in rw (is.0, is.1) refl)
status_back i false h =
    begun (codes "s") (decimal i ++ codes " undecided") refl ∙ by_status (decimal i ++ codes " undecided")
    ∙ (let is = indexed i (codes "undecided") h in rw (is.0, is.1) refl)

-- each index is one of a model, and no more than 16 rise
pub rising : (least : ℕ) (is : List ℕ) → rise_from least is ≡ true → (list_all is_model_index is ≡ true) × (least ≤ 16 → length is + least ≤ 16)
rising least [] h = (refl, λ l. omega (arith, l))
rising least (i ∷ is) h =
    let parts = both (nat_le least i && is_model_index i) (rise_from (i + 1) is) h in
    let here = both (nat_le least i) (is_model_index i) parts.0 in
    let small = below i 16 here.1 in
    let up : least ≤ i = grind (arith, nat_tests, here.0) in
    let more = rising (i + 1) is parts.1 in
    (rw (here.1) more.0, λ l. omega (arith, more.1 (omega (arith, small)), up))

possible_back : (is : List ℕ) → rise_from 0 is ≡ true → candidate (line_text (possible is)) ≡ possible is
possible_back [] h = alone (codes "possible") refl ∙ by_possible [] ∙ rw (words_none 16) refl
possible_back (i ∷ is) h =
    let all = rising 0 (i ∷ is) h in
    let parts = both (is_model_index i) (list_all is_model_index is) all.0 in
    let rest = decimal i ++ flat_map number_word is in
    let back = values_back decimal number_word index_of (λ _. refl) is_model_index (λ i h. index_written i (below i 16 h)) 16 i is parts.0 parts.1 (omega (arith, all.1 (omega arith))) in
    begun (codes "possible") rest refl ∙ by_possible rest ∙ ap possible back

verdict_back : (v : Judgement) → is_verdict v ≡ true → candidate (line_text (verdict v)) ≡ verdict v
unfolding verdict_in
verdict_back judged.None h = begun (codes "verdict") (codes "none") refl ∙ by_verdict (codes "none")
verdict_back judged.Several h = begun (codes "verdict") (codes "several") refl ∙ by_verdict (codes "several")
verdict_back judged.Fault h = begun (codes "verdict") (codes "fault") refl ∙ by_verdict (codes "fault")
verdict_back (judged.Isolated i) h =
    let rest = codes "isolated" ++ 32 ∷ decimal i in
    begun (codes "verdict") rest refl ∙ by_verdict rest
    ∙ ap (λ w. verdict (judged.Isolated (index_of w))) (rest_behind (codes "isolated") (decimal i) refl)
    ∙ ap (λ n. verdict (judged.Isolated n)) (index_back i (below i 16 h))

out_back : (o : ℕ) → o < 6 → certificate_in (codes "out" ++ 32 ∷ decimal o) ≡ by_out o
unfolding certificate_in
out_back o h =
    rw (word_before (codes "out") (decimal o) refl, rest_behind (codes "out") (decimal o) refl, index_back o (omega (arith, h))) refl

rows_back : (ls : List ℤ) → are_multipliers ls ≡ true → certificate_in (codes "rows" ++ flat_map multiplier_word ls) ≡ by_rows ls
unfolding certificate_in
rows_back [] h = absurd (cc)
rows_back (l ∷ ls) h =
    let counts = both (nat_le (length (l ∷ ls)) 6) (are_small (l ∷ ls)) (both (nat_lt 0 (length (l ∷ ls))) (nat_le (length (l ∷ ls)) 6 && are_small (l ∷ ls)) h).1 in
    let few : length (l ∷ ls) ≤ 6 = grind (arith, nat_tests, counts.0) in
    let parts = both (nat_le (unsigned_abs l) 2147483647) (are_small ls) counts.1 in
    let rest = signed_decimal l ++ flat_map multiplier_word ls in
    let back = values_back signed_decimal multiplier_word multiplier_of (λ _. refl) (λ v. nat_le (unsigned_abs v) 2147483647) multiplier_written 6 l ls parts.0 parts.1 (omega (arith, few)) in
    rw (word_before (codes "rows") rest refl, rest_behind (codes "rows") rest refl, back, h) refl

exclude_back : (i : ℕ) (c : Certificate) → i < 16 → is_certificate c ≡ true → candidate (line_text (exclude i c)) ≡ exclude i c
exclude_back i (by_out o) hi h =
    let rest = codes "out" ++ 32 ∷ decimal o in
    let is = indexed i rest hi in
    begun (codes "x") (decimal i ++ 32 ∷ rest) refl ∙ by_exclude (decimal i ++ 32 ∷ rest)
    ∙ rw (is.0, is.1, out_back o (below o 6 h)) refl
exclude_back i (by_rows ls) hi h =
    let rest = codes "rows" ++ flat_map multiplier_word ls in
    let is = indexed i rest hi in
    begun (codes "x") (decimal i ++ 32 ∷ rest) refl ∙ by_exclude (decimal i ++ 32 ∷ rest)
    ∙ rw (is.0, is.1, rows_back ls h) refl

pub candidate_back : (l : Line) → is_in_range l ≡ true → candidate (line_text l) ≡ l
candidate_back title h = begun (codes "zonomon") (codes "1") refl ∙ by_title (codes "1")
candidate_back (model i name) h =
    let parts = both (is_model_index i) (is_model_name name) h in
    let rest = decimal i ++ 32 ∷ name in
    begun (codes "model") rest refl ∙ by_model rest ∙ model_back i name (below i 16 parts.0) parts.1
candidate_back (sample k) h =
    begun (codes "sample") (decimal k) refl ∙ by_sample (decimal k) ∙ ap sample (count_back k (below k (2 ^ 63) h))
candidate_back (pred i o lo hi) h =
    let parts = both (is_model_index i && is_output_index o) (is_interval lo hi) h in
    let indices = both (is_model_index i) (is_output_index o) parts.0 in
    let ends = both (is_printable lo) (is_printable hi) parts.1 in
    let small = below o 6 indices.1 in
    pred_back i o lo hi (below i 16 indices.0) (omega (arith, small)) (printable lo ends.0) (printable hi ends.1)
candidate_back (exclude i c) h =
    let parts = both (is_model_index i) (is_certificate c) h in
    exclude_back i c (below i 16 parts.0) parts.1
candidate_back (hull i x lo hi) h =
    let parts = both (is_model_index i && is_state_index x) (is_interval lo hi) h in
    let indices = both (is_model_index i) (is_state_index x) parts.0 in
    let ends = both (is_printable lo) (is_printable hi) parts.1 in
    let small = below x 8 indices.1 in
    hull_back i x lo hi (below i 16 indices.0) (omega (arith, small)) (printable lo ends.0) (printable hi ends.1)
candidate_back (status i fits) h = status_back i fits (below i 16 h)
candidate_back (possible is) h = possible_back is h
candidate_back (verdict v) h = verdict_back v h
candidate_back (end k) h = begun (codes "end") (decimal k) refl ∙ by_end (decimal k) ∙ ap end (count_back k (below k (2 ^ 63) h))

-- one text is one line
pub lines-differ : (l l' : Line) → is_in_range l ≡ true → is_in_range l' ≡ true → line_text l ≡ line_text l' → l ≡ l'
lines-differ l l' h h' e = sym (candidate_back l h) ∙ (ap candidate e ∙ candidate_back l' h')

-- a text that is not the one line that it can be is no line
pub refused-no_line : (text : List ℕ) (guess l : Line) → guess ≡ candidate text → ¬ IsLine text guess → ¬ IsLine text l
refused-no_line text guess l e refused h =
    let same : guess ≡ l = e ∙ (ap candidate h.spelled ∙ candidate_back l h.in_range) in
    refused (subst (IsLine text) (sym same) h)
