-- What a cutter answers to a piece is what the lines of the whole stream say.
use Rattle.std.proofs.Common.{◌≡◌, ℕ, suc, ◌+◌, ◌-◌, ◌<◌, ◌≤◌, Bool, true, false, ◌&&◌, List, [], ◌∷◌, ◌++◌, length, drop, refl, sym, ◌∙◌, ap, subst, arith, append_assoc, Ok, Err}
use Rattle.std.specs.Prelude.{nat_lt, nat_le}
use Rattle.std.specs.List.{list_any, before_first, after_first}
use Rattle.std.proofs.lemmas.List.{length-append, drop_all, drop_at}
use Rattle.std.proofs.lemmas.List.Folds.{list_any-append}
use Rattle.std.proofs.lemmas.Bool.Decides.{nat_tests}
use Rattle.telem_csv.specs.Cutter.{Cutter, current, current_after, line_with, judged, taken_for, after_answer, feed_answer, feed_taken, after_feed, text_at}
use Rattle.telem_csv.specs.Fed.{is_refusal, cause_of, fed_by}
use Rattle.telem_csv.specs.Lines.{is_feed, is_return, RawLine, raw_lines, taken_by, within, line_text, text_of, most_line}
use Rattle.telem_csv.specs.declared.fault.TelemWhy.TheVariants as why
use Rattle.telem_csv.specs.declared.fed.Fed.{Fed}
use Rattle.telem_csv.specs.declared.fed.Fed.TheVariants as fed
use Rattle.telem_csv.proofs.Cuts.{raw_lines-cut, raw_lines-last, cut_at_feed, no_feed_before, no_feed_at_all}

pub both : (a b : Bool) → (a && b) ≡ true → (a ≡ true) × (b ≡ true)
both true b h = (refl, h)
both false b h = absurd (cc)

and_false : (a : Bool) → (a && false) ≡ false
and_false true = refl
and_false false = refl

lt_yes : (a b : ℕ) → a < b → nat_lt a b ≡ true
lt_yes a b h = grind (arith, nat_tests)

pub lt_is : (a b : ℕ) → nat_lt a b ≡ true → a < b
lt_is a b h = grind (arith, nat_tests)

pub le_is : (a b : ℕ) → nat_le a b ≡ true → a ≤ b
le_is a b h = grind (arith, nat_tests)

-- what the answer says of the lines of the stream: those at hand before and after it
abbrev pub Comes : Fed → Cutter → Cutter → List RawLine → List RawLine → Type 0
Comes fed.More old new before later = (before ≡ later) × ((current new).room ≡ old.room) × ((current new).number ≡ old.number)
Comes fed.Line old new before later = (l : RawLine) × (before ≡ l ∷ later) × (line_text old.room old.number l ≡ Ok (text_at new)) × ((current new).room ≡ old.room - taken_by l) × ((current new).number ≡ old.number + 1) × (new.number ≡ old.number)
Comes fed.Ended old new before later = before ≡ []
Comes answer old new before later = (l : RawLine) × (ls : List RawLine) × (before ≡ l ∷ ls) × (line_text old.room old.number l ≡ Err (cause_of answer)) × (new.number ≡ old.number)

-- a line with its line feed is judged as it is
ended_comes : (c : Cutter) (bs : List ℕ) (later : List RawLine)
    → Comes (fed_by fed.Line (line_text c.room c.number (record { bytes = bs; is_ended = true }))) c
    (after_answer (fed_by fed.Line (line_text c.room c.number (record { bytes = bs; is_ended = true }))) c bs) (record { bytes = bs; is_ended = true } ∷ later) later
ended_comes c bs later =
    by_tests (nat_lt c.room (length bs + 1) && nat_le c.room most_line) (nat_lt most_line (length bs)) (list_any is_return (text_of c.number bs)) refl refl refl
  where
    by_tests : (a b s : Bool) → (nat_lt c.room (length bs + 1) && nat_le c.room most_line) ≡ a → nat_lt most_line (length bs) ≡ b → list_any is_return (text_of c.number bs) ≡ s
        → Comes (fed_by fed.Line (line_text c.room c.number (record { bytes = bs; is_ended = true }))) c
        (after_answer (fed_by fed.Line (line_text c.room c.number (record { bytes = bs; is_ended = true }))) c bs) (record { bytes = bs; is_ended = true } ∷ later) later
    by_tests true b s ea eb es = rw ea (record { bytes = bs; is_ended = true }, later, refl, rw ea refl, refl)
    by_tests false true s ea eb es = rw (ea, eb) (record { bytes = bs; is_ended = true }, later, refl, rw (ea, eb) refl, refl)
    by_tests false false true ea eb es = rw (ea, eb, es) (record { bytes = bs; is_ended = true }, later, refl, rw (ea, eb, es) refl, refl)
    by_tests false false false ea eb es = rw (ea, eb, es) (record { bytes = bs; is_ended = true }, refl, rw (ea, eb, es) refl, refl, refl, refl)

-- the first line of a text that begins with xs
record Begins (xs text : List ℕ) : Type 0 where
  more : List ℕ
  is_ended : Bool
  lines : List RawLine
  first : raw_lines text ≡ record { bytes = xs ++ more; is_ended = is_ended } ∷ lines

no_feed-append : (xs ys : List ℕ) → list_any is_feed xs ≡ false → list_any is_feed ys ≡ false → list_any is_feed (xs ++ ys) ≡ false
no_feed-append xs ys h k = list_any-append is_feed xs ys ∙ rw (h, k) refl

one_line : (xs : List ℕ) → 0 < length xs → list_any is_feed xs ≡ false → raw_lines xs ≡ record { bytes = xs; is_ended = false } ∷ []
one_line [] some h = absurd (omega (arith, some))
one_line (x ∷ xs) some h = raw_lines-last x xs h

begins : (xs rest : List ℕ) → 0 < length xs → list_any is_feed xs ≡ false → Begins xs (xs ++ rest)
begins xs rest some h = by_feed (list_any is_feed rest) refl
  where
    by_feed : (b : Bool) → list_any is_feed rest ≡ b → Begins xs (xs ++ rest)
    by_feed true e = record {
      more = before_first is_feed rest;
      is_ended = true;
      lines = raw_lines (after_first is_feed rest);
      first = ap (λ t. raw_lines (xs ++ t)) (cut_at_feed rest e)
          ∙ (ap raw_lines (sym (append_assoc xs (before_first is_feed rest) (10 ∷ after_first is_feed rest)))
          ∙ raw_lines-cut (xs ++ before_first is_feed rest) (after_first is_feed rest) (no_feed-append xs (before_first is_feed rest) h (no_feed_before rest)));
    }
    by_feed false e = record {
      more = rest;
      is_ended = false;
      lines = [];
      first = one_line (xs ++ rest) (omega (arith, some, length-append xs rest)) (no_feed-append xs rest h e);
    }

-- a line that is past a limit stays so when it grows
module _ (room n : ℕ) (xs more : List ℕ) (is_ended : Bool) where
  grown_past : nat_lt room (length xs + 0) ≡ true → nat_lt room (taken_by (record { bytes = xs ++ more; is_ended = is_ended })) ≡ true
  grown_past h = lt_yes _ _ (omega (arith, lt_is room (length xs + 0) h, length-append xs more))

  too_long : (nat_lt room (length xs + 0) && nat_le room most_line) ≡ true → line_text room n (record { bytes = xs ++ more; is_ended = is_ended }) ≡ Err why.TooLong
  too_long h = let parts = both (nat_lt room (length xs + 0)) (nat_le room most_line) h in rw (grown_past parts.0, parts.1) refl

  long : (nat_lt room (length xs + 0) && nat_le room most_line) ≡ false → nat_lt most_line (length xs) ≡ true → line_text room n (record { bytes = xs ++ more; is_ended = is_ended }) ≡ Err why.LongLine
  long h k =
      let past : most_line < length xs = lt_is most_line (length xs) k in
      let wide : nat_le room most_line ≡ false = by_room (nat_le room most_line) refl past in
      let still : nat_lt most_line (length (xs ++ more)) ≡ true = lt_yes _ _ (omega (arith, past, length-append xs more)) in
      rw (wide, and_false (nat_lt room (taken_by (record { bytes = xs ++ more; is_ended = is_ended }))), still) refl
    where
      by_room : (b : Bool) → nat_le room most_line ≡ b → most_line < length xs → nat_le room most_line ≡ false
      by_room false e past = e
      by_room true e past = absurd (clash (lt_yes room (length xs + 0) (omega (arith, past, le_is room most_line e))) e)
        where
          clash : nat_lt room (length xs + 0) ≡ true → nat_le room most_line ≡ true → ⊥
          clash f g = let t : true ≡ false = rw (f, g) at h in cc

-- a line that goes on is judged by its length
open_comes : (c : Cutter) (xs rest : List ℕ) → list_any is_feed xs ≡ false
    → Comes (fed_by fed.More (within c.room (record { bytes = xs; is_ended = false }))) c
    (after_answer (fed_by fed.More (within c.room (record { bytes = xs; is_ended = false }))) c xs) (raw_lines (xs ++ rest)) (raw_lines (xs ++ rest))
open_comes c xs rest none = by_tests (nat_lt c.room (length xs + 0) && nat_le c.room most_line) (nat_lt most_line (length xs)) refl refl
  where
    by_tests : (a b : Bool) → (nat_lt c.room (length xs + 0) && nat_le c.room most_line) ≡ a → nat_lt most_line (length xs) ≡ b
        → Comes (fed_by fed.More (within c.room (record { bytes = xs; is_ended = false }))) c
        (after_answer (fed_by fed.More (within c.room (record { bytes = xs; is_ended = false }))) c xs) (raw_lines (xs ++ rest)) (raw_lines (xs ++ rest))
    by_tests true b ea eb =
        let b = begins xs rest (omega (arith, lt_is _ _ (both (nat_lt c.room (length xs + 0)) (nat_le c.room most_line) ea).0)) none in
        rw ea (record { bytes = xs ++ b.more; is_ended = b.is_ended }, b.lines, b.first, too_long c.room c.number xs b.more b.is_ended ea, refl)
    by_tests false true ea eb =
        let b = begins xs rest (omega (arith, lt_is most_line (length xs) eb)) none in
        rw (ea, eb) (record { bytes = xs ++ b.more; is_ended = b.is_ended }, b.lines, b.first, long c.room c.number xs b.more b.is_ended ea eb, refl)
    by_tests false false ea eb = rw (ea, eb) (refl, refl, refl)

no_loop : (l : RawLine) (ls : List RawLine) → l ∷ ls ≡ ls → ⊥
no_loop l ls h = let n : suc (length ls) ≡ length ls = ap length h in omega (arith, n)

-- what comes later matters only where the line is cut, or goes on
later_cut : (answer : Fed) (old new : Cutter) (l : RawLine) (later : List RawLine) (later_of : Fed → List RawLine) → later ≡ later_of fed.Line
    → Comes answer old new (l ∷ later) later → Comes answer old new (l ∷ later) (later_of answer)
later_cut fed.More old new l later later_of e h = absurd (no_loop l later h.0)
later_cut fed.Line old new l later later_of e h = let P : List RawLine → Type 0 = λ ls. Comes fed.Line old new (l ∷ later) ls in subst P e h
later_cut fed.Ended old new l later later_of e h = h
later_cut fed.Long old new l later later_of e h = h
later_cut fed.OverLimit old new l later later_of e h = h
later_cut fed.StrayCr old new l later later_of e h = h

later_open : (answer : Fed) (old new : Cutter) (later : List RawLine) (later_of : Fed → List RawLine) → later ≡ later_of fed.More
    → Comes answer old new later later → Comes answer old new later (later_of answer)
later_open fed.More old new later later_of e h = let P : List RawLine → Type 0 = λ ls. Comes fed.More old new later ls in subst P e h
later_open fed.Line old new later later_of e h = absurd (no_loop h.0 later (sym h.1))
later_open fed.Ended old new later later_of e h = h
later_open fed.Long old new later later_of e h = h
later_open fed.OverLimit old new later later_of e h = h
later_open fed.StrayCr old new later later_of e h = h

module _ (c : Cutter) (piece rest : List ℕ) (none : list_any is_feed c.bytes ≡ false) where
  -- the lines that are left after an answer
  abbrev left_of : Fed → List RawLine
  left_of a = raw_lines ((current (after_answer a c (c.bytes ++ before_first is_feed piece))).bytes ++ (drop (taken_for a c (length (before_first is_feed piece))) piece ++ rest))

  cut_comes : list_any is_feed piece ≡ true
      → Comes (fed_by fed.Line (line_text c.room c.number (record { bytes = c.bytes ++ before_first is_feed piece; is_ended = true }))) c
      (after_answer (fed_by fed.Line (line_text c.room c.number (record { bytes = c.bytes ++ before_first is_feed piece; is_ended = true }))) c (c.bytes ++ before_first is_feed piece))
      (raw_lines (c.bytes ++ (piece ++ rest)))
      (left_of (fed_by fed.Line (line_text c.room c.number (record { bytes = c.bytes ++ before_first is_feed piece; is_ended = true }))))
  cut_comes e =
      let first = before_first is_feed piece in
      let behind = after_first is_feed piece in
      let piece_is : piece ≡ first ++ 10 ∷ behind = cut_at_feed piece e in
      let dropped : drop (length first + 1) piece ≡ behind =
      ap (λ t. drop (length first + 1) t) (piece_is ∙ sym (append_assoc first (10 ∷ []) behind)) ∙ drop_at (first ++ 10 ∷ []) behind (length first + 1) (length-append first (10 ∷ [])) in
      let whole : c.bytes ++ (piece ++ rest) ≡ (c.bytes ++ first) ++ 10 ∷ (behind ++ rest) =
      ap (λ t. c.bytes ++ (t ++ rest)) piece_is ∙ (ap (λ t. c.bytes ++ t) (append_assoc first (10 ∷ behind) rest) ∙ sym (append_assoc c.bytes first (10 ∷ (behind ++ rest)))) in
      let lines = ap raw_lines whole ∙ raw_lines-cut (c.bytes ++ first) (behind ++ rest) (no_feed-append c.bytes first none (no_feed_before piece)) in
      rw lines (later_cut _ c _ (record { bytes = c.bytes ++ first; is_ended = true }) (raw_lines (behind ++ rest)) left_of (ap (λ t. raw_lines (t ++ rest)) (sym dropped)) (ended_comes c (c.bytes ++ first) (raw_lines (behind ++ rest))))

  grown_comes : list_any is_feed piece ≡ false
      → Comes (fed_by fed.More (within c.room (record { bytes = c.bytes ++ before_first is_feed piece; is_ended = false }))) c
      (after_answer (fed_by fed.More (within c.room (record { bytes = c.bytes ++ before_first is_feed piece; is_ended = false }))) c (c.bytes ++ before_first is_feed piece))
      (raw_lines (c.bytes ++ (piece ++ rest)))
      (left_of (fed_by fed.More (within c.room (record { bytes = c.bytes ++ before_first is_feed piece; is_ended = false }))))
  grown_comes e =
      let first = before_first is_feed piece in
      let same : first ≡ piece = no_feed_at_all piece e in
      let whole : c.bytes ++ (piece ++ rest) ≡ (c.bytes ++ first) ++ rest = sym (append_assoc c.bytes piece rest) ∙ ap (λ t. (c.bytes ++ t) ++ rest) (sym same) in
      let nothing : drop (length first) piece ≡ [] = drop_all (length first) piece (let n = ap length same in omega (arith, n)) in
      rw whole (later_open _ c _ (raw_lines ((c.bytes ++ first) ++ rest)) left_of (ap (λ t. raw_lines ((c.bytes ++ first) ++ (t ++ rest))) (sym nothing)) (open_comes c (c.bytes ++ first) rest (no_feed-append c.bytes first none (no_feed_before piece))))

  added_comes : Comes (judged c (line_with c piece)) c (after_answer (judged c (line_with c piece)) c (c.bytes ++ before_first is_feed piece)) (raw_lines (c.bytes ++ (piece ++ rest))) (left_of (judged c (line_with c piece)))
  added_comes = by_feed (list_any is_feed piece) refl
    where
      by_feed : (b : Bool) → list_any is_feed piece ≡ b → Comes (judged c (line_with c piece)) c (after_answer (judged c (line_with c piece)) c (c.bytes ++ before_first is_feed piece)) (raw_lines (c.bytes ++ (piece ++ rest))) (left_of (judged c (line_with c piece)))
      by_feed true e = rw e (cut_comes e)
      by_feed false e = rw e (grown_comes e)

pub no_feed_now : (c : Cutter) → list_any is_feed c.bytes ≡ false → list_any is_feed (current c).bytes ≡ false
no_feed_now c h = by_last c.last
  where
    by_last : (l : Fed) → list_any is_feed (current_after l c).bytes ≡ false
    by_last fed.Line = refl
    by_last fed.More = h
    by_last fed.Ended = h
    by_last fed.Long = h
    by_last fed.OverLimit = h
    by_last fed.StrayCr = h

-- what the answer to a piece says of the lines of the stream
pub feed_comes : (c : Cutter) (piece rest : List ℕ) → list_any is_feed c.bytes ≡ false → is_refusal c.last ≡ false
    → Comes (feed_answer c piece) (current c) (after_feed c piece) (raw_lines ((current c).bytes ++ (piece ++ rest))) (raw_lines ((current (after_feed c piece)).bytes ++ (drop (feed_taken c piece) piece ++ rest)))
feed_comes c piece rest none goes = rw goes (added_comes (current c) piece rest (no_feed_now c none))
