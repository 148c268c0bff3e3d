-- No more bytes of a piece are taken than it has.
use Rattle.std.proofs.Common.{◌≡◌, ℕ, ◌+◌, ◌-◌, ◌≤◌, min, Bool, true, false, ◌&&◌, List, ◌∷◌, ◌++◌, length, refl, sym, ◌∙◌, ap, arith, Result, Ok, Err}
use Rattle.std.specs.Prelude.{nat_lt, nat_le}
use Rattle.std.specs.List.{list_any, before_first, after_first}
use Rattle.std.proofs.lemmas.List.{length-append}
use Rattle.telem_csv.specs.Cutter.{Cutter, line_with, judged, taken_for}
use Rattle.telem_csv.specs.Fed.{fed_by}
use Rattle.telem_csv.specs.Lines.{is_feed, is_return, line_text, within, text_of, most_line}
use Rattle.telem_csv.specs.declared.fed.Fed.{Fed}
use Rattle.telem_csv.specs.declared.fed.Fed.TheVariants as fed
use Rattle.telem_csv.specs.declared.fault.TelemWhy.{TelemWhy}
use Rattle.telem_csv.specs.declared.fault.TelemWhy.TheVariants as why
use Rattle.telem_csv.proofs.Cuts.{cut_at_feed, no_feed_at_all}
use Rattle.telem_csv.proofs.Stream.{both, lt_is, le_is}

-- the bytes before the first line feed, and it
feed_fits : (piece : List ℕ) → list_any is_feed piece ≡ true → length (before_first is_feed piece) + 1 ≤ length piece
feed_fits piece e =
    let size = ap length (cut_at_feed piece e) in
    omega (arith, size, length-append (before_first is_feed piece) (10 ∷ after_first is_feed piece))

module _ (c : Cutter) (piece : List ℕ) where
  -- past the room, and past the longest line
  over_taken : (extra : ℕ) → (nat_lt c.room (length (c.bytes ++ before_first is_feed piece) + extra) && nat_le c.room most_line) ≡ true
      → length (before_first is_feed piece) + extra ≤ length piece → min c.room most_line + 1 - length c.bytes ≤ length piece
  over_taken extra h fits =
      let parts = both (nat_lt c.room (length (c.bytes ++ before_first is_feed piece) + extra)) (nat_le c.room most_line) h in
      omega (arith, lt_is _ _ parts.0, le_is c.room most_line parts.1, fits, length-append c.bytes (before_first is_feed piece))

  long_taken : nat_lt most_line (length (c.bytes ++ before_first is_feed piece)) ≡ true → length (before_first is_feed piece) ≤ length piece → min c.room most_line + 1 - length c.bytes ≤ length piece
  long_taken h fits = omega (arith, lt_is _ _ h, fits, length-append c.bytes (before_first is_feed piece))

  pub taken_fits : taken_for (judged c (line_with c piece)) c (length (before_first is_feed piece)) ≤ length piece
  taken_fits = by_feed (list_any is_feed piece) refl
    where
      by_feed : (b : Bool) → list_any is_feed piece ≡ b → taken_for (judged c (line_with c piece)) c (length (before_first is_feed piece)) ≤ length piece
      by_feed true e = rw e (by_tests (nat_lt c.room (length (c.bytes ++ before_first is_feed piece) + 1) && nat_le c.room most_line) (nat_lt most_line (length (c.bytes ++ before_first is_feed piece))) (list_any is_return (text_of c.number (c.bytes ++ before_first is_feed piece))) refl refl refl (feed_fits piece e))
        where
          by_tests : (x y z : Bool) → (nat_lt c.room (length (c.bytes ++ before_first is_feed piece) + 1) && nat_le c.room most_line) ≡ x → nat_lt most_line (length (c.bytes ++ before_first is_feed piece)) ≡ y
              → list_any is_return (text_of c.number (c.bytes ++ before_first is_feed piece)) ≡ z → length (before_first is_feed piece) + 1 ≤ length piece
              → taken_for (fed_by fed.Line (line_text c.room c.number (record { bytes = c.bytes ++ before_first is_feed piece; is_ended = true }))) c (length (before_first is_feed piece)) ≤ length piece
          by_tests true y z ex ey ez fits = rw ex (over_taken 1 ex fits)
          by_tests false true z ex ey ez fits = rw (ex, ey) (long_taken ey (omega (arith, fits)))
          by_tests false false true ex ey ez fits = rw (ex, ey, ez) fits
          by_tests false false false ex ey ez fits = rw (ex, ey, ez) fits
      by_feed false e = rw e (by_tests (nat_lt c.room (length (c.bytes ++ before_first is_feed piece) + 0) && nat_le c.room most_line) (nat_lt most_line (length (c.bytes ++ before_first is_feed piece))) refl refl (let n = ap length (no_feed_at_all piece e) in omega (arith, n)))
        where
          by_tests : (x y : Bool) → (nat_lt c.room (length (c.bytes ++ before_first is_feed piece) + 0) && nat_le c.room most_line) ≡ x → nat_lt most_line (length (c.bytes ++ before_first is_feed piece)) ≡ y
              → length (before_first is_feed piece) ≤ length piece
              → taken_for (fed_by fed.More (within c.room (record { bytes = c.bytes ++ before_first is_feed piece; is_ended = false }))) c (length (before_first is_feed piece)) ≤ length piece
          by_tests true y ex ey fits = rw ex (over_taken 0 ex (omega (arith, fits)))
          by_tests false true ex ey fits = rw (ex, ey) (long_taken ey fits)
          by_tests false false ex ey fits = rw (ex, ey) fits

line_not_more : (r : Result (List ℕ) TelemWhy) → fed_by fed.Line r ≡ fed.More → ⊥
line_not_more (Ok x) h = cc
line_not_more (Err why.TooLong) h = cc
line_not_more (Err why.LongLine) h = cc
line_not_more (Err why.StrayCr) h = cc
line_not_more (Err why.NoHeader) h = cc
line_not_more (Err (why.NoColumn c)) h = cc
line_not_more (Err (why.TwiceColumn c)) h = cc
line_not_more (Err (why.Ragged want got)) h = cc
line_not_more (Err (why.Field c e)) h = cc
line_not_more (Err (why.NoInput i)) h = cc
line_not_more (Err why.Memory) h = cc

-- where the line goes on the whole piece was taken
pub more_takes_all : (c : Cutter) (piece : List ℕ) (answer : Fed) (taken : ℕ) → answer ≡ judged c (line_with c piece) → taken ≡ taken_for answer c (length (before_first is_feed piece)) → answer ≡ fed.More → taken ≡ length piece
more_takes_all c piece answer taken a t m = by_feed (list_any is_feed piece) refl
  where
    by_feed : (b : Bool) → list_any is_feed piece ≡ b → taken ≡ length piece
    by_feed true e = absurd (line_not_more (line_text c.room c.number (record { bytes = c.bytes ++ before_first is_feed piece; is_ended = true })) (let j = rw e at (sym a ∙ m) in j))
    by_feed false e = t ∙ (ap (λ f. taken_for f c (length (before_first is_feed piece))) m ∙ ap length (no_feed_at_all piece e))
