-- What is owed of the rows, and of the telemetry, before a piece and after it.
use Rattle.std.proofs.Common.{◌≡◌, ℕ, ◌+◌, Bool, true, false, ◌&&◌, List, [], ◌∷◌, ◌++◌, length, drop, refl, sym, ◌∙◌, ap}
use Rattle.std.specs.Prelude.{nat_lt, nat_le}
use Rattle.std.specs.List.{list_any, before_first}
use Rattle.std.proofs.lemmas.List.{append-nil}
use Rattle.telem_csv.specs.Columns.{Columns}
use Rattle.telem_csv.specs.Cutter.{Cutter, current, line_with, judged, taken_for, after_answer, feed_answer, feed_taken, after_feed, judged_last, finish_answer, after_finish, rows_owed, rows_after, telemetry_owed, telemetry_after}
use Rattle.telem_csv.specs.Fed.{is_refusal}
use Rattle.telem_csv.specs.Lines.{is_feed, is_return, RawLine, raw_lines, text_of, most_line}
use Rattle.telem_csv.specs.Rows.{rows_from}
use Rattle.telem_csv.specs.Telemetry.{from_line}
use Rattle.telem_csv.specs.declared.fed.Fed.{Fed}
use Rattle.telem_csv.specs.declared.fed.Fed.TheVariants as fed
use Rattle.telem_csv.proofs.Cuts.{raw_lines-last}
use Rattle.telem_csv.proofs.Stream.{Comes, feed_comes, no_feed_now}

rows_told : (head : Columns) (answer : Fed) (old new : Cutter) (before : List RawLine) (rest : List ℕ) → Comes answer old new before (raw_lines ((current new).bytes ++ rest))
    → rows_from head old.room old.number before ≡ rows_after head answer new rest
rows_told head fed.More old new before rest h = rw (h.0, h.1, h.2) refl
rows_told head fed.Line old new before rest h = rw (h.1, h.2, h.3, h.4, h.5) refl
rows_told head fed.Ended old new before rest h = rw h refl
rows_told head fed.Long old new before rest h = rw (h.2, h.3, h.4) refl
rows_told head fed.OverLimit old new before rest h = rw (h.2, h.3, h.4) refl
rows_told head fed.StrayCr old new before rest h = rw (h.2, h.3, h.4) refl

telemetry_told : (inputs outputs : List (List ℕ)) (answer : Fed) (old new : Cutter) (before : List RawLine) (rest : List ℕ) → Comes answer old new before (raw_lines ((current new).bytes ++ rest))
    → from_line inputs outputs old.room old.number before ≡ telemetry_after inputs outputs answer new rest
telemetry_told inputs outputs fed.More old new before rest h = rw (h.0, h.1, h.2) refl
telemetry_told inputs outputs fed.Line old new before rest h = rw (h.1, h.2, h.3, h.4, h.5) refl
telemetry_told inputs outputs fed.Ended old new before rest h = rw h refl
telemetry_told inputs outputs fed.Long old new before rest h = rw (h.2, h.3, h.4) refl
telemetry_told inputs outputs fed.OverLimit old new before rest h = rw (h.2, h.3, h.4) refl
telemetry_told inputs outputs fed.StrayCr old new before rest h = rw (h.2, h.3, h.4) refl

module _ (c : Cutter) (piece : List ℕ) (none : list_any is_feed c.bytes ≡ false) (goes : is_refusal c.last ≡ false) where
  feed_rows : (head : Columns) (rest : List ℕ) → rows_owed head c (piece ++ rest) ≡ rows_after head (feed_answer c piece) (after_feed c piece) (drop (feed_taken c piece) piece ++ rest)
  feed_rows head rest = rows_told head (feed_answer c piece) (current c) (after_feed c piece) (raw_lines ((current c).bytes ++ (piece ++ rest))) (drop (feed_taken c piece) piece ++ rest) (feed_comes c piece rest none goes)

  feed_telemetry : (inputs outputs : List (List ℕ)) (rest : List ℕ)
      → telemetry_owed inputs outputs c (piece ++ rest) ≡ telemetry_after inputs outputs (feed_answer c piece) (after_feed c piece) (drop (feed_taken c piece) piece ++ rest)
  feed_telemetry inputs outputs rest =
      telemetry_told inputs outputs (feed_answer c piece) (current c) (after_feed c piece) (raw_lines ((current c).bytes ++ (piece ++ rest))) (drop (feed_taken c piece) piece ++ rest) (feed_comes c piece rest none goes)

-- the same of what feed gave
pub rows_of_feed : (c new : Cutter) (piece : List ℕ) (answer : Fed) (taken : ℕ) → list_any is_feed c.bytes ≡ false → answer ≡ feed_answer c piece → taken ≡ feed_taken c piece → new ≡ after_feed c piece
    → is_refusal c.last ≡ false → (head : Columns) (rest : List ℕ) → rows_owed head c (piece ++ rest) ≡ rows_after head answer new (drop taken piece ++ rest)
rows_of_feed c new piece answer taken none a t n goes head rest = rw (a, t, n) (feed_rows c piece none goes head rest)

pub telemetry_of_feed : (c new : Cutter) (piece : List ℕ) (answer : Fed) (taken : ℕ) → list_any is_feed c.bytes ≡ false → answer ≡ feed_answer c piece → taken ≡ feed_taken c piece → new ≡ after_feed c piece
    → is_refusal c.last ≡ false → (inputs outputs : List (List ℕ)) (rest : List ℕ) → telemetry_owed inputs outputs c (piece ++ rest) ≡ telemetry_after inputs outputs answer new (drop taken piece ++ rest)
telemetry_of_feed c new piece answer taken none a t n goes inputs outputs rest = rw (a, t, n) (feed_telemetry c piece none goes inputs outputs rest)

-- the bytes behind the last line feed are a line
last_line : (b : ℕ) (bs : List ℕ) → list_any is_feed (b ∷ bs) ≡ false → raw_lines ((b ∷ bs) ++ []) ≡ record { bytes = b ∷ bs; is_ended = false } ∷ []
last_line b bs none = ap raw_lines (append-nil (b ∷ bs)) ∙ raw_lines-last b bs none

module _ (c : Cutter) where
  -- whatever is made of the line's answer, made of the answer of the end of the stream
  last_rows : (head : Columns) (bs : List ℕ) → list_any is_feed bs ≡ false → rows_from head c.room c.number (raw_lines (bs ++ [])) ≡ rows_after head (judged_last c bs) (after_answer (judged_last c bs) c bs) []
  last_rows head [] none = refl
  last_rows head (b ∷ bs) none =
      rw (last_line b bs none) (by_tests (nat_lt c.room (length (b ∷ bs) + 0) && nat_le c.room most_line) (nat_lt most_line (length (b ∷ bs))) (list_any is_return (text_of c.number (b ∷ bs))) refl refl refl)
    where
      by_tests : (x y z : Bool) → (nat_lt c.room (length (b ∷ bs) + 0) && nat_le c.room most_line) ≡ x → nat_lt most_line (length (b ∷ bs)) ≡ y → list_any is_return (text_of c.number (b ∷ bs)) ≡ z
          → rows_from head c.room c.number (record { bytes = b ∷ bs; is_ended = false } ∷ []) ≡ rows_after head (judged_last c (b ∷ bs)) (after_answer (judged_last c (b ∷ bs)) c (b ∷ bs)) []
      by_tests true y z ex ey ez = rw ex refl
      by_tests false true z ex ey ez = rw (ex, ey) refl
      by_tests false false true ex ey ez = rw (ex, ey, ez) refl
      by_tests false false false ex ey ez = rw (ex, ey, ez) refl

  last_telemetry : (inputs outputs : List (List ℕ)) (bs : List ℕ) → list_any is_feed bs ≡ false
      → from_line inputs outputs c.room c.number (raw_lines (bs ++ [])) ≡ telemetry_after inputs outputs (judged_last c bs) (after_answer (judged_last c bs) c bs) []
  last_telemetry inputs outputs [] none = refl
  last_telemetry inputs outputs (b ∷ bs) none =
      rw (last_line b bs none) (by_tests (nat_lt c.room (length (b ∷ bs) + 0) && nat_le c.room most_line) (nat_lt most_line (length (b ∷ bs))) (list_any is_return (text_of c.number (b ∷ bs))) refl refl refl)
    where
      by_tests : (x y z : Bool) → (nat_lt c.room (length (b ∷ bs) + 0) && nat_le c.room most_line) ≡ x → nat_lt most_line (length (b ∷ bs)) ≡ y → list_any is_return (text_of c.number (b ∷ bs)) ≡ z
          → from_line inputs outputs c.room c.number (record { bytes = b ∷ bs; is_ended = false } ∷ []) ≡ telemetry_after inputs outputs (judged_last c (b ∷ bs)) (after_answer (judged_last c (b ∷ bs)) c (b ∷ bs)) []
      by_tests true y z ex ey ez = rw ex refl
      by_tests false true z ex ey ez = rw (ex, ey) refl
      by_tests false false true ex ey ez = rw (ex, ey, ez) refl
      by_tests false false false ex ey ez = rw (ex, ey, ez) refl

module _ (c new : Cutter) (answer : Fed) (none : list_any is_feed c.bytes ≡ false) (a : answer ≡ finish_answer c) (n : new ≡ after_finish c) (goes : is_refusal c.last ≡ false) where
  pub rows_of_finish : (head : Columns) → rows_owed head c [] ≡ rows_after head answer new []
  rows_of_finish head = rw (a, n, goes) (last_rows (current c) head (current c).bytes (no_feed_now c none))

  pub telemetry_of_finish : (inputs outputs : List (List ℕ)) → telemetry_owed inputs outputs c [] ≡ telemetry_after inputs outputs answer new []
  telemetry_of_finish inputs outputs = rw (a, n, goes) (last_telemetry (current c) inputs outputs (current c).bytes (no_feed_now c none))

-- what feed gave, from its steps
pub record IsFed (c : Cutter) (piece : List ℕ) (answer : Fed) (taken : ℕ) (new : Cutter) : Type 0 where
  pub is_answer : answer ≡ feed_answer c piece
  pub is_taken : taken ≡ feed_taken c piece
  pub is_after : new ≡ after_feed c piece

pub fed_by_steps : (c cur new : Cutter) (piece : List ℕ) (answer : Fed) (taken : ℕ) → is_refusal c.last ≡ false → cur ≡ current c
    → answer ≡ judged cur (line_with cur piece) → taken ≡ taken_for answer cur (length (before_first is_feed piece)) → new ≡ after_answer answer cur (line_with cur piece).bytes → IsFed c piece answer taken new
fed_by_steps c cur new piece answer taken goes e a t n =
    let is_answer : answer ≡ judged (current c) (line_with (current c) piece) = rw e at a in
    record {
      is_answer = rw goes is_answer;
      is_taken = rw (goes, sym is_answer, sym e) t;
      is_after = rw (goes, sym is_answer, sym e) n;
    }

-- with its own bytes a cutter changes its last answer alone
same_but_last : (answer : Fed) (c : Cutter) → after_answer answer c c.bytes ≡ record { room = c.room; number = c.number; bytes = c.bytes; last = answer }
same_but_last fed.More c = refl
same_but_last fed.Line c = refl
same_but_last fed.Long c = refl
same_but_last fed.OverLimit c = refl
same_but_last fed.StrayCr c = refl
same_but_last fed.Ended c = refl

-- what finish gave, from its steps
pub record IsFinished (c : Cutter) (answer : Fed) (new : Cutter) : Type 0 where
  pub is_answer : answer ≡ finish_answer c
  pub is_after : new ≡ after_finish c

pub finished_by_steps : (c cur : Cutter) (answer : Fed) → is_refusal c.last ≡ false → cur ≡ current c → answer ≡ judged_last cur cur.bytes
    → IsFinished c answer (record { room = cur.room; number = cur.number; bytes = cur.bytes; last = answer })
finished_by_steps c cur answer goes e a =
    let is_answer : answer ≡ judged_last (current c) (current c).bytes = rw e at a in
    record {
      is_answer = rw goes is_answer;
      is_after = rw (goes, sym is_answer, sym e) (sym (same_but_last answer cur));
    }
