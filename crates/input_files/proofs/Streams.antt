-- What a stream has at hand, as pieces are taken and read.
use Rattle.std.proofs.Common.{◌≡◌, ◌≢◌, ℕ, ◌+◌, ◌-◌, ◌<◌, ◌≤◌, Bool, true, false, List, [], ◌∷◌, ◌++◌, ◌&&◌, length, take, drop, Option, Some, None, refl, sym, ap, ◌∙◌, arith, append_assoc, length-append, if◌then◌else◌, Result, Ok, Err, length-take}
use Rattle.std.proofs.lemmas.List.{drop-take, drop-drop, drop_all, drop_at, take_all}
use Rattle.input_files.specs.Stream.{GoesOn, BothTold, TellsRefusal}
use Rattle.std.specs.Prelude.{slice_range, nat_lt, nat_le}
use Rattle.std.specs.List.{before_first, after_first, list_any, position_or_len}
use Rattle.telem_csv.proofs.Cuts.{cut_at_feed}
use Rattle.input_files.specs.Ended.{CutsLine, GrowsLine}
use Rattle.telem_csv.specs.Lines.{is_feed, is_return, most_line, text_of, within, line_text}
use Rattle.telem_csv.specs.Columns.{Columns}
use Rattle.telem_csv.specs.Rows.{refused_rows, refused_at}
use Rattle.telem_csv.specs.Telemetry.{no_header}
use Rattle.telem_csv.specs.declared.fault.TelemWhy.{TelemWhy}
use Rattle.telem_csv.specs.declared.fault.TelemWhy.TheVariants as why
use Rattle.telem_csv.specs.Fed.{is_refusal, cause_of, fed_by}
use Rattle.telem_csv.specs.Cutter.{Cutter, IsCutter, behind, current, current_after, judged, line_with, taken_for, after_answer, feed_answer, feed_taken, after_feed, finish_answer, after_finish, rows_after, telemetry_after, rows_owed, telemetry_owed}
use Rattle.telem_csv.specs.declared.fault.TelemFault.{TelemFault}
use Rattle.telem_csv.specs.declared.fed.Fed.{Fed}
use Rattle.telem_csv.specs.declared.fed.Fed.TheVariants as fed

-- the part of a piece that is left when more of it is taken
pub left-drop : (xs : List ℕ) (a b n : ℕ) → a ≤ b → n ≤ length (slice_range xs a b) → drop n (slice_range xs a b) ≡ slice_range xs (a + n) b
left-drop xs a b n l h =
    let few : n ≤ b - a = omega (arith, length-take (b - a) (drop a xs)) in
    let parts : b - a ≡ n + (b - (a + n)) = omega arith in
    ap (λ m. drop n (take m (drop a xs))) parts ∙ drop-take n (b - (a + n)) (drop a xs) ∙ ap (take (b - (a + n))) (drop-drop n a xs)

-- ---- what an answer of a cutter does to its line and to the room

answer-room : (a : Fed) (c : Cutter) (bytes : List ℕ) → (after_answer a c bytes).room ≡ c.room
answer-room fed.More c bytes = refl
answer-room fed.Line c bytes = refl
answer-room fed.Long c bytes = refl
answer-room fed.OverLimit c bytes = refl
answer-room fed.StrayCr c bytes = refl
answer-room fed.Ended c bytes = refl

-- the cutter after an answer, where the stream was not refused before
fed-going : (c : Cutter) (piece : List ℕ) → is_refusal c.last ≡ false → after_feed c piece ≡ after_answer (feed_answer c piece) (current c) (line_with (current c) piece).bytes
fed-going c piece going = rw going refl

finished-going : (c : Cutter) → is_refusal c.last ≡ false → after_finish c ≡ after_answer (finish_answer c) (current c) (current c).bytes
finished-going c going = rw going refl

current-more : (c : Cutter) → c.last ≡ fed.More → current c ≡ c
current-more c e = ap (λ f. current_after f c) e

pub current-line : (c : Cutter) → c.last ≡ fed.Line → current c ≡ behind c
current-line c e = ap (λ f. current_after f c) e

-- a cut line takes some of the room
room-fewer : (c new : Cutter) → IsCutter new → new.last ≡ fed.Line → new.room ≡ (current c).room → (current new).room < (current c).room
room-fewer c new is line same =
    let some = is.some_line line in
    let less : (current new).room ≡ new.room - (length new.bytes + 1) = ap (λ (c : Cutter). c.room) (current-line new line) in
    omega arith

pub fed-line : (c new : Cutter) (piece : List ℕ) → is_refusal c.last ≡ false → new ≡ after_feed c piece → IsCutter new → new.last ≡ fed.Line → (current new).room < (current c).room
fed-line c new piece going e is line = room-fewer c new is line (ap (λ (c : Cutter). c.room) (e ∙ fed-going c piece going) ∙ answer-room (feed_answer c piece) (current c) (line_with (current c) piece).bytes)

pub finished-line : (c new : Cutter) → is_refusal c.last ≡ false → new ≡ after_finish c → IsCutter new → new.last ≡ fed.Line → (current new).room < (current c).room
finished-line c new going e is line = room-fewer c new is line (ap (λ (c : Cutter). c.room) (e ∙ finished-going c going) ∙ answer-room (finish_answer c) (current c) (current c).bytes)

pub fed-more : (c new : Cutter) (piece : List ℕ) → is_refusal c.last ≡ false → new ≡ after_feed c piece → IsCutter new → new.last ≡ fed.More → feed_answer c piece ≡ fed.More → feed_taken c piece ≡ length piece → GoesOn c new piece
fed-more c new piece going e is last answer taken =
    let same = current-more new last in
    let after = e ∙ fed-going c piece going in
    let bytes : new.bytes ≡ (current c).bytes ++ before_first is_feed piece = ap (λ (c : Cutter). c.bytes) (after ∙ ap (λ a. after_answer a (current c) (line_with (current c) piece).bytes) answer) in
    let all : length (before_first is_feed piece) ≡ length piece = sym (taken-more c piece going answer) ∙ taken in
    let long : length new.bytes ≡ length (current c).bytes + length (before_first is_feed piece) = ap length bytes ∙ length-append (current c).bytes (before_first is_feed piece) in
    let now : length (current new).bytes ≡ length new.bytes = ap (λ (c : Cutter). length c.bytes) same in
    let few = is.in_line in
    record {
      room = ap (λ (c : Cutter). c.room) same ∙ ap (λ (c : Cutter). c.room) after ∙ answer-room (feed_answer c piece) (current c) (line_with (current c) piece).bytes;
      longer = λ h. omega arith;
      short = omega arith;
    }
  where
    taken-more : (c : Cutter) (piece : List ℕ) → is_refusal c.last ≡ false → feed_answer c piece ≡ fed.More → feed_taken c piece ≡ length (before_first is_feed piece)
    taken-more c piece going answer = if-false going ∙ ap (λ a. taken_for a (current c) (length (before_first is_feed piece))) answer
      where
        if-false : (e : is_refusal c.last ≡ false) → feed_taken c piece ≡ taken_for (feed_answer c piece) (current c) (length (before_first is_feed piece))
        if-false e = rw e refl

-- ---- what a piece does to the line at hand

-- a line that is not cut is no line
more_not_line : {A : Type 0} (r : Result A TelemWhy) → fed_by fed.More r ≡ fed.Line → ⊥
more_not_line (Ok x) h = cc
more_not_line (Err why.NoHeader) h = cc
more_not_line (Err (why.NoColumn c)) h = cc
more_not_line (Err (why.TwiceColumn c)) h = cc
more_not_line (Err (why.Ragged want got)) h = cc
more_not_line (Err (why.Field c e)) h = cc
more_not_line (Err (why.NoInput i)) h = cc
more_not_line (Err why.LongLine) h = cc
more_not_line (Err why.StrayCr) h = cc
more_not_line (Err why.TooLong) h = cc
more_not_line (Err why.Memory) h = cc

-- a line that is told has a text
line-told : (room n : ℕ) (bytes : List ℕ) → fed_by fed.Line (line_text room n (record { bytes = bytes; is_ended = true })) ≡ fed.Line
    → line_text room n (record { bytes = bytes; is_ended = true }) ≡ Ok (text_of n bytes)
line-told room n bytes h = by (nat_lt room (length bytes + 1) && nat_le room most_line) (nat_lt most_line (length bytes)) (list_any is_return (text_of n bytes)) refl refl refl
  where
    by : (a b s : Bool) → (nat_lt room (length bytes + 1) && nat_le room most_line) ≡ a → nat_lt most_line (length bytes) ≡ b → list_any is_return (text_of n bytes) ≡ s
        → line_text room n (record { bytes = bytes; is_ended = true }) ≡ Ok (text_of n bytes)
    by true b s ea eb es = let no : fed.OverLimit ≡ fed.Line = rw ea at h in absurd cc
    by false true s ea eb es = let no : fed.Long ≡ fed.Line = rw (ea, eb) at h in absurd cc
    by false false true ea eb es = let no : fed.StrayCr ≡ fed.Line = rw (ea, eb, es) at h in absurd cc
    by false false false ea eb es = rw (ea, eb, es) refl

module _ (c new : Cutter) (piece : List ℕ) (going : is_refusal c.last ≡ false) (is_new : new ≡ after_feed c piece) (is : IsCutter new) where
  after-is : (a : Fed) → feed_answer c piece ≡ a → new ≡ after_answer a (current c) (line_with (current c) piece).bytes
  after-is a answer = is_new ∙ fed-going c piece going ∙ ap (λ a. after_answer a (current c) (line_with (current c) piece).bytes) answer

  taken-is : (a : Fed) → feed_answer c piece ≡ a → feed_taken c piece ≡ taken_for a (current c) (length (before_first is_feed piece))
  taken-is a answer = going-is ∙ ap (λ a. taken_for a (current c) (length (before_first is_feed piece))) answer
    where
      going-is : feed_taken c piece ≡ taken_for (feed_answer c piece) (current c) (length (before_first is_feed piece))
      going-is = rw going refl

  judged-is : feed_answer c piece ≡ judged (current c) (line_with (current c) piece)
  judged-is = rw going refl

  -- the line was cut at the first line feed of the piece
  pub feed-cuts : (n : ℕ) → n ≡ feed_taken c piece → (rest : List ℕ) → new.last ≡ fed.Line → feed_answer c piece ≡ fed.Line → CutsLine c new (piece ++ rest) (drop n piece ++ rest)
  feed-cuts n is_n rest last answer = by (list_any is_feed piece) refl (sym judged-is ∙ answer)
    where
      at_hand : List ℕ
      at_hand = (current c).bytes

      first : List ℕ
      first = before_first is_feed piece

      rest_of : List ℕ
      rest_of = after_first is_feed piece

      by : (b : Bool) → list_any is_feed piece ≡ b
          → (if b then fed_by fed.Line (line_text (current c).room (current c).number (record { bytes = at_hand ++ first; is_ended = b })) else fed_by fed.More (within (current c).room (record { bytes = at_hand ++ first; is_ended = b }))) ≡ fed.Line
          → CutsLine c new (piece ++ rest) (drop n piece ++ rest)
      by false e h = absurd (more_not_line (within (current c).room (record { bytes = at_hand ++ first; is_ended = false })) h)
      by true e h =
          let after = after-is fed.Line answer in
          let piece_is : piece ≡ first ++ 10 ∷ rest_of = cut_at_feed piece e in
          let taken : n ≡ length first + 1 = is_n ∙ taken-is fed.Line answer in
          let dropped : drop n piece ≡ rest_of =
          ap (λ n. drop n piece) taken ∙ ap (drop (length first + 1)) (piece_is ∙ sym (append_assoc first (10 ∷ []) rest_of)) ∙ drop_at (first ++ 10 ∷ []) rest_of (length first + 1) (length-append first (10 ∷ [])) in
          let bytes : new.bytes ≡ at_hand ++ first = ap (λ (c : Cutter). c.bytes) after in
          let number : new.number ≡ (current c).number = ap (λ (c : Cutter). c.number) after in
          let whole : at_hand ++ (piece ++ rest) ≡ (at_hand ++ first) ++ 10 ∷ (rest_of ++ rest) =
          ap (λ t. at_hand ++ (t ++ rest)) piece_is ∙ (ap (λ t. at_hand ++ t) (append_assoc first (10 ∷ rest_of) rest) ∙ sym (append_assoc at_hand first (10 ∷ (rest_of ++ rest)))) in
          let size : length piece ≡ length first + length (10 ∷ rest_of) = ap length piece_is ∙ length-append first (10 ∷ rest_of) in
          let text : line_text (current c).room (current c).number (record { bytes = at_hand ++ first; is_ended = true }) ≡ Ok (text_of (current c).number (at_hand ++ first)) = line-told (current c).room (current c).number (at_hand ++ first) h in
          rw dropped
          (record {
            bytes = whole ∙ ap (λ t. t ++ 10 ∷ (rest_of ++ rest)) (sym bytes);
            text = rw (number, bytes) text;
            room = ap (λ (c : Cutter). c.room) after;
            number = number;
            is_cut = last;
            no_feed = is.no_feed;
            later = omega (arith, size, length-append piece rest, length-append rest_of rest);
          })

  -- the whole piece was taken into the line
  pub feed-grows : (n : ℕ) → n ≡ feed_taken c piece → (rest : List ℕ) → new.last ≡ fed.More → feed_answer c piece ≡ fed.More → n ≡ length piece → GrowsLine c new (piece ++ rest) (drop n piece ++ rest)
  feed-grows n is_n rest last answer taken =
      let after = after-is fed.More answer in
      let same = current-more new last in
      let all : length (before_first is_feed piece) ≡ length piece = sym (is_n ∙ taken-is fed.More answer) ∙ taken in
      let long : length piece ≤ position_or_len is_feed piece = omega (arith, all, length-take (position_or_len is_feed piece) piece) in
      let piece_is : before_first is_feed piece ≡ piece = take_all (position_or_len is_feed piece) piece long in
      let bytes : (current new).bytes ≡ (current c).bytes ++ piece = ap (λ (c : Cutter). c.bytes) (same ∙ after) ∙ ap (λ t. (current c).bytes ++ t) piece_is in
      let dropped : drop n piece ≡ [] = drop_all n piece (omega (arith, taken)) in
      rw dropped
      (record {
        bytes = sym (append_assoc (current c).bytes piece rest) ∙ ap (λ t. t ++ rest) (sym bytes);
        room = ap (λ (c : Cutter). c.room) (same ∙ after);
        number = ap (λ (c : Cutter). c.number) (same ∙ after);
        no_feed = ap (λ (c : Cutter). list_any is_feed c.bytes) same ∙ is.no_feed;
        later = omega (arith, length-append piece rest);
      })

-- no piece ends the stream
fed_by-not_ended : {A : Type 0} (passed : Fed) (r : Result A TelemWhy) → passed ≢ fed.Ended → fed_by passed r ≡ fed.Ended → ⊥
fed_by-not_ended passed (Ok x) n h = n h
fed_by-not_ended passed (Err why.NoHeader) n h = cc
fed_by-not_ended passed (Err (why.NoColumn c)) n h = cc
fed_by-not_ended passed (Err (why.TwiceColumn c)) n h = cc
fed_by-not_ended passed (Err (why.Ragged want got)) n h = cc
fed_by-not_ended passed (Err (why.Field c e)) n h = cc
fed_by-not_ended passed (Err (why.NoInput i)) n h = cc
fed_by-not_ended passed (Err why.LongLine) n h = cc
fed_by-not_ended passed (Err why.StrayCr) n h = cc
fed_by-not_ended passed (Err why.TooLong) n h = cc
fed_by-not_ended passed (Err why.Memory) n h = cc

pub fed-not_ended : (c : Cutter) (piece : List ℕ) → is_refusal c.last ≡ false → feed_answer c piece ≡ fed.Ended → ⊥
fed-not_ended c piece going e = by (line_with (current c) piece).is_ended (sym going_is ∙ e)
  where
    going_is : feed_answer c piece ≡ judged (current c) (line_with (current c) piece)
    going_is = rw going refl

    by : (b : Bool) → (if b then fed_by fed.Line (line_text (current c).room (current c).number (line_with (current c) piece)) else fed_by fed.More (within (current c).room (line_with (current c) piece))) ≡ fed.Ended → ⊥
    by true h = fed_by-not_ended fed.Line _ (λ f. cc) h
    by false h = fed_by-not_ended fed.More _ (λ f. cc) h

-- an answer that is a refusal tells it
pub refusal-tells : (answer : Fed) (c : Cutter) (rest : List ℕ) → answer ≢ fed.More → answer ≢ fed.Line → answer ≢ fed.Ended
    → ((head : Columns) → rows_after head answer c rest ≡ refused_rows (refused_at c.number (cause_of answer))) × ((inputs outputs : List (List ℕ)) → telemetry_after inputs outputs answer c rest ≡ no_header (refused_at c.number (cause_of answer)))
refusal-tells fed.More c rest m l e = absurd (m refl)
refusal-tells fed.Line c rest m l e = absurd (l refl)
refusal-tells fed.Ended c rest m l e = absurd (e refl)
refusal-tells fed.Long c rest m l e = (λ head. refl, λ inputs outputs. refl)
refusal-tells fed.OverLimit c rest m l e = (λ head. refl, λ inputs outputs. refl)
refusal-tells fed.StrayCr c rest m l e = (λ head. refl, λ inputs outputs. refl)

pub both-told : (rest rest' : Option (List ℕ)) (P Q : List ℕ → List ℕ → Type 0) → ((r r' : List ℕ) → P r r' → Q r r') → BothTold rest rest' P → BothTold rest rest' Q
both-told None rest' P Q f h = tt
both-told (Some r) None P Q f h = absurd h
both-told (Some r) (Some r') P Q f h = f r r' h

pub told-then : (a b c : Option (List ℕ)) (P Q R : List ℕ → List ℕ → Type 0) → ((x y z : List ℕ) → P x y → Q y z → R x z) → BothTold a b P → BothTold b c Q → BothTold a c R
told-then None b c P Q R f h k = tt
told-then (Some x) None c P Q R f h k = absurd h
told-then (Some x) (Some y) None P Q R f h k = absurd k
told-then (Some x) (Some y) (Some z) P Q R f h k = f x y z h k

-- a refusal that is told later was owed before
module _ (a b c : Option (List ℕ)) (old mid : Cutter) (left left' : List ℕ) (fault : TelemFault) where
  pub rows-refused : (head : Columns) → BothTold a b (λ r r'. rows_owed head old (left ++ r) ≡ rows_owed head mid (left' ++ r')) → BothTold b c (λ r r'. TellsRefusal mid fault (left' ++ r))
      → BothTold a c (λ r r'. rows_owed head old (left ++ r) ≡ refused_rows fault)
  rows-refused head h k = told-then a b c (λ r r'. rows_owed head old (left ++ r) ≡ rows_owed head mid (left' ++ r')) (λ r r'. TellsRefusal mid fault (left' ++ r)) (λ r r'. rows_owed head old (left ++ r) ≡ refused_rows fault)
      (λ x y z p (q : TellsRefusal mid fault (left' ++ y)). p ∙ q.rows head) h k

  pub header-refused : (inputs outputs : List (List ℕ)) → BothTold a b (λ r r'. telemetry_owed inputs outputs old (left ++ r) ≡ telemetry_owed inputs outputs mid (left' ++ r')) → BothTold b c (λ r r'. TellsRefusal mid fault (left' ++ r))
      → BothTold a c (λ r r'. telemetry_owed inputs outputs old (left ++ r) ≡ no_header fault)
  header-refused inputs outputs h k = told-then a b c (λ r r'. telemetry_owed inputs outputs old (left ++ r) ≡ telemetry_owed inputs outputs mid (left' ++ r')) (λ r r'. TellsRefusal mid fault (left' ++ r)) (λ r r'. telemetry_owed inputs outputs old (left ++ r) ≡ no_header fault)
      (λ x y z p (q : TellsRefusal mid fault (left' ++ y)). p ∙ q.header inputs outputs) h k

-- a stream with something at hand has not ended
pub not-ended : (b : Bool) (xs : List ℕ) (P : Type 0) → (b ≡ true → (xs ≡ []) × P) → 0 < length xs → b ≡ false
not-ended true xs P h some = let none = ap length (h refl).0 in absurd (omega (arith, none, some))
not-ended false xs P h some = refl
