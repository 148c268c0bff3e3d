-- The lines that a run over the rows of a telemetry has put by the time that it ends early.
use Rattle.std.proofs.Common.{◌≡◌, ℕ, ◌+◌, ◌-◌, ◌<◌, ◌≤◌, Bool, true, false, List, [], ◌∷◌, ◌++◌, length, take, drop, Option, Some, None, IfSome, Result, Ok, Err, IfErr, OnErr, refl, sym, ap, ◌∙◌, subst, arith, append_assoc, append-nil, length-append, length-take, ◌⊎◌, inl, inr}
use Rattle.std.specs.Prelude.{slice_range}
use Rattle.outside_io.specs.Sink.{SinkState, Gains, GainsFront}
use Rattle.outside_io.proofs.Grows.{appends_more}
use Rattle.plant_model.specs.Plant.{Plant, Sample}
use Rattle.telem_csv.specs.Columns.{Columns}
use Rattle.telem_csv.specs.Cutter.{Cutter}
use Rattle.telem_csv.specs.Rows.{Rows}
use Rattle.model_file.specs.Bank.{Models}
use Rattle.model_bank.specs.Bank.{plants_in, names_in}
use Rattle.report_text.specs.Line.{Line, lines_text}
use Rattle.report_rules.specs.Lines.{head_lines}
use Rattle.report_rules.specs.Report.{Choice}
use Rattle.report_rules.proofs.Longer.{allowed-first, lines-first}
use Rattle.observer_step.specs.Answers.{as_run_chooses}
use Rattle.outside_io.specs.declared.sink.PutFault.{PutFault}
use Rattle.outside_io.specs.declared.sink.PutFault.TheVariants as put
use Rattle.input_files.specs.Ended.{without_last, rows_ended, EndsNoRow, TakesNoRow, TakesRow}
use Rattle.input_files.specs.Stream.{BothTold, with_sample}
use Rattle.input_files.specs.Whole.{most_piece}
use Rattle.input_files.specs.declared.stream.StreamFault.{StreamFault}
use Rattle.input_files.specs.declared.stream.StreamFault.TheVariants as stream
use Rattle.std.specs.Io.KnownBytes.{IsAtEnd}
use Rattle.input_files.proofs.Streams.{told-then}
use Rattle.input_files.proofs.Ended.{none-left}
use Rattle.monitor_run.specs.declared.done.Done.{Done}
use Rattle.monitor_run.specs.declared.done.RunFault.{RunFault}
use Rattle.monitor_run.specs.declared.done.RunFault.TheVariants.{Model, Telemetry, Read, Write, Memory}
use Rattle.monitor_run.specs.Outcome.{GainsLines}
use Rattle.monitor_run.specs.Rows.{IsChoice, chosen_lines, behind, ending_of, put_ending, IsPutEnding}
use Rattle.monitor_run.specs.InTime.{AreRowsBegun, IsReportBegun, GainsLinesAtLeast, ReadInTime, RowsInTime}
use Rattle.monitor_run.proofs.Turns.{lines-append}

-- ---- what the ended lines tell, as samples are taken

-- the samples taken are these and then more
abbrev pub IsFrontOf : List Sample → List Sample → Type 0
IsFrontOf first taken = (more : List Sample) × (taken ≡ first ++ more)

-- Whatever is cut off of the bytes to come, the ended lines tell the samples taken and what they tell from there on; cut off
-- further, they tell a front of the samples taken.
pub record InTime (head : Columns) (is_ended : Bool) (c0 c : Cutter) (unread0 unread : List ℕ) (taken : List Sample) : Type 0 where
  pub told : is_ended ≡ false → (k : ℕ) → k ≤ length unread → rows_ended head c0 (without_last k unread0) ≡ behind taken (rows_ended head c (without_last k unread))
  pub untold : (k : ℕ) → length unread < k → k ≤ length unread0 → IsFrontOf (rows_ended head c0 (without_last k unread0)).samples taken
  pub later : length unread ≤ length unread0
  pub ended : is_ended ≡ true → unread ≡ []

pub side : (k n : ℕ) → (k ≤ n) ⊎ (n < k)
side k n = grind arith

pub false-or-true : (b : Bool) → (b ≡ false) ⊎ (b ≡ true)
false-or-true true = inr refl
false-or-true false = inl refl

pub not-both : (b : Bool) (P : Type 0) → b ≡ true → b ≡ false → P
not-both b P t f = absurd (let clash : true ≡ false = sym t ∙ f in cc)

-- before the first row
in_time-yet : (head : Columns) (is_ended : Bool) (c : Cutter) (unread : List ℕ) → (is_ended ≡ true → unread ≡ []) → InTime head is_ended c c unread unread []
in_time-yet head is_ended c unread ended = record {
  told = λ _ k h. refl;
  untold = λ k past within. absurd (omega (arith, past, within));
  later = omega arith;
  ended = ended;
}

pub in_time-init : (head : Columns) (e : Bool) (c : Cutter) (left : List ℕ) (rest : Option (List ℕ)) → (e ≡ true → (left ≡ []) × IsAtEnd rest) → BothTold rest rest (λ r r'. InTime head e c c (left ++ r) (left ++ r') [])
in_time-init head e c left None h = tt
in_time-init head e c left (Some r) h = in_time-yet head e c (left ++ r) (none-left e left r h)

module _ {head : Columns} {e : Bool} {c0 c : Cutter} {unread0 unread : List ℕ} {taken : List Sample} (m : InTime head e c0 c unread0 unread taken) where
  -- where no row ends before the last byte taken, the ended lines before it tell a front of the samples taken
  pub before-next : (left : List ℕ) → EndsNoRow head c unread left → (k : ℕ) → length left < k → k ≤ length unread0 → IsFrontOf (rows_ended head c0 (without_last k unread0)).samples taken
  before-next left none k h within = by (side k (length unread)) (false-or-true e)
    where
      by : (k ≤ length unread) ⊎ (length unread < k) → (e ≡ false) ⊎ (e ≡ true) → IsFrontOf (rows_ended head c0 (without_last k unread0)).samples taken
      by (inr past) ended = m.untold k past within
      by (inl few) (inl going) =
          let all : (rows_ended head c0 (without_last k unread0)).samples ≡ taken ++ [] = ap (λ (rows : Rows). rows.samples) (m.told going k few ∙ ap (behind taken) (none k h)) in
          ([], sym (append-nil taken) ∙ sym all ∙ sym (append-nil (rows_ended head c0 (without_last k unread0)).samples))
      by (inl few) (inr ended) = let zero = ap length (m.ended ended) in absurd (omega (arith, zero, few, h))

  -- one more row was taken
  pub one-in_time : (s : Sample) {e' : Bool} {c' : Cutter} {left : List ℕ} → (e' ≡ false → e ≡ false) → TakesRow head s e' c c' unread left → InTime head e' c0 c' unread0 left (taken ++ s ∷ [])
  one-in_time s {e'} {c'} {left} stays row = record {
    told = λ f k h. m.told (stays f) k (omega (arith, h, row.later)) ∙ ap (behind taken) (row.row f k h) ∙ moved (rows_ended head c' (without_last k left));
    untold = λ k past within. longer (rows_ended head c0 (without_last k unread0)).samples (before-next left row.before k past within);
    later = omega (arith, row.later, m.later);
    ended = row.ended;
  }
    where
      moved : (rows : Rows) → behind taken (with_sample s rows) ≡ behind (taken ++ s ∷ []) rows
      moved rows = ap (λ ss. let both : Rows = record { samples = ss; refusal = rows.refusal } in both) (sym (append_assoc taken (s ∷ []) rows.samples))

      longer : (first : List Sample) → IsFrontOf first taken → IsFrontOf first (taken ++ s ∷ [])
      longer first (more, is) = (more ++ s ∷ [], ap (λ ss. ss ++ s ∷ []) is ∙ append_assoc first more (s ∷ []))

  -- reading failed: the ended lines of what was read tell the samples taken
  pub read-samples : {left : List ℕ} → e ≡ false → TakesNoRow head c unread left → (rows_ended head c0 (without_last (length left) unread0)).samples ≡ taken
  read-samples {left} going none = ap (λ (rows : Rows). rows.samples) (m.told going (length left) none.later ∙ ap (behind taken) none.none) ∙ append-nil taken

-- ---- the lines that were put

-- the lines of the samples taken, and a front of more, are at least lines of a front of the samples
at-least : (ps : List Plant) (rows : Rows) (taken : List Sample) (c : Choice) (held0 held held' : SinkState) (next : List ℕ) → IsFrontOf rows.samples taken → IsChoice ps taken c
    → Gains (lines_text (chosen_lines ps taken c)) held0 held → GainsFront next held held' → GainsLinesAtLeast (AreRowsBegun ps rows) held0 held'
at-least ps rows taken c held0 held held' next (more, is) chosen put (n, within, then) =
    let first = rows.samples in
    let rest = lines-first ps first more c in
    let begun = lines_text (chosen_lines ps first c) in
    let all : lines_text (chosen_lines ps taken c) ≡ begun ++ lines_text rest.0 = ap (λ ss. lines_text (chosen_lines ps ss c)) is ∙ ap lines_text rest.1 ∙ lines-append (chosen_lines ps first c) rest.0 in (
      chosen_lines ps first c,
      (c, allowed-first as_run_chooses ps first more c (subst (λ ss. IsChoice ps ss c) is chosen), refl),
      (
        lines_text rest.0 ++ take n next,
        appends_more held0.held held.held held'.held (lines_text (chosen_lines ps taken c)) (take n next) (begun ++ (lines_text rest.0 ++ take n next)) put then
            (sym (append_assoc begun (lines_text rest.0) (take n next)) ∙ ap (λ t. t ++ take n next) (sym all)),
      ),
    )

-- a piece is at most so long
pub piece-short : (piece : List ℕ) (at end : ℕ) → end ≤ 4096 → length (slice_range piece at end) ≤ 4096
piece-short piece at end h = omega (arith, h, length-take (end - at) (drop at piece))

-- claims on what a slot has told before and after, where it may tell nothing then
pub both-some : (a b : Option (List ℕ)) (P Q : List ℕ → List ℕ → Type 0) → ((r r' : List ℕ) → P r r' → Q r r') → BothTold a b P → IfSome a (λ r. IfSome b (λ r'. Q r r'))
both-some None b P Q f h = tt
both-some (Some r) None P Q f h = tt
both-some (Some r) (Some r') P Q f h = f r r' h

pub some-both : (a b : Option (List ℕ)) (P : List ℕ → List ℕ → Type 0) → ((r r' : List ℕ) → P r r') → IfSome a (λ r. IfSome b (λ r'. P r r'))
some-both None b P f = tt
some-both (Some r) None P f = tt
some-both (Some r) (Some r') P f = f r r'

pub some-same : (a : Option (List ℕ)) (P : List ℕ → List ℕ → Type 0) → ((r : List ℕ) → P r r) → IfSome a (λ r. IfSome a (λ r'. P r r'))
some-same None P f = tt
some-same (Some r) P f = f r

-- ---- endings of a run over the rows

module _ (head : Columns) (c0 : Cutter) (left0 : List ℕ) (rest0 : Option (List ℕ)) (e0 : Bool) (held0 : SinkState) where
  -- lines of the rows without the last k bytes
  abbrev pub begun : List Plant → List ℕ → ℕ → List Line → Type 0
  begun ps r k = AreRowsBegun ps (rows_ended head c0 (without_last k (left0 ++ r)))

  abbrev pub RowsEnd : List Plant → Option (List ℕ) → Result Done RunFault → SinkState → Type 0
  RowsEnd ps rest' result held' = IfSome rest0 (λ r. IfSome rest' (λ r'. RowsInTime (begun ps r) e0 (length (left0 ++ r)) (length r') held0 result held'))

  module _ (e : Bool) (c : Cutter) (left : List ℕ) (rest : Option (List ℕ)) (held : SinkState) (taken : List Sample)
      (m : BothTold rest0 rest (λ r r'. InTime head e c0 c (left0 ++ r) (left ++ r') taken))
      (ps : List Plant) (choice : Choice) (chosen : IsChoice ps taken choice) (puts : Gains (lines_text (chosen_lines ps taken choice)) held0 held) where
    -- a put failed where no row had ended before the last byte taken
    pub put-in_time : (f : PutFault) (r : RunFault) → r ≡ put_ending f → (left' : List ℕ) (rest' : Option (List ℕ)) (held' : SinkState) (next : List ℕ) → length left' ≤ 4096 → GainsFront next held held'
        → BothTold rest rest' (λ r r'. EndsNoRow head c (left ++ r) (left' ++ r')) → RowsEnd ps rest' (Err r) held'
    put-in_time f r is left' rest' held' next short front none = subst (λ r. RowsEnd ps rest' (Err r) held') (sym is) (by f)
      where
        by : (f : PutFault) → RowsEnd ps rest' (Err (put_ending f)) held'
        by put.Failed = both-some rest0 rest' (λ x z. (k : ℕ) → length (left' ++ z) < k → k ≤ length (left0 ++ x) → IsFrontOf (rows_ended head c0 (without_last k (left0 ++ x))).samples taken)
            (λ x z. length z + most_piece + 1 ≤ length (left0 ++ x) → GainsLinesAtLeast (begun ps x (length z + most_piece + 1)) held0 held')
            (λ x z front-of within. at-least ps (rows_ended head c0 (without_last (length z + most_piece + 1) (left0 ++ x))) taken choice held0 held held' next (front-of (length z + most_piece + 1) (omega (arith, length-append left' z, short)) within) chosen puts front)
            (told-then rest0 rest rest' (λ x y. InTime head e c0 c (left0 ++ x) (left ++ y) taken) (λ y z. EndsNoRow head c (left ++ y) (left' ++ z))
            (λ x z. (k : ℕ) → length (left' ++ z) < k → k ≤ length (left0 ++ x) → IsFrontOf (rows_ended head c0 (without_last k (left0 ++ x))).samples taken)
            (λ x y z time none. before-next time (left' ++ z) none) m none)
        by put.Memory = some-both rest0 rest' _ (λ x z. tt)

    -- reading failed, or a row was refused
    pub stream-in_time : (f : StreamFault) (r : RunFault) → r ≡ ending_of f → (left' : List ℕ) (rest' : Option (List ℕ)) → (e ≡ false → e0 ≡ false)
        → (f ≡ stream.Read → e ≡ false) → (f ≡ stream.Read → left' ≡ []) → (f ≡ stream.Read → BothTold rest rest' (λ r r'. TakesNoRow head c (left ++ r) (left' ++ r'))) → RowsEnd ps rest' (Err r) held
    stream-in_time f r is left' rest' stays unended used none = subst (λ r. RowsEnd ps rest' (Err r) held) (sym is) (by f refl)
      where
        lines-read : (rows : Rows) → rows.samples ≡ taken → GainsLines (AreRowsBegun ps rows) held0 held
        lines-read rows is = (
          chosen_lines ps rows.samples choice,
          (choice, subst (λ ss. IsChoice ps ss choice) (sym is) chosen, refl),
          subst (λ ss. Gains (lines_text (chosen_lines ps ss choice)) held0 held) (sym is) puts,
        )

        read : (x y z : List ℕ) → e ≡ false → left' ≡ [] → InTime head e c0 c (left0 ++ x) (left ++ y) taken → TakesNoRow head c (left ++ y) (left' ++ z) → ReadInTime (begun ps x) e0 (length (left0 ++ x)) (length z) held0 held
        read x y z going none time row =
            let size : length (left' ++ z) ≡ length z = ap (λ l. length (l ++ z)) none in
            record {
              unended = stays going;
              later = omega (arith, size, row.later, time.later);
              lines = subst (λ n. GainsLines (begun ps x n) held0 held) size (lines-read (rows_ended head c0 (without_last (length (left' ++ z)) (left0 ++ x))) (read-samples time going row));
            }

        by : (g : StreamFault) → f ≡ g → RowsEnd ps rest' (Err (ending_of g)) held
        by (stream.Refused fault) is = some-both rest0 rest' _ (λ x z. tt)
        by stream.Read is = both-some rest0 rest' (λ x z. ReadInTime (begun ps x) e0 (length (left0 ++ x)) (length z) held0 held) (λ x z. ReadInTime (begun ps x) e0 (length (left0 ++ x)) (length z) held0 held) (λ x z h. h)
            (told-then rest0 rest rest' (λ x y. InTime head e c0 c (left0 ++ x) (left ++ y) taken) (λ y z. TakesNoRow head c (left ++ y) (left' ++ z)) (λ x z. ReadInTime (begun ps x) e0 (length (left0 ++ x)) (length z) held0 held)
            (λ x y z time row. read x y z (unended is) (used is) time row) m (none is))
        by stream.Memory is = some-both rest0 rest' _ (λ x z. tt)

    -- the last line was put, or a front of it
    pub last-in_time : (result : Result Done RunFault) (left' : List ℕ) (rest' : Option (List ℕ)) (held' : SinkState) (next : List ℕ) → length left' ≤ 4096 → IfErr result IsPutEnding → OnErr result (GainsFront next held held')
        → BothTold rest rest' (λ r r'. EndsNoRow head c (left ++ r) (left' ++ r')) → RowsEnd ps rest' result held'
    last-in_time (Ok done) left' rest' held' next short ending front none = some-both rest0 rest' _ (λ x z. tt)
    last-in_time (Err (Model fault)) left' rest' held' next short ending front none = absurd ending
    last-in_time (Err (Telemetry fault)) left' rest' held' next short ending front none = absurd ending
    last-in_time (Err (Read slot)) left' rest' held' next short ending front none = absurd ending
    last-in_time (Err Write) left' rest' held' next short ending front none = put-in_time put.Failed Write refl left' rest' held' next short front none
    last-in_time (Err Memory) left' rest' held' next short ending front none = some-both rest0 rest' _ (λ x z. tt)

-- ---- the head in front of the rows

module _ (ms : Models) (held0 held held' : SinkState) (put : Gains (lines_text (head_lines (names_in ms))) held0 held) (rows : ℕ → Rows) (e : Bool) (unread left : ℕ) where
  abbrev head_text : List ℕ
  head_text = lines_text (head_lines (names_in ms))

  abbrev behind_text : Rows → Choice → List ℕ
  behind_text rows c = lines_text (chosen_lines (plants_in ms) rows.samples c)

  head-and : (rows : Rows) (c : Choice) → lines_text (head_lines (names_in ms) ++ chosen_lines (plants_in ms) rows.samples c) ≡ head_text ++ behind_text rows c
  head-and rows c = lines-append (head_lines (names_in ms)) (chosen_lines (plants_in ms) rows.samples c)

  begun-all : (rows : Rows) → GainsLines (AreRowsBegun (plants_in ms) rows) held held' → GainsLines (IsReportBegun ms rows) held0 held'
  begun-all rows (lines, (c, chosen, is), gained) = (
    head_lines (names_in ms) ++ chosen_lines (plants_in ms) rows.samples c,
    (c, chosen, refl),
    appends_more held0.held held.held held'.held _ _ _ put (subst (λ ls. Gains (lines_text ls) held held') is gained) (head-and rows c),
  )

  begun-more : (rows : Rows) → GainsLinesAtLeast (AreRowsBegun (plants_in ms) rows) held held' → GainsLinesAtLeast (IsReportBegun ms rows) held0 held'
  begun-more rows (lines, (c, chosen, is), (more, gained)) = (
    head_lines (names_in ms) ++ chosen_lines (plants_in ms) rows.samples c,
    (c, chosen, refl),
    (
      more,
      appends_more held0.held held.held held'.held head_text (behind_text rows c ++ more) (lines_text (head_lines (names_in ms) ++ chosen_lines (plants_in ms) rows.samples c) ++ more) put
          (subst (λ ls. Gains (lines_text ls ++ more) held held') is gained)
          (ap (λ t. t ++ more) (head-and rows c) ∙ append_assoc head_text (behind_text rows c) more),
    ),
  )

  pub behind-head-in_time : (r : Result Done RunFault) → RowsInTime (λ k. AreRowsBegun (plants_in ms) (rows k)) e unread left held r held' → RowsInTime (λ k. IsReportBegun ms (rows k)) e unread left held0 r held'
  behind-head-in_time (Ok done) h = tt
  behind-head-in_time (Err (Model fault)) h = tt
  behind-head-in_time (Err (Telemetry fault)) h = tt
  behind-head-in_time (Err (Read slot)) h = record { unended = h.unended; later = h.later; lines = begun-all (rows left) h.lines }
  behind-head-in_time (Err Write) h = λ within. begun-more (rows (left + most_piece + 1)) (h within)
  behind-head-in_time (Err Memory) h = tt

-- the head was put in part, and the piece that holds the header's line is at hand
pub head-in_time : (f : PutFault) (r : RunFault) → r ≡ put_ending f → (lines : List ℕ → ℕ → List Line → Type 0) (e : Bool) (left : List ℕ) (rest : Option (List ℕ)) (held held' : SinkState) → length left ≤ 4096
    → IfSome rest (λ q. IfSome rest (λ q'. RowsInTime (lines (left ++ q)) e (length (left ++ q)) (length q') held (Err r) held'))
head-in_time f r is lines e left rest held held' short = subst (λ r. IfSome rest (λ q. IfSome rest (λ q'. RowsInTime (lines (left ++ q)) e (length (left ++ q)) (length q') held (Err r) held'))) (sym is) (by f)
  where
    by : (f : PutFault) → IfSome rest (λ q. IfSome rest (λ q'. RowsInTime (lines (left ++ q)) e (length (left ++ q)) (length q') held (Err (put_ending f)) held'))
    by put.Failed = some-same rest _ (λ q within. absurd (omega (arith, length-append left q, short, within)))
    by put.Memory = some-both rest rest _ (λ q q'. tt)
