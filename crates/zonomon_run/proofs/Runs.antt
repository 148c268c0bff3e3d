-- What a run answers, from how it ended.
use Rattle.std.proofs.Common.{◌≡◌, ◌≢◌, ◌⊎◌, ◌+◌, ◌==◌, if◌then◌else◌, inl, inr, List, ℕ, Bool, true, false, Option, Some, None, IfSome, IsSome, Result, Ok, Err, refl, sym, ap, subst, length, arith}
use Rattle.std.specs.Prelude.{is_some}
use Rattle.outside_io.specs.Causes.{Rose}
use Rattle.outside_io.specs.Shelf.{ShelfState}
use Rattle.outside_io.specs.Sink.{SinkState, AppendsFront}
use Rattle.outside_io.proofs.Fronts.{no-front, all-front}
use Rattle.model_file.specs.Bank.{Models}
use Rattle.model_file.specs.ModelFile.{models_of}
use Rattle.model_file.specs.declared.fault.ModelFault.{ModelFault}
use Rattle.observer_step.specs.Answers.{any_justified}
use Rattle.observer_step.specs.SetsAnswers.{sets_observer}
use Rattle.telem_csv.specs.declared.fault.TelemFault.{TelemFault}
use Rattle.report_text.specs.Line.{Line, lines_text}
use Rattle.report_rules.proofs.Hulls.{hulls-sound, exclusions-sound, estimate-sound}
use Rattle.report_rules.proofs.Misses.{misses-told}
use Rattle.report_rules.proofs.Chosen.{run-accepted, estimate-refutes}
use Rattle.report_rules.specs.Report.{IsReport}
use Rattle.monitor_run.specs.declared.done.Done.{Done}
use Rattle.monitor_run.specs.declared.done.RunFault.{RunFault}
use Rattle.monitor_run.specs.declared.done.RunFault.TheVariants as run
use Rattle.input_files.specs.Files.{Files, bad_model, bad_header, monitored, files_of, with_models, refused, model_refusal, telemetry_refusal, RunsThrough}
use Rattle.input_files.specs.Told.{OnBytes, OnFile, OnFiles, OnLeft, AreRead}
use Rattle.input_files.specs.Whole.{TakesAtMost, most_model, most_piece}
use Rattle.telem_csv.specs.Rows.{Rows}
use Rattle.monitor_run.specs.InTime.{PutsInTime, IsBegun}
use Rattle.monitor_run.specs.Reports.{IsReportOf, IsReportOfRows, watch_of}
use Rattle.monitor_run.specs.Outcome.{SaysOfModel, SaysOfFiles, PutsReport, GainsLinesFront, PutsNothing, AsksModelFirst, AsksInOrder, ReadsFailed}
use Rattle.monitor_run.proofs.Begun.{not-asked}
use Rattle.monitor_run.proofs.Opened.{some-lines}
use Rattle.zonomon_run.specs.Words.{asked_by, monitor}
use Rattle.zonomon_run.specs.Ending.{status_of, text_of, Tells}
use Rattle.zonomon_run.specs.declared.ending.Ending.TheVariants.{ReadModel, ReadTelemetry}
use Rattle.zonomon_run.specs.Endings.{ending_of}
use Rattle.zonomon_run.specs.Runs.{Outside, OnRun, OnNamed, IsAccepted, IsRunStatus, NoneRose, ModelUnread, TelemetryUnread, Monitors, GainsAllRead, GainsReport, GainsReportFront, TrueHulls, TrueExclusions, TrueMisses}

pub on-bytes : (model telemetry : Option (List ℕ)) (P : List ℕ → List ℕ → Type 0) → ((m t : List ℕ) → P m t) → OnBytes model telemetry P
on-bytes None telemetry P f = tt
on-bytes (Some m) None P f = tt
on-bytes (Some m) (Some t) P f = f m t

-- what is said of the model file, and what of both
both-say : (model telemetry : Option (List ℕ)) (A : List ℕ → Type 0) (B C : List ℕ → List ℕ → Type 0) → ((m t : List ℕ) → A m → B m t → C m t) → IfSome model A → OnBytes model telemetry B → OnBytes model telemetry C
both-say None telemetry A B C f a b = tt
both-say (Some m) None A B C f a b = tt
both-say (Some m) (Some t) A B C f a b = f m t a b

-- a claim on both files and on how many bytes are left, from another
if-left : (model telemetry rest : Option (List ℕ)) (P Q : List ℕ → List ℕ → ℕ → Type 0) → ((m t : List ℕ) (left : ℕ) → P m t left → Q m t left)
    → OnBytes model telemetry (λ m t. IfSome rest (λ r. P m t (length r))) → OnBytes model telemetry (λ m t. IfSome rest (λ r. Q m t (length r)))
if-left None telemetry rest P Q f h = tt
if-left (Some m) None rest P Q f h = tt
if-left (Some m) (Some t) None P Q f h = tt
if-left (Some m) (Some t) (Some r) P Q f h = f m t (length r) h

-- a claim on what the words name
pub on-run : (words : List (List ℕ)) (P : List ℕ → List ℕ → Type 0) (m t : List ℕ) → monitor m t ≡ asked_by words → P m t → OnRun words P
on-run words P m t is claim model telemetry e =
    let same : m ≡ model = cc in
    let same' : t ≡ telemetry = cc in
    subst (λ x. P x telemetry) same (subst (λ x. P m x) same' claim)

-- a claim that holds of all files
pub on-files : (words : List (List ℕ)) (shelf : ShelfState) (P : Files → Type 0) → ((f : Files) → P f) → OnNamed words shelf P
on-files words shelf P f model telemetry e = on-bytes (shelf.file model) (shelf.file telemetry) _ (λ m t. f (files_of m t))

-- ---- files that are refused

pub refused-model : (m t : List ℕ) (fault : ModelFault) → model_refusal m ≡ Some fault → files_of m t ≡ bad_model fault
unfolding files_of model_refusal
refused-model m t fault e = of (models_of m) e
  where
    of : (r : Result Models ModelFault) → refused r ≡ Some fault → with_models r t ≡ bad_model fault
    of (Ok ms) e = absurd cc
    of (Err x) e = let same : x ≡ fault = cc in ap bad_model same

pub accepted-not-refused : (f : Files) (fault : TelemFault) → telemetry_refusal f ≡ Some fault → IsAccepted f → ⊥
accepted-not-refused (bad_model x) fault e h = h
accepted-not-refused (bad_header x) fault e h = h
accepted-not-refused (monitored ms rows) fault e h = cc

-- ---- how a run ended

puts-front : (r : Result Done RunFault) (before after : SinkState) (are : List Line → Type 0) → (lines : List Line) × are lines → PutsReport are before r after → GainsLinesFront are before after
puts-front (Ok done) before after are some (lines, is, h) = (lines, is, all-front before.held after.held (lines_text lines) h)
puts-front (Err (run.Model fault)) before after are (lines, is) h = (lines, is, subst (λ x. AppendsFront before.held x (lines_text lines)) (sym h) (no-front before.held (lines_text lines)))
puts-front (Err (run.Telemetry fault)) before after are some (lines, is, h) = (lines, is, all-front before.held after.held (lines_text lines) h)
puts-front (Err (run.Read slot)) before after are some h = h
puts-front (Err run.Write) before after are some h = h
puts-front (Err run.Memory) before after are some h = h

pub all-front-of : (model telemetry : Option (List ℕ)) (before after : SinkState) (r : Result Done RunFault) → OnBytes model telemetry (λ m t. PutsReport (IsReportOf (files_of m t)) before r after)
    → OnBytes model telemetry (λ m t. GainsReportFront before after (files_of m t))
all-front-of None telemetry before after r h = tt
all-front-of (Some m) None before after r h = tt
all-front-of (Some m) (Some t) before after r h = puts-front r before after (IsReportOf (files_of m t)) (some-lines (files_of m t)) h

-- the slot that could not be read
pub unread : (slot : ℕ) (model telemetry : List ℕ) (before after : Outside) → ReadsFailed model telemetry before.shelf after.shelf slot → Tells (text_of (ending_of (run.Read slot))) before.err after.err
    → PutsNothing before.out (Err (run.Read slot)) after.out → AsksModelFirst (Err (run.Read slot)) (after.shelf.slot 1).asked → ModelUnread model before after ⊎ TelemetryUnread telemetry before after
unread slot model telemetry before after (inl h) told nothing first = inl (record {
  failed = h.1;
  told = subst (λ slot. Tells (text_of (ending_of (run.Read slot))) before.err after.err) h.0 told;
  nothing = nothing h.0;
  asked_first = first h.0;
})
unread slot model telemetry before after (inr h) told nothing first = inr (record {
  failed = h.1;
  told = subst (λ slot. Tells (text_of (ending_of (run.Read slot))) before.err after.err) h.0 told;
})

-- where the telemetry was asked for, its slot is the one that could not be read
is-telemetry : (slot : ℕ) (model telemetry : List ℕ) (before after : ShelfState) → ReadsFailed model telemetry before after slot → AsksModelFirst (Err (run.Read slot)) (after.slot 1).asked
    → is_some (after.slot 1).asked ≡ true → slot ≡ 1
is-telemetry slot model telemetry before after (inl h) first some = absurd (not-asked (after.slot 1).asked (first h.0) some)
is-telemetry slot model telemetry before after (inr h) first some = h.0

module _ (fault : RunFault) (model telemetry : List ℕ) (before after : Outside)
    (says_model : OnFile before.shelf model (SaysOfModel (Err fault))) (says_files : OnFiles before.shelf model telemetry (SaysOfFiles (Err fault)))
    (reads : (slot : ℕ) → fault ≡ run.Read slot → ReadsFailed model telemetry before.shelf after.shelf slot) (writes : fault ≡ run.Write → Rose before.out.faults after.out.faults) where
  no-read : (slot : ℕ) → ReadsFailed model telemetry before.shelf after.shelf slot → NoneRose before after → ⊥
  no-read slot (inl h) none = none.model h.1.rose
  no-read slot (inr h) none = none.telemetry h.1.rose

  -- files that are accepted end it only for want of memory
  pub complete : OnFiles before.shelf model telemetry (λ f. IsAccepted f → NoneRose before after → (status_of (ending_of fault) ≡ 0) ⊎ (status_of (ending_of fault) ≡ 6))
  complete = both-say (before.shelf.file model) (before.shelf.file telemetry) _ _ _ (by fault refl) says_model says_files
    where
      by : (g : RunFault) → fault ≡ g → (m t : List ℕ) → SaysOfModel (Err fault) m → SaysOfFiles (Err fault) (files_of m t) → IsAccepted (files_of m t) → NoneRose before after → (status_of (ending_of fault) ≡ 0) ⊎ (status_of (ending_of fault) ≡ 6)
      by (run.Model x) e m t a b accepted none =
          let bad = refused-model m t x (subst (λ g. SaysOfModel (Err g) m) e a) in
          absurd (subst IsAccepted bad accepted)
      by (run.Telemetry x) e m t a b accepted none = absurd (accepted-not-refused (files_of m t) x (subst (λ g. SaysOfFiles (Err g) (files_of m t)) e b) accepted)
      by (run.Read slot) e m t a b accepted none = absurd (no-read slot (reads slot e) none)
      by run.Write e m t a b accepted none = absurd (none.output (writes e))
      by run.Memory e m t a b accepted none = inr (ap (λ g. status_of (ending_of g)) e)

  -- a telemetry that is refused ends it so, or for want of memory
  pub refuses : OnFiles before.shelf model telemetry (λ f. IsSome (telemetry_refusal f) → NoneRose before after → (status_of (ending_of fault) ≡ 3) ⊎ (status_of (ending_of fault) ≡ 6))
  refuses = both-say (before.shelf.file model) (before.shelf.file telemetry) _ _ _ (by fault refl) says_model says_files
    where
      not-some : (o : Option TelemFault) → o ≡ None → IsSome o → ⊥
      not-some None e s = cc
      not-some (Some x) e s = cc

      by : (g : RunFault) → fault ≡ g → (m t : List ℕ) → SaysOfModel (Err fault) m → SaysOfFiles (Err fault) (files_of m t) → IsSome (telemetry_refusal (files_of m t)) → NoneRose before after → (status_of (ending_of fault) ≡ 3) ⊎ (status_of (ending_of fault) ≡ 6)
      by (run.Model x) e m t a b refused none =
          let bad = refused-model m t x (subst (λ g. SaysOfModel (Err g) m) e a) in
          absurd (not-some (telemetry_refusal (files_of m t)) (ap telemetry_refusal bad) refused)
      by (run.Telemetry x) e m t a b refused none = inl (ap (λ g. status_of (ending_of g)) e)
      by (run.Read slot) e m t a b refused none = absurd (no-read slot (reads slot e) none)
      by run.Write e m t a b refused none = absurd (none.output (writes e))
      by run.Memory e m t a b refused none = inr (ap (λ g. status_of (ending_of g)) e)

-- ---- the status of an ending

abbrev status : RunFault → ℕ
status fault = status_of (ending_of fault)

read-status : (b : Bool) → status_of (if b then ReadModel else ReadTelemetry) ≡ 4
read-status true = refl
read-status false = refl

run-status : (fault : RunFault) → IsRunStatus (status fault)
run-status (run.Model x) = inr (inl refl)
run-status (run.Telemetry x) = inr (inr (inl refl))
run-status (run.Read slot) = inr (inr (inr (inl (read-status (slot == 0)))))
run-status run.Write = inr (inr (inr (inr (inl refl))))
run-status run.Memory = inr (inr (inr (inr (inr refl))))

not-zero : (fault : RunFault) → status fault ≡ 0 → ⊥
not-zero (run.Model x) e = omega arith
not-zero (run.Telemetry x) e = omega arith
not-zero (run.Read slot) e = let four = read-status (slot == 0) in omega arith
not-zero run.Write e = omega arith
not-zero run.Memory e = omega arith

of-two : (fault : RunFault) → status fault ≡ 2 → (x : ModelFault) × (fault ≡ run.Model x)
of-two (run.Model x) e = (x, refl)
of-two (run.Telemetry x) e = absurd (omega arith)
of-two (run.Read slot) e = let four = read-status (slot == 0) in absurd (omega arith)
of-two run.Write e = absurd (omega arith)
of-two run.Memory e = absurd (omega arith)

of-three : (fault : RunFault) → status fault ≡ 3 → (x : TelemFault) × (fault ≡ run.Telemetry x)
of-three (run.Model x) e = absurd (omega arith)
of-three (run.Telemetry x) e = (x, refl)
of-three (run.Read slot) e = let four = read-status (slot == 0) in absurd (omega arith)
of-three run.Write e = absurd (omega arith)
of-three run.Memory e = absurd (omega arith)

of-four : (fault : RunFault) → status fault ≡ 4 → (slot : ℕ) × (fault ≡ run.Read slot)
of-four (run.Model x) e = absurd (omega arith)
of-four (run.Telemetry x) e = absurd (omega arith)
of-four (run.Read slot) e = (slot, refl)
of-four run.Write e = absurd (omega arith)
of-four run.Memory e = absurd (omega arith)

of-five : (fault : RunFault) → status fault ≡ 5 → fault ≡ run.Write
of-five (run.Model x) e = absurd (omega arith)
of-five (run.Telemetry x) e = absurd (omega arith)
of-five (run.Read slot) e = let four = read-status (slot == 0) in absurd (omega arith)
of-five run.Write e = refl
of-five run.Memory e = absurd (omega arith)

pub not-refused : (o : Option ModelFault) → o ≡ None → IsSome o → ⊥
not-refused None e s = cc
not-refused (Some x) e s = cc

pub if-some : (o : Option (List ℕ)) (P Q : List ℕ → Type 0) → ((m : List ℕ) → P m → Q m) → IfSome o P → IfSome o Q
if-some None P Q f h = tt
if-some (Some m) P Q f h = f m h

module _ (model telemetry : List ℕ) (before after : Outside) where
  -- a run that ended early
  module _ (fault : RunFault) (says_model : OnFile before.shelf model (SaysOfModel (Err fault))) (says_files : OnFiles before.shelf model telemetry (SaysOfFiles (Err fault)))
      (puts : OnFiles before.shelf model telemetry (λ f. PutsReport (IsReportOf f) before.out (Err fault) after.out)) (nothing : PutsNothing before.out (Err fault) after.out)
      (reads : (slot : ℕ) → fault ≡ run.Read slot → ReadsFailed model telemetry before.shelf after.shelf slot) (writes : fault ≡ run.Write → Rose before.out.faults after.out.faults)
      (asks : AsksInOrder model telemetry (Err fault) after.shelf) (told : Tells (text_of (ending_of fault)) before.err after.err)
      (in_time : OnLeft before.shelf after.shelf model telemetry (λ m t left. PutsInTime (IsBegun m t) left before.out (Err fault) after.out))
      (taken : TakesAtMost (most_model + most_piece) (before.shelf.file model) (after.shelf.slot 0)) (was_asked : (after.shelf.slot 1).attached ≡ true → is_some (after.shelf.slot 1).asked ≡ true) where
    refuses-model : OnFile before.shelf model (λ m. IsSome (model_refusal m) → ¬ Rose (before.shelf.slot 0).faults (after.shelf.slot 0).faults → (status fault ≡ 2) ⊎ (status fault ≡ 6))
    refuses-model = if-some (before.shelf.file model) _ _ (by fault refl) says_model
      where
        unread-other : (slot : ℕ) (m : List ℕ) → ReadsFailed model telemetry before.shelf after.shelf slot → (slot ≢ 0 → model_refusal m ≡ None) → IsSome (model_refusal m)
            → ¬ Rose (before.shelf.slot 0).faults (after.shelf.slot 0).faults → ⊥
        unread-other slot m (inl h) says refused none = none h.1.rose
        unread-other slot m (inr h) says refused none = not-refused (model_refusal m) (says (λ zero. let one = h.0 in omega arith)) refused

        by : (g : RunFault) → fault ≡ g → (m : List ℕ) → SaysOfModel (Err fault) m → IsSome (model_refusal m) → ¬ Rose (before.shelf.slot 0).faults (after.shelf.slot 0).faults → (status fault ≡ 2) ⊎ (status fault ≡ 6)
        by (run.Model x) e m says refused none = inl (ap status e)
        by (run.Telemetry x) e m says refused none = absurd (not-refused (model_refusal m) (subst (λ g. SaysOfModel (Err g) m) e says) refused)
        by (run.Read slot) e m says refused none = absurd (unread-other slot m (reads slot e) (subst (λ g. SaysOfModel (Err g) m) e says) refused none)
        by run.Write e m says refused none = absurd (not-refused (model_refusal m) (subst (λ g. SaysOfModel (Err g) m) e says) refused)
        by run.Memory e m says refused none = inr (ap status e)

    pub ended : Monitors model telemetry before (status fault) after
    ended = record {
      status = run-status fault;
      model_refused = λ e. let x = of-two fault e in
          (x.0, subst (λ g. OnFile before.shelf model (SaysOfModel (Err g))) x.1 says_model, subst (λ g. Tells (text_of (ending_of g)) before.err after.err) x.1 told);
      model_refuses = refuses-model;
      telemetry_refused = λ e. let x = of-three fault e in
          (x.0, subst (λ g. OnFiles before.shelf model telemetry (SaysOfFiles (Err g))) x.1 says_files, subst (λ g. Tells (text_of (ending_of g)) before.err after.err) x.1 told);
      telemetry_refuses = refuses fault model telemetry before after says_model says_files reads writes;
      read = λ e. let x = of-four fault e in
          unread x.0 model telemetry before after (reads x.0 x.1) (subst (λ g. Tells (text_of (ending_of g)) before.err after.err) x.1 told)
          (subst (λ g. PutsNothing before.out (Err g) after.out) x.1 nothing) (subst (λ g. AsksModelFirst (Err g) (after.shelf.slot 1).asked) x.1 asks.first);
      write = λ e. writes (of-five fault e);
      complete = complete fault model telemetry before after says_model says_files reads writes;
      at_end = λ e. absurd (not-zero fault e);
      asked_model = asks.asked_model;
      asked_telemetry = asks.asked_telemetry;
      asked_first = λ e. let x = of-two fault e in subst (λ g. AsksModelFirst (Err g) (after.shelf.slot 1).asked) x.1 asks.first;
      asked_no_third = asks.no_third;
      accepted = λ e. absurd (not-zero fault e);
      report = reported;
      front = all-front-of (before.shelf.file model) (before.shelf.file telemetry) before.out after.out (Err fault) puts;
      in_time_read = λ e attached. let x = of-four fault e in all-read x.0 x.1 (was_asked attached) (in_time attached);
      in_time_write = λ e. subst (λ g. OnLeft before.shelf after.shelf model telemetry (λ m t left. PutsInTime (IsBegun m t) left before.out (Err g) after.out)) (of-five fault e) in_time;
      model_taken = taken;
      nothing = λ e. let x = of-two fault e in subst (λ g. PutsNothing before.out (Err g) after.out) x.1 nothing;
    }
      where
        all-read : (slot : ℕ) → fault ≡ run.Read slot → is_some (after.shelf.slot 1).asked ≡ true
            → OnBytes (before.shelf.file model) (before.shelf.file telemetry) (λ m t. IfSome (after.shelf.slot 1).rest (λ r. PutsInTime (IsBegun m t) (length r) before.out (Err fault) after.out))
            → OnBytes (before.shelf.file model) (before.shelf.file telemetry) (λ m t. IfSome (after.shelf.slot 1).rest (λ r. GainsAllRead before.out after.out m t (length r)))
        all-read slot is some = if-left (before.shelf.file model) (before.shelf.file telemetry) (after.shelf.slot 1).rest
            (λ m t left. PutsInTime (IsBegun m t) left before.out (Err fault) after.out) (GainsAllRead before.out after.out)
            (λ m t left h. subst (λ g. PutsInTime (IsBegun m t) left before.out (Err g) after.out) is h
            (is-telemetry slot model telemetry before.shelf after.shelf (reads slot is) (subst (λ g. AsksModelFirst (Err g) (after.shelf.slot 1).asked) is asks.first) some))

        reported : (status fault ≡ 0) ⊎ (status fault ≡ 3) → OnFiles before.shelf model telemetry (GainsReport before.out after.out)
        reported (inl e) = absurd (not-zero fault e)
        reported (inr e) = let x = of-three fault e in subst (λ g. OnFiles before.shelf model telemetry (λ f. PutsReport (IsReportOf f) before.out (Err g) after.out)) x.1 puts

  -- a run that came to the end of its telemetry
  module _ (done : Done) (says_model : OnFile before.shelf model (λ m. model_refusal m ≡ None)) (says_files : OnFiles before.shelf model telemetry (λ f. RunsThrough f done.samples))
      (puts : OnFiles before.shelf model telemetry (GainsReport before.out after.out)) (read : AreRead after.shelf) (asks : AsksInOrder model telemetry (Ok done) after.shelf)
      (taken : TakesAtMost (most_model + most_piece) (before.shelf.file model) (after.shelf.slot 0)) where
    through-accepted : (f : Files) → RunsThrough f done.samples → IsAccepted f
    through-accepted (bad_model x) h = h
    through-accepted (bad_header x) h = h
    through-accepted (monitored ms rows) h = h.0

    not-refuses : (f : Files) → RunsThrough f done.samples → IsSome (telemetry_refusal f) → ⊥
    not-refuses (bad_model x) h some = h
    not-refuses (bad_header x) h some = h
    not-refuses (monitored ms rows) h some = none rows.refusal h.0 some
      where
        none : (o : Option TelemFault) → o ≡ None → IsSome o → ⊥
        none None e s = cc
        none (Some x) e s = cc

    on-both : (P Q : List ℕ → List ℕ → Type 0) → ((m t : List ℕ) → P m t → Q m t) → OnBytes (before.shelf.file model) (before.shelf.file telemetry) P → OnBytes (before.shelf.file model) (before.shelf.file telemetry) Q
    on-both P Q f h = both-say (before.shelf.file model) (before.shelf.file telemetry) (λ m. model_refusal m ≡ None) P Q (λ m t _ p. f m t p) says_model h

    pub came-to-the-end : Monitors model telemetry before 0 after
    came-to-the-end = record {
      status = inl refl;
      model_refused = λ e. absurd (omega arith);
      model_refuses = if-some (before.shelf.file model) _ _ (λ m none some _. absurd (not-refused (model_refusal m) none some)) says_model;
      telemetry_refused = λ e. absurd (omega arith);
      telemetry_refuses = on-both _ _ (λ m t h some _. absurd (not-refuses (files_of m t) h some)) says_files;
      read = λ e. absurd (omega arith);
      write = λ e. absurd (omega arith);
      complete = on-both _ _ (λ m t h _ _. inl refl) says_files;
      at_end = λ e. read;
      asked_model = asks.asked_model;
      asked_telemetry = asks.asked_telemetry;
      asked_first = λ e. absurd (omega arith);
      asked_no_third = asks.no_third;
      accepted = λ e. on-both _ _ (λ m t h. through-accepted (files_of m t) h) says_files;
      report = λ e. puts;
      front = all-front-of (before.shelf.file model) (before.shelf.file telemetry) before.out after.out (Ok done) puts;
      in_time_read = λ e. absurd (omega arith);
      in_time_write = λ e. absurd (omega arith);
      model_taken = taken;
      nothing = λ e. absurd (omega arith);
    }

-- ---- what the lines claim

-- what a run may put is accepted
pub put-accepted : (ms : Models) (rows : Rows) (lines : List Line) → IsReportOfRows ms rows lines → IsReport any_justified sets_observer (watch_of ms rows) lines
put-accepted ms rows lines is = run-accepted sets_observer (watch_of ms rows) lines estimate-refutes is

pub true-hulls : (f : Files) → TrueHulls f
true-hulls (bad_model fault) = tt
true-hulls (bad_header fault) = tt
true-hulls (monitored ms rows) = λ lines is.
    hulls-sound sets_observer (watch_of ms rows) lines (estimate-sound rows.samples (length rows.samples)) (put-accepted ms rows lines is)

pub true-exclusions : (f : Files) → TrueExclusions f
true-exclusions (bad_model fault) = tt
true-exclusions (bad_header fault) = tt
true-exclusions (monitored ms rows) = λ lines is.
    exclusions-sound sets_observer (watch_of ms rows) lines (estimate-sound rows.samples (length rows.samples)) (put-accepted ms rows lines is)

pub true-misses : (f : Files) → TrueMisses f
true-misses (bad_model fault) = tt
true-misses (bad_header fault) = tt
true-misses (monitored ms rows) = λ lines is. misses-told sets_observer (watch_of ms rows) lines (put-accepted ms rows lines is)
