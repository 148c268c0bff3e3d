-- What a check answers, from how it ended.
use Rattle.std.proofs.Common.{◌≡◌, ◌≢◌, ◌⊎◌, ◌==◌, if◌then◌else◌, inl, inr, List, [], ℕ, ◌+◌, Bool, true, false, Option, Some, None, IfSome, IsSome, Ok, Err, refl, sym, ap, subst, ◌∙◌, length, is_none, arith}
use Rattle.std.proofs.lemmas.List.{append-nil}
use Rattle.outside_io.specs.Causes.{Rose}
use Rattle.outside_io.specs.Shelf.{ShelfState}
use Rattle.outside_io.specs.Sink.{AppendsFront}
use Rattle.outside_io.proofs.Fronts.{no-front}
use Rattle.model_file.specs.declared.fault.ModelFault.{ModelFault}
use Rattle.model_file.specs.Bank.{Models}
use Rattle.telem_csv.specs.Rows.{Rows}
use Rattle.telem_csv.specs.declared.fault.TelemFault.{TelemFault}
use Rattle.observer_step.specs.Answers.{any_justified}
use Rattle.observer_step.specs.SetsAnswers.{sets_observer}
use Rattle.report_text.specs.Line.{Line, lines_text}
use Rattle.report_rules.proofs.Hulls.{hulls-sound, exclusions-sound, estimate-sound}
use Rattle.report_rules.proofs.Misses.{misses-told}
use Rattle.report_rules.specs.Report.{IsReport, IsReportText}
use Rattle.report_rules.specs.Replay.{Satisfies, SatisfiesBy}
use Rattle.input_files.specs.Ended.{files_begun, without_last}
use Rattle.input_files.specs.Files.{Files, bad_model, bad_header, monitored, files_of, model_refusal, telemetry_refusal}
use Rattle.input_files.specs.Told.{OnBytes, OnFile}
use Rattle.input_files.specs.Whole.{TakesAtMost, most_model, most_piece}
use Rattle.cert_replay.specs.declared.fault.Accepted.{Accepted}
use Rattle.cert_replay.specs.declared.fault.CheckFault.{CheckFault}
use Rattle.cert_replay.specs.declared.fault.CheckFault.TheVariants as check
use Rattle.cert_replay.specs.Ahead.{OnReportLeft, RefusesInTime}
use Rattle.cert_replay.specs.Outcome.{OnReport, SaysOfModel, SaysOfReport, ReadsFailed, AsksModelFirst, AsksInOrder, AllRead}
use Rattle.zonomon_run.specs.Words.{asked_by, checks}
use Rattle.zonomon_run.specs.Ending.{status_of, text_of, accepted_text, Tells}
use Rattle.zonomon_run.specs.declared.ending.Ending.TheVariants.{ReadModel, ReadTelemetry, ReadReport}
use Rattle.zonomon_run.specs.Endings.{check_ending, unread_ending}
use Rattle.zonomon_run.specs.Runs.{Outside, OnCheck, IsAccepted, PutsText}
use Rattle.zonomon_run.specs.Checks.{Agrees, DepartsAtLine, Accepts, IsRefusedAt, IsCheckStatus, NoSlotRose, Unread, Checks, AreLinesWith, KeepsOwn, CheckedHulls, CheckedExclusions, CheckedMisses}
use Rattle.monitor_run.specs.Reports.{watch_of, IsReportOf, IsReportOfRows}
use Rattle.zonomon_run.proofs.Runs.{refused-model, accepted-not-refused, not-refused, if-some, put-accepted}

-- a claim on what the words name
pub on-check : (words : List (List ℕ)) (P : (model telemetry report : List ℕ) → Type 0) (m t r : List ℕ) → checks m t r ≡ asked_by words → P m t r → OnCheck words P
on-check words P m t r is claim model telemetry report e =
    let first : m ≡ model = cc in
    let second : t ≡ telemetry = cc in
    let third : r ≡ report = cc in
    subst (λ x. P x telemetry report) first (subst (λ x. P m x report) second (subst (λ x. P m t x) third claim))

-- what is said of the model file, and what of all three
three-say : (model telemetry report : Option (List ℕ)) (A : List ℕ → Type 0) (B C : (m t b : List ℕ) → Type 0) → ((m t b : List ℕ) → A m → B m t b → C m t b)
    → IfSome model A → IfSome report (λ b. OnBytes model telemetry (λ m t. B m t b)) → IfSome report (λ b. OnBytes model telemetry (λ m t. C m t b))
three-say model telemetry None A B C f a h = tt
three-say None telemetry (Some b) A B C f a h = tt
three-say (Some m) None (Some b) A B C f a h = tt
three-say (Some m) (Some t) (Some b) A B C f a h = f m t b a h

-- one claim on all three from another
each-say : (model telemetry report : Option (List ℕ)) (B C : (m t b : List ℕ) → Type 0) → ((m t b : List ℕ) → B m t b → C m t b)
    → IfSome report (λ b. OnBytes model telemetry (λ m t. B m t b)) → IfSome report (λ b. OnBytes model telemetry (λ m t. C m t b))
each-say model telemetry None B C f h = tt
each-say None telemetry (Some b) B C f h = tt
each-say (Some m) None (Some b) B C f h = tt
each-say (Some m) (Some t) (Some b) B C f h = f m t b h

-- ---- what an outcome says of the report

departs-at-line : (line : ℕ) (f : Files) (b : List ℕ) → SaysOfReport (Err (check.Report line)) f b → DepartsAtLine line f b
departs-at-line line (bad_model x) b h = h
departs-at-line line (bad_header x) b h = h
departs-at-line line (monitored ms rows) b h = h

departs-disagrees : (line : ℕ) (f : Files) (b : List ℕ) → SaysOfReport (Err (check.Report line)) f b → Agrees f b → ⊥
departs-disagrees line (bad_model x) b h agrees = h
departs-disagrees line (bad_header x) b h agrees = h
departs-disagrees line (monitored ms rows) b h agrees = h.not_satisfied agrees

refused-at : (x : TelemFault) (f : Files) (b : List ℕ) → SaysOfReport (Err (check.Telemetry x)) f b → IsRefusedAt x f b
refused-at x (bad_model y) b h = absurd h
refused-at x (bad_header y) b h = (h, tt)
refused-at x (monitored ms rows) b h = h

accepts : (done : Accepted) (f : Files) (b : List ℕ) → SaysOfReport (Ok done) f b → Accepts f b
accepts done (bad_model y) b h = absurd h
accepts done (bad_header y) b h = absurd h
accepts done (monitored ms rows) b h = (h.no_refusal, h.satisfies)

not-some : (o : Option TelemFault) → o ≡ None → IsSome o → ⊥
not-some None e s = cc
not-some (Some x) e s = cc

none-is-not-some : (f : Files) (x : ModelFault) → f ≡ bad_model x → IsSome (telemetry_refusal f) → ⊥
none-is-not-some f x e some = not-some (telemetry_refusal f) (ap telemetry_refusal e) some

accepted-no-refusal : (f : Files) → IsAccepted f → IsSome (telemetry_refusal f) → ⊥
accepted-no-refusal (bad_model x) h some = h
accepted-no-refusal (bad_header x) h some = h
accepted-no-refusal (monitored ms rows) h some = not-some rows.refusal h some

-- ---- the status of an ending

abbrev status : CheckFault → ℕ
status fault = status_of (check_ending fault)

unread-status : (slot : ℕ) → status_of (unread_ending slot) ≡ 4
unread-status slot = by (slot == 0) (slot == 1)
  where
    by : (p q : Bool) → status_of (if p then ReadModel else (if q then ReadTelemetry else ReadReport)) ≡ 4
    by true q = refl
    by false true = refl
    by false false = refl

check-status : (fault : CheckFault) → IsCheckStatus (status fault)
check-status (check.Model x) = inr (inl refl)
check-status (check.Telemetry x) = inr (inr (inl refl))
check-status (check.Read slot) = inr (inr (inr (inl (unread-status slot))))
check-status (check.Report line) = inr (inr (inr (inr (inr (inr refl)))))
check-status check.Memory = inr (inr (inr (inr (inr (inl refl)))))

not-zero : (fault : CheckFault) → status fault ≡ 0 → ⊥
not-zero (check.Model x) e = omega arith
not-zero (check.Telemetry x) e = omega arith
not-zero (check.Read slot) e = let four = unread-status slot in omega arith
not-zero (check.Report line) e = omega arith
not-zero check.Memory e = omega arith

not-five : (fault : CheckFault) → status fault ≡ 5 → ⊥
not-five (check.Model x) e = omega arith
not-five (check.Telemetry x) e = omega arith
not-five (check.Read slot) e = let four = unread-status slot in omega arith
not-five (check.Report line) e = omega arith
not-five check.Memory e = omega arith

of-two : (fault : CheckFault) → status fault ≡ 2 → (x : ModelFault) × (fault ≡ check.Model x)
of-two (check.Model x) e = (x, refl)
of-two (check.Telemetry x) e = absurd (omega arith)
of-two (check.Read slot) e = let four = unread-status slot in absurd (omega arith)
of-two (check.Report line) e = absurd (omega arith)
of-two check.Memory e = absurd (omega arith)

of-three : (fault : CheckFault) → status fault ≡ 3 → (x : TelemFault) × (fault ≡ check.Telemetry x)
of-three (check.Model x) e = absurd (omega arith)
of-three (check.Telemetry x) e = (x, refl)
of-three (check.Read slot) e = let four = unread-status slot in absurd (omega arith)
of-three (check.Report line) e = absurd (omega arith)
of-three check.Memory e = absurd (omega arith)

of-four : (fault : CheckFault) → status fault ≡ 4 → (slot : ℕ) × (fault ≡ check.Read slot)
of-four (check.Model x) e = absurd (omega arith)
of-four (check.Telemetry x) e = absurd (omega arith)
of-four (check.Read slot) e = (slot, refl)
of-four (check.Report line) e = absurd (omega arith)
of-four check.Memory e = absurd (omega arith)

of-seven : (fault : CheckFault) → status fault ≡ 7 → (line : ℕ) × (fault ≡ check.Report line)
of-seven (check.Model x) e = absurd (omega arith)
of-seven (check.Telemetry x) e = absurd (omega arith)
of-seven (check.Read slot) e = let four = unread-status slot in absurd (omega arith)
of-seven (check.Report line) e = (line, refl)
of-seven check.Memory e = absurd (omega arith)

module _ (model telemetry report : List ℕ) (before after : Outside) where
  abbrev HasReads : CheckFault → Type 0
  HasReads fault = (slot : ℕ) → fault ≡ check.Read slot → ReadsFailed model telemetry report before.shelf after.shelf slot

  no-read : (slot : ℕ) → ReadsFailed model telemetry report before.shelf after.shelf slot → NoSlotRose before.shelf after.shelf → ⊥
  no-read slot (inl h) none = none.model h.1.rose
  no-read slot (inr (inl h)) none = none.telemetry h.1.rose
  no-read slot (inr (inr h)) none = none.report h.1.rose

  -- the slot that could not be read
  unread : (slot : ℕ) → ReadsFailed model telemetry report before.shelf after.shelf slot → Tells (text_of (unread_ending slot)) before.err after.err
      → after.out.held ≡ before.out.held → AsksModelFirst (Err (check.Read slot)) after.shelf → Unread model telemetry report before after
  unread slot (inl h) told nothing first =
      let alone = first h.0 in
      inl (
        record {
          failed = h.1;
          told = subst (λ slot. Tells (text_of (unread_ending slot)) before.err after.err) h.0 told;
          nothing = nothing;
          asked_first = alone.0;
        },
        alone,
      )
  unread slot (inr (inl h)) told nothing first = inr (inl (record {
    failed = h.1;
    told = subst (λ slot. Tells (text_of (unread_ending slot)) before.err after.err) h.0 told;
  }))
  unread slot (inr (inr h)) told nothing first = inr (inr (record {
    failed = h.1;
    told = subst (λ slot. Tells (text_of (unread_ending slot)) before.err after.err) h.0 told;
  }))

  -- a model file that is refused ends it so, or for want of memory
  model-refuses : (fault : CheckFault) → HasReads fault → (m : List ℕ) → SaysOfModel (Err fault) m → IsSome (model_refusal m)
      → ¬ Rose (before.shelf.slot 0).faults (after.shelf.slot 0).faults → (status fault ≡ 2) ⊎ (status fault ≡ 6)
  model-refuses (check.Model x) reads m says refused none = inl refl
  model-refuses (check.Telemetry x) reads m says refused none = absurd (not-refused (model_refusal m) says refused)
  model-refuses (check.Read slot) reads m says refused none = absurd (by (reads slot refl))
    where
      by : ReadsFailed model telemetry report before.shelf after.shelf slot → ⊥
      by (inl h) = none h.1.rose
      by (inr (inl h)) = not-refused (model_refusal m) (says (λ zero. let one = h.0 in omega arith)) refused
      by (inr (inr h)) = not-refused (model_refusal m) (says (λ zero. let two = h.0 in omega arith)) refused
  model-refuses (check.Report line) reads m says refused none = absurd (not-refused (model_refusal m) says refused)
  model-refuses check.Memory reads m says refused none = inr refl

  -- a telemetry that is refused, where the report does not depart before, ends it so, or for want of memory
  telemetry-refuses : (fault : CheckFault) → HasReads fault → (m t b : List ℕ) → SaysOfModel (Err fault) m → SaysOfReport (Err fault) (files_of m t) b
      → IsSome (telemetry_refusal (files_of m t)) → Agrees (files_of m t) b → NoSlotRose before.shelf after.shelf → (status fault ≡ 3) ⊎ (status fault ≡ 6)
  telemetry-refuses (check.Model x) reads m t b says h some agrees none = absurd (none-is-not-some (files_of m t) x (refused-model m t x says) some)
  telemetry-refuses (check.Telemetry x) reads m t b says h some agrees none = inl refl
  telemetry-refuses (check.Read slot) reads m t b says h some agrees none = absurd (no-read slot (reads slot refl) none)
  telemetry-refuses (check.Report line) reads m t b says h some agrees none = absurd (departs-disagrees line (files_of m t) b h agrees)
  telemetry-refuses check.Memory reads m t b says h some agrees none = inr refl

  -- a report that departs ends it so, or for want of memory
  report-refuses : (fault : CheckFault) → HasReads fault → (m t b : List ℕ) → SaysOfModel (Err fault) m → SaysOfReport (Err fault) (files_of m t) b
      → ¬ Agrees (files_of m t) b → NoSlotRose before.shelf after.shelf → (status fault ≡ 7) ⊎ (status fault ≡ 6)
  report-refuses (check.Model x) reads m t b says h departs none = absurd (departs (subst (λ f. Agrees f b) (sym (refused-model m t x says)) tt))
  report-refuses (check.Telemetry x) reads m t b says h departs none = absurd (departs (refused-at x (files_of m t) b h).1)
  report-refuses (check.Read slot) reads m t b says h departs none = absurd (no-read slot (reads slot refl) none)
  report-refuses (check.Report line) reads m t b says h departs none = inl refl
  report-refuses check.Memory reads m t b says h departs none = inr refl

  -- files and a report that are accepted end it early only for want of memory
  early : (fault : CheckFault) → HasReads fault → (m t b : List ℕ) → SaysOfModel (Err fault) m → SaysOfReport (Err fault) (files_of m t) b
      → Accepts (files_of m t) b → NoSlotRose before.shelf after.shelf → ¬ Rose before.out.faults after.out.faults → (status fault ≡ 0) ⊎ (status fault ≡ 6)
  early (check.Model x) reads m t b says h good none calm = absurd (subst IsAccepted (refused-model m t x says) good.0)
  early (check.Telemetry x) reads m t b says h good none calm =
      absurd (accepted-not-refused (files_of m t) x (refused-at x (files_of m t) b h).0 good.0)
  early (check.Read slot) reads m t b says h good none calm = absurd (no-read slot (reads slot refl) none)
  early (check.Report line) reads m t b says h good none calm = absurd (departs-disagrees line (files_of m t) b h good.1)
  early check.Memory reads m t b says h good none calm = inr refl

  -- a check that ended early
  module _ (fault : CheckFault) (says_model : OnFile before.shelf model (SaysOfModel (Err fault))) (says : OnReport before.shelf model telemetry report (SaysOfReport (Err fault)))
      (reads : HasReads fault) (asks : AsksInOrder model telemetry report (Err fault) after.shelf) (nothing : after.out.held ≡ before.out.held)
      (told : Tells (text_of (check_ending fault)) before.err after.err)
      (in_time : OnReportLeft before.shelf after.shelf model telemetry report (λ m t bytes left. RefusesInTime (λ k. files_begun m (without_last k t)) bytes left (Err fault)))
      (taken : TakesAtMost (most_model + most_piece) (before.shelf.file model) (after.shelf.slot 0)) where
    abbrev all-say : (C : (m t b : List ℕ) → Type 0) → ((m t b : List ℕ) → SaysOfModel (Err fault) m → SaysOfReport (Err fault) (files_of m t) b → C m t b)
        → IfSome (before.shelf.file report) (λ b. OnBytes (before.shelf.file model) (before.shelf.file telemetry) (λ m t. C m t b))
    all-say C f = three-say (before.shelf.file model) (before.shelf.file telemetry) (before.shelf.file report) (SaysOfModel (Err fault))
        (λ m t b. SaysOfReport (Err fault) (files_of m t) b) C f says_model says

    of-five : (status fault ≡ 0) ⊎ (status fault ≡ 5) → ⊥
    of-five (inl e) = not-zero fault e
    of-five (inr e) = not-five fault e

    pub ended : Checks model telemetry report before (status fault) after
    ended = record {
      status = check-status fault;
      model_refused = λ e. let x = of-two fault e in
          (x.0, subst (λ g. OnFile before.shelf model (SaysOfModel (Err g))) x.1 says_model, subst (λ g. Tells (text_of (check_ending g)) before.err after.err) x.1 told);
      model_refuses = if-some (before.shelf.file model) _ _ (model-refuses fault reads) says_model;
      telemetry_refused = λ e. let x = of-three fault e in (
        x.0,
        each-say (before.shelf.file model) (before.shelf.file telemetry) (before.shelf.file report)
            (λ m t b. SaysOfReport (Err (check.Telemetry x.0)) (files_of m t) b) (λ m t b. IsRefusedAt x.0 (files_of m t) b) (λ m t b h. refused-at x.0 (files_of m t) b h)
            (subst (λ g. OnReport before.shelf model telemetry report (SaysOfReport (Err g))) x.1 says),
        subst (λ g. Tells (text_of (check_ending g)) before.err after.err) x.1 told,
      );
      telemetry_refuses = all-say _ (telemetry-refuses fault reads);
      report_refused = λ e. let x = of-seven fault e in (
        x.0,
        each-say (before.shelf.file model) (before.shelf.file telemetry) (before.shelf.file report)
            (λ m t b. SaysOfReport (Err (check.Report x.0)) (files_of m t) b) (λ m t b. DepartsAtLine x.0 (files_of m t) b) (λ m t b h. departs-at-line x.0 (files_of m t) b h)
            (subst (λ g. OnReport before.shelf model telemetry report (SaysOfReport (Err g))) x.1 says),
        subst (λ g. OnReportLeft before.shelf after.shelf model telemetry report (λ m t bytes left. RefusesInTime (λ k. files_begun m (without_last k t)) bytes left (Err g))) x.1 in_time,
        subst (λ g. Tells (text_of (check_ending g)) before.err after.err) x.1 told,
      );
      report_refuses = all-say _ (report-refuses fault reads);
      accepted = λ e. absurd (of-five e);
      complete = all-say _ (early fault reads);
      read = λ e. let x = of-four fault e in
          unread x.0 (reads x.0 x.1) (subst (λ g. Tells (text_of (check_ending g)) before.err after.err) x.1 told) nothing
          (subst (λ g. AsksModelFirst (Err g) after.shelf) x.1 asks.first);
      write = λ e. absurd (not-five fault e);
      at_end = λ e. absurd (not-zero fault e);
      asked_model = asks.asked_model;
      asked_telemetry = asks.asked_telemetry;
      asked_report = asks.asked_report;
      asked_first = λ e. let x = of-two fault e in subst (λ g. AsksModelFirst (Err g) after.shelf) x.1 asks.first;
      model_taken = taken;
      put = λ e. absurd (not-zero fault e);
      front = subst (λ x. AppendsFront before.out.held x accepted_text) (sym nothing) (no-front before.out.held accepted_text);
      nothing = λ _ _ _. nothing;
    }

  -- a check that accepted the report
  module _ (done : Accepted) (answer : ℕ) (says_model : OnFile before.shelf model (λ m. model_refusal m ≡ None)) (says : OnReport before.shelf model telemetry report (SaysOfReport (Ok done)))
      (read : AllRead after.shelf) (asks : AsksInOrder model telemetry report (Ok done) after.shelf) (puts : PutsText accepted_text before.out answer after.out)
      (taken : TakesAtMost (most_model + most_piece) (before.shelf.file model) (after.shelf.slot 0)) where
    good : OnReport before.shelf model telemetry report Accepts
    good = each-say (before.shelf.file model) (before.shelf.file telemetry) (before.shelf.file report)
        (λ m t b. SaysOfReport (Ok done) (files_of m t) b) (λ m t b. Accepts (files_of m t) b) (λ m t b h. accepts done (files_of m t) b h) says

    if-good : (C : (m t b : List ℕ) → Type 0) → ((m t b : List ℕ) → Accepts (files_of m t) b → C m t b)
        → IfSome (before.shelf.file report) (λ b. OnBytes (before.shelf.file model) (before.shelf.file telemetry) (λ m t. C m t b))
    if-good C f = each-say (before.shelf.file model) (before.shelf.file telemetry) (before.shelf.file report) (λ m t b. Accepts (files_of m t) b) C f good

    one-of : (answer ≡ 0) ⊎ ((answer ≡ 5) ⊎ (answer ≡ 6)) → IsCheckStatus answer
    one-of (inl e) = inl e
    one-of (inr (inl e)) = inr (inr (inr (inr (inl e))))
    one-of (inr (inr e)) = inr (inr (inr (inr (inr (inl e)))))

    not-other : (n : ℕ) → n ≢ 0 → n ≢ 5 → n ≢ 6 → (answer ≡ 0) ⊎ ((answer ≡ 5) ⊎ (answer ≡ 6)) → answer ≡ n → ⊥
    not-other n zero five six (inl e) is = zero (sym is ∙ e)
    not-other n zero five six (inr (inl e)) is = five (sym is ∙ e)
    not-other n zero five six (inr (inr e)) is = six (sym is ∙ e)

    calm : ¬ Rose before.out.faults after.out.faults → (answer ≡ 0) ⊎ ((answer ≡ 5) ⊎ (answer ≡ 6)) → (answer ≡ 0) ⊎ (answer ≡ 6)
    calm none (inl e) = inl e
    calm none (inr (inl e)) = absurd (none (puts.write e))
    calm none (inr (inr e)) = inr e

    other : {A : Type 0} (n : ℕ) → n ≢ 0 → n ≢ 5 → n ≢ 6 → answer ≡ n → A
    other n zero five six is = absurd (not-other n zero five six puts.status is)

    pub came-to-the-end : Checks model telemetry report before answer after
    came-to-the-end = record {
      status = one-of puts.status;
      model_refused = other 2 (λ e. omega arith) (λ e. omega arith) (λ e. omega arith);
      model_refuses = if-some (before.shelf.file model) _ _ (λ m none some _. absurd (not-refused (model_refusal m) none some)) says_model;
      telemetry_refused = other 3 (λ e. omega arith) (λ e. omega arith) (λ e. omega arith);
      telemetry_refuses = if-good _ (λ m t b h some _ _. absurd (accepted-no-refusal (files_of m t) h.0 some));
      report_refused = other 7 (λ e. omega arith) (λ e. omega arith) (λ e. omega arith);
      report_refuses = if-good _ (λ m t b h departs _. absurd (departs h.1));
      accepted = λ e. good;
      complete = if-good _ (λ m t b _ _ _ none. calm none puts.status);
      read = other 4 (λ e. omega arith) (λ e. omega arith) (λ e. omega arith);
      write = puts.write;
      at_end = λ e. read;
      asked_model = asks.asked_model;
      asked_telemetry = asks.asked_telemetry;
      asked_report = asks.asked_report;
      asked_first = other 2 (λ e. omega arith) (λ e. omega arith) (λ e. omega arith);
      model_taken = taken;
      put = puts.whole;
      front = puts.front;
      nothing = λ zero five six. other answer zero five six refl;
    }

-- ---- the report of a run

departs-not-agrees : (line : ℕ) (f : Files) (b : List ℕ) → DepartsAtLine line f b → Agrees f b → ⊥
departs-not-agrees line (bad_model x) b h agrees = h
departs-not-agrees line (bad_header x) b h agrees = h
departs-not-agrees line (monitored ms rows) b h agrees = h.not_satisfied agrees

own-satisfies : (ms : Models) (rows : Rows) (lines : List Line) → IsReportOfRows ms rows lines → (whole : Bool) → SatisfiesBy whole (watch_of ms rows) (lines_text lines)
own-satisfies ms rows lines is true = (lines, put-accepted ms rows lines is, refl)
own-satisfies ms rows lines is false = (lines, put-accepted ms rows lines is, [], sym (append-nil (lines_text lines)))

own-agrees : (f : Files) (b : List ℕ) (lines : List Line) → IsReportOf f lines → b ≡ lines_text lines → Agrees f b
own-agrees (bad_model x) b lines is e = tt
own-agrees (bad_header x) b lines is e = tt
own-agrees (monitored ms rows) b lines is e = subst (λ b. Satisfies (watch_of ms rows) b) (sym e) (own-satisfies ms rows lines is (watch_of ms rows).is_whole)

own : (model telemetry report : Option (List ℕ)) (answer : ℕ)
    → (answer ≡ 7 → (line : ℕ) × IfSome report (λ b. OnBytes model telemetry (λ m t. DepartsAtLine line (files_of m t) b)))
    → IfSome report (λ b. OnBytes model telemetry (λ m t. KeepsOwn answer (files_of m t) b))
own model telemetry None answer h = tt
own None telemetry (Some b) answer h = tt
own (Some m) None (Some b) answer h = tt
own (Some m) (Some t) (Some b) answer h = λ lines may is seven.
    let x = h seven in
    departs-not-agrees x.0 (files_of m t) b x.1 (own-agrees (files_of m t) b lines may is)

-- a check does not refuse what a run may put
pub own-kept : (model telemetry report : List ℕ) (before : Outside) (answer : ℕ) (after : Outside) → Checks model telemetry report before answer after
    → OnReport before.shelf model telemetry report (KeepsOwn answer)
own-kept model telemetry report before answer after h = own (before.shelf.file model) (before.shelf.file telemetry) (before.shelf.file report) answer
    (λ seven. let x = h.report_refused seven in (x.0, x.1))

-- ---- what the lines of an accepted report claim

-- a claim on the lines of a report that is accepted
lines-with : (ms : Models) (rows : Rows) (b : List ℕ) (claim : List Line → Type 0)
    → ((lines : List Line) → IsReport any_justified sets_observer (watch_of ms rows) lines → claim lines) → Accepts (monitored ms rows) b → AreLinesWith claim ms rows b
lines-with ms rows b claim f h =
    let whole : (watch_of ms rows).is_whole ≡ true = ap is_none h.0 in
    let text : IsReportText any_justified sets_observer (watch_of ms rows) b = subst (λ w. SatisfiesBy w (watch_of ms rows) b) whole h.1 in
    (text.0, text.1, text.2, f text.0 text.1)

pub checked-hulls : (f : Files) (b : List ℕ) → Accepts f b → CheckedHulls f b
checked-hulls (bad_model x) b h = h.0
checked-hulls (bad_header x) b h = h.0
checked-hulls (monitored ms rows) b h = lines-with ms rows b _ (λ lines is. hulls-sound sets_observer (watch_of ms rows) lines (estimate-sound rows.samples (length rows.samples)) is) h

pub checked-exclusions : (f : Files) (b : List ℕ) → Accepts f b → CheckedExclusions f b
checked-exclusions (bad_model x) b h = h.0
checked-exclusions (bad_header x) b h = h.0
checked-exclusions (monitored ms rows) b h = lines-with ms rows b _ (λ lines is. exclusions-sound sets_observer (watch_of ms rows) lines (estimate-sound rows.samples (length rows.samples)) is) h

pub checked-misses : (f : Files) (b : List ℕ) → Accepts f b → CheckedMisses f b
checked-misses (bad_model x) b h = h.0
checked-misses (bad_header x) b h = h.0
checked-misses (monitored ms rows) b h = lines-with ms rows b _ (λ lines is. misses-told sets_observer (watch_of ms rows) lines is) h

-- what holds of accepted reports holds of the one that was checked
pub if-accepted : (shelf : ShelfState) (model telemetry report : List ℕ) (P : Files → List ℕ → Type 0) → ((f : Files) (b : List ℕ) → Accepts f b → P f b)
    → OnReport shelf model telemetry report Accepts → OnReport shelf model telemetry report P
if-accepted shelf model telemetry report P f = each-say (shelf.file model) (shelf.file telemetry) (shelf.file report)
    (λ m t b. Accepts (files_of m t) b) (λ m t b. P (files_of m t) b) (λ m t b h. f (files_of m t) b h)
