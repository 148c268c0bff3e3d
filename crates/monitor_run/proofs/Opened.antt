-- What the rows behind a header, and the bytes of both files, say of a run.
use Rattle.std.proofs.Common.{◌≡◌, ℕ, List, [], ◌++◌, length, is_none, Option, Some, None, IfSome, Result, Ok, Err, IfErr, refl, sym, ap, ◌∙◌, subst, append_assoc}
use Rattle.outside_io.specs.Sink.{SinkState, Gains, GainsFront}
use Rattle.outside_io.proofs.Grows.{appends_more, appends_none}
use Rattle.outside_io.proofs.Fronts.{front-after, front-before, no-front}
use Rattle.telem_csv.specs.Cutter.{at_start, telemetry_owed}
use Rattle.telem_csv.specs.Rows.{Rows}
use Rattle.telem_csv.specs.Telemetry.{Telemetry as Told, no_header, has_header, telemetry}
use Rattle.telem_csv.specs.declared.fault.TelemFault.{TelemFault}
use Rattle.model_file.specs.Bank.{Models}
use Rattle.model_file.specs.ModelFile.{models_of}
use Rattle.model_bank.specs.Bank.{plants_in, names_in}
use Rattle.report_text.specs.Line.{Line, lines_text}
use Rattle.report_rules.specs.Lines.{head_lines, last_lines}
use Rattle.report_rules.specs.Report.{samples_lines, report, due_choice}
use Rattle.report_rules.proofs.Chosen.{due-chosen}
use Rattle.observer_step.specs.SetsAnswers.{sets_observer}
use Rattle.monitor_run.specs.declared.done.Done.{Done}
use Rattle.monitor_run.specs.declared.done.RunFault.{RunFault}
use Rattle.monitor_run.specs.declared.done.RunFault.TheVariants.{Model, Telemetry, Read, Write, Memory}
use Rattle.input_files.specs.declared.stream.StreamFault.{StreamFault}
use Rattle.input_files.specs.declared.stream.StreamFault.TheVariants as stream
use Rattle.input_files.specs.Stream.{BothTold, stream_fault}
use Rattle.outside_io.specs.declared.shelf.GetFault.{GetFault}
use Rattle.outside_io.specs.declared.shelf.GetFault.TheVariants as get
use Rattle.input_files.specs.Files.{Files, bad_model, bad_header, monitored, with_telemetry, files_with, with_models, files_of, model_refusal, most_telemetry}
use Rattle.input_files.specs.Told.{OnBytes}
use Rattle.input_files.specs.declared.model.ModelEnding.{ModelEnding}
use Rattle.input_files.specs.declared.model.ModelEnding.TheVariants as models
use Rattle.monitor_run.specs.Reports.{watch_of, IsReportOf, IsReportOfRows}
use Rattle.monitor_run.specs.Outcome.{SaysOfModel, SaysOfFiles, GainsLines, GainsLinesFront, PutsReport, PutsNothing}
use Rattle.monitor_run.specs.Rows.{AreRows, SaysOfRows, ReadsRows, ending_of, model_ending}
use Rattle.input_files.specs.Judged.{JudgesModel}
use Rattle.input_files.proofs.Models.{accepted-is}
use Rattle.monitor_run.proofs.Turns.{told-some, lines-append}

pub if-some : (o : Option (List ℕ)) (P Q : List ℕ → Type 0) → ((x : List ℕ) → P x → Q x) → IfSome o P → IfSome o Q
if-some None P Q f h = tt
if-some (Some x) P Q f h = f x h

pub of-some : (o : Option (List ℕ)) (P : List ℕ → Type 0) → ((x : List ℕ) → P x) → IfSome o P
of-some None P f = tt
of-some (Some x) P f = f x

-- ---- the head, and the rows behind it

-- the lines of a report are the head and lines behind it
report-text : (ms : Models) (rows : Rows) (lines : List Line) → (is : AreRows (plants_in ms) rows lines)
    → IsReportOfRows ms rows (head_lines (names_in ms) ++ lines) × (lines_text (head_lines (names_in ms) ++ lines) ≡ lines_text (head_lines (names_in ms)) ++ lines_text lines)
report-text ms rows lines (c, chosen, is) = (
  record { choice = c; allowed = chosen; is = ap (λ ls. head_lines (names_in ms) ++ ls) is ∙ sym (append_assoc (head_lines (names_in ms)) _ _) },
  lines-append (head_lines (names_in ms)) lines,
)

module _ (ms : Models) (held0 held held' : SinkState) (put : Gains (lines_text (head_lines (names_in ms))) held0 held) where
  abbrev head : List Line
  head = head_lines (names_in ms)

  report-all : (rows : Rows) → GainsLines (AreRows (plants_in ms) rows) held held' → GainsLines (IsReportOfRows ms rows) held0 held'
  report-all rows (lines, is, h) =
      let report = report-text ms rows lines is in
      (head ++ lines, report.0, appends_more held0.held held.held held'.held _ _ _ put h report.1)

  report-front : (rows : Rows) → GainsLinesFront (AreRows (plants_in ms) rows) held held' → GainsLinesFront (IsReportOfRows ms rows) held0 held'
  report-front rows (lines, is, h) =
      let report = report-text ms rows lines is in
      (head ++ lines, report.0, subst (λ t. GainsFront t held0 held') (sym report.1) (front-after held0.held held.held held'.held (lines_text head) (lines_text lines) put h))

  pub behind-head : (r : Result Done RunFault) (rows : Rows) → IfErr r ReadsRows → PutsReport (AreRows (plants_in ms) rows) held r held' → PutsReport (IsReportOfRows ms rows) held0 r held'
  behind-head (Ok done) rows ending h = report-all rows h
  behind-head (Err (Model fault)) rows ending h = absurd ending
  behind-head (Err (Telemetry fault)) rows ending h = report-all rows h
  behind-head (Err (Read slot)) rows ending h = report-front rows h
  behind-head (Err Write) rows ending h = report-front rows h
  behind-head (Err Memory) rows ending h = report-front rows h

-- there is a report of any rows: that with the certificates that are due
some-report : (ms : Models) (rows : Rows) → (lines : List Line) × IsReportOfRows ms rows lines
some-report ms rows =
    let w = watch_of ms rows in
    (report sets_observer w (due_choice sets_observer w.plants w.samples), due-chosen w)

-- there is one for any files
pub some-lines : (f : Files) → (lines : List Line) × IsReportOf f lines
some-lines (bad_model fault) = ([], refl)
some-lines (bad_header fault) = ([], refl)
some-lines (monitored ms rows) = some-report ms rows

-- a front of the head, or all of it, is a front of a report
pub head-front : (ms : Models) (held0 held : SinkState) (rows : Rows) → GainsFront (lines_text (head_lines (names_in ms))) held0 held → GainsLinesFront (IsReportOfRows ms rows) held0 held
head-front ms held0 held rows h =
    let head = head_lines (names_in ms) in
    let some = some-report ms rows in
    let behind = samples_lines sets_observer (plants_in ms) rows.samples some.1.choice (length rows.samples) ++ last_lines (length rows.samples) (is_none rows.refusal) in
    let text : lines_text some.0 ≡ lines_text head ++ lines_text behind = ap lines_text (some.1.is ∙ append_assoc head _ _) ∙ lines-append head behind in
    (some.0, some.1, subst (λ t. GainsFront t held0 held) (sym text) (front-before held0.held held.held (lines_text head) (lines_text behind) h))

-- ---- the telemetry, from its first byte

pub rows-say : (r : Result Done RunFault) (ms : Models) (rows : Rows) → SaysOfRows r rows → SaysOfFiles r (monitored ms rows)
rows-say (Ok done) ms rows h = h
rows-say (Err (Model fault)) ms rows h = tt
rows-say (Err (Telemetry fault)) ms rows h = h
rows-say (Err (Read slot)) ms rows h = tt
rows-say (Err Write) ms rows h = tt
rows-say (Err Memory) ms rows h = tt

module _ (ms : Models) where
  abbrev told : List ℕ → Told
  told t = telemetry most_telemetry ms.inputs ms.outputs t

  starts : (t : List ℕ) → told t ≡ telemetry_owed ms.inputs ms.outputs (at_start most_telemetry) ([] ++ t)
  unfolding telemetry
  starts t = refl

  module _ (P : Files → Type 0) (file rest rest' : Option (List ℕ)) (opened : rest ≡ file) where
    from-rest : IfSome rest (λ t. P (with_telemetry ms (told t))) → IfSome file (λ t. P (with_telemetry ms (told t)))
    from-rest h = subst (λ f. IfSome f (λ t. P (with_telemetry ms (told t)))) opened h

    -- what holds of the rows behind the header holds of the file
    pub with-rows : (rows : List ℕ → Rows) → BothTold rest rest' (λ r r'. telemetry_owed ms.inputs ms.outputs (at_start most_telemetry) ([] ++ r) ≡ has_header (rows r')) → IfSome rest' (λ r'. P (monitored ms (rows r')))
        → IfSome file (λ t. P (with_telemetry ms (told t)))
    with-rows rows header h = from-rest (by rest rest' header h)
      where
        by : (rest rest' : Option (List ℕ)) → BothTold rest rest' (λ r r'. telemetry_owed ms.inputs ms.outputs (at_start most_telemetry) ([] ++ r) ≡ has_header (rows r')) → IfSome rest' (λ r'. P (monitored ms (rows r')))
            → IfSome rest (λ t. P (with_telemetry ms (told t)))
        by None rest' header h = tt
        by (Some r) None header h = absurd header
        by (Some r) (Some r') header h = subst (λ t. P (with_telemetry ms t)) (sym (starts r ∙ header)) h

    -- and what holds of a refused header
    pub with-refusal : (fault : TelemFault) → BothTold rest rest' (λ r r'. telemetry_owed ms.inputs ms.outputs (at_start most_telemetry) ([] ++ r) ≡ no_header fault) → P (bad_header fault) → IfSome file (λ t. P (with_telemetry ms (told t)))
    with-refusal fault header h = from-rest (told-some rest rest' (λ r r'. telemetry_owed ms.inputs ms.outputs (at_start most_telemetry) ([] ++ r) ≡ no_header fault) (λ t. P (with_telemetry ms (told t))) (λ r r' e. subst (λ t. P (with_telemetry ms t)) (sym (starts r ∙ e)) h) header)

-- where the telemetry could not be opened, nothing was put
pub unopened-puts : (ms : Models) (f : GetFault) (e : RunFault) → e ≡ ending_of (stream_fault f) → (file : Option (List ℕ)) (held : SinkState) → IfSome file (λ t. PutsReport (IsReportOf (files_with ms t)) held (Err e) held)
unopened-puts ms f e is file held = of-some file _ (λ t. subst (λ e. PutsReport (IsReportOf (files_with ms t)) held (Err e) held) (sym is) (by t f))
  where
    none-put : (t : List ℕ) → GainsLinesFront (IsReportOf (files_with ms t)) held held
    none-put t = let some = some-lines (files_with ms t) in (some.0, some.1, no-front held.held (lines_text some.0))

    by : (t : List ℕ) (f : GetFault) → PutsReport (IsReportOf (files_with ms t)) held (Err (ending_of (stream_fault f))) held
    by t get.Failed = none-put t
    by t get.Memory = none-put t

-- where no header came, nothing was put
module _ (ms : Models) (f : StreamFault) (e : RunFault) (is : e ≡ ending_of f) (file rest rest' : Option (List ℕ)) (opened : rest ≡ file)
    (refused : (fault : TelemFault) → f ≡ stream.Refused fault → BothTold rest rest' (λ r r'. telemetry_owed ms.inputs ms.outputs (at_start most_telemetry) ([] ++ r) ≡ no_header fault)) where
  pub no-header-says : IfSome file (λ t. SaysOfFiles (Err e) (files_with ms t))
  no-header-says = subst (λ e. IfSome file (λ t. SaysOfFiles (Err e) (files_with ms t))) (sym is) (by f refl)
    where
      by : (g : StreamFault) → f ≡ g → IfSome file (λ t. SaysOfFiles (Err (ending_of g)) (files_with ms t))
      by (stream.Refused fault) e = with-refusal ms (SaysOfFiles (Err (Telemetry fault))) file rest rest' opened fault (refused fault e) refl
      by stream.Read e = of-some file _ (λ t. tt)
      by stream.Memory e = of-some file _ (λ t. tt)

  pub no-header-puts : (held : SinkState) → IfSome file (λ t. PutsReport (IsReportOf (files_with ms t)) held (Err e) held)
  no-header-puts held = subst (λ e. IfSome file (λ t. PutsReport (IsReportOf (files_with ms t)) held (Err e) held)) (sym is) (by f refl)
    where
      none-put : (t : List ℕ) → GainsLinesFront (IsReportOf (files_with ms t)) held held
      none-put t = let some = some-lines (files_with ms t) in (some.0, some.1, no-front held.held (lines_text some.0))

      by : (g : StreamFault) → f ≡ g → IfSome file (λ t. PutsReport (IsReportOf (files_with ms t)) held (Err (ending_of g)) held)
      by (stream.Refused fault) e = with-refusal ms (λ f. PutsReport (IsReportOf f) held (Err (Telemetry fault)) held) file rest rest' opened fault (refused fault e) ([], refl, appends_none held.held)
      by stream.Read e = of-some file _ none-put
      by stream.Memory e = of-some file _ none-put

-- ---- both files

module _ (ms : Models) (model telemetry' : Option (List ℕ)) (read : IfSome model (λ m. models_of m ≡ Ok ms)) where
  -- what holds of the telemetry under these models holds of both files
  pub with-models : (P : Files → Type 0) → IfSome telemetry' (λ t. P (files_with ms t)) → OnBytes model telemetry' (λ m t. P (files_of m t))
  unfolding files_of
  with-models P h = by model read
    where
      by : (model : Option (List ℕ)) → IfSome model (λ m. models_of m ≡ Ok ms) → OnBytes model telemetry' (λ m t. P (with_models (models_of m) t))
      by None read = tt
      by (Some m) read = if-some telemetry' _ _ (λ t p. subst (λ r. P (with_models r t)) (sym read) p) h

  pub accepted-says : (r : Result Done RunFault) → IfErr r ReadsRows → IfSome model (SaysOfModel r)
  accepted-says r ending = if-some model _ _ (λ m e. by r m ending (accepted-is ms m e)) read
    where
      by : (r : Result Done RunFault) (m : List ℕ) → IfErr r ReadsRows → model_refusal m ≡ None → SaysOfModel r m
      by (Ok done) m ending h = h
      by (Err (Model fault)) m ending h = absurd ending
      by (Err (Telemetry fault)) m ending h = h
      by (Err (Read slot)) m ending h = λ _. h
      by (Err Write) m ending h = h
      by (Err Memory) m ending h = tt

  pub rows-nothing : (r : Result Done RunFault) (held held' : SinkState) → IfErr r ReadsRows → PutsNothing held r held'
  rows-nothing (Ok done) held held' ending = tt
  rows-nothing (Err (Model fault)) held held' ending = absurd ending
  rows-nothing (Err (Telemetry fault)) held held' ending = tt
  rows-nothing (Err (Read slot)) held held' ending = λ zero. let one : slot ≡ 1 = ending in absurd cc
  rows-nothing (Err Write) held held' ending = tt
  rows-nothing (Err Memory) held held' ending = tt

-- an ending at the model file
module _ (e : ModelEnding) (r : RunFault) (is : r ≡ model_ending e) where
  pub judged-says : (model : Option (List ℕ)) → IfSome model (JudgesModel e) → IfSome model (SaysOfModel (Err r))
  judged-says model h = subst (λ r. IfSome model (SaysOfModel (Err r))) (sym is) (if-some model _ _ (by e) h)
    where
      by : (e : ModelEnding) (m : List ℕ) → JudgesModel e m → SaysOfModel (Err (model_ending e)) m
      by (models.Refused fault) m p = p
      by models.Read m p = λ other. absurd (other refl)
      by models.Memory m p = tt

  pub judged-files : (f : Files) → SaysOfFiles (Err r) f
  judged-files f = subst (λ r. SaysOfFiles (Err r) f) (sym is) (by e)
    where
      by : (e : ModelEnding) → SaysOfFiles (Err (model_ending e)) f
      by (models.Refused fault) = tt
      by models.Read = tt
      by models.Memory = tt

  pub judged-puts : (held : SinkState) (f : Files) → PutsReport (IsReportOf f) held (Err r) held
  judged-puts held f = subst (λ r. PutsReport (IsReportOf f) held (Err r) held) (sym is) (by e)
    where
      none-put : GainsLinesFront (IsReportOf f) held held
      none-put = let some = some-lines f in (some.0, some.1, no-front held.held (lines_text some.0))

      by : (e : ModelEnding) → PutsReport (IsReportOf f) held (Err (model_ending e)) held
      by (models.Refused fault) = refl
      by models.Read = none-put
      by models.Memory = none-put

pub on-both : (model telemetry' : Option (List ℕ)) (P : List ℕ → List ℕ → Type 0) → ((m t : List ℕ) → P m t) → OnBytes model telemetry' P
on-both model telemetry' P f = of-some model _ (λ m. of-some telemetry' _ (λ t. f m t))
