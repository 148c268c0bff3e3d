-- What a check does with files that the shelf tells.
use Rattle.std.specs.Prelude.{◌≡◌, ◌≢◌, ◌⊎◌, ℕ, ◌+◌, List, Some, None, IsSome}
use Rattle.outside_io.specs.Causes.{Rose}
use Rattle.outside_io.specs.Shelf.{ShelfState}
use Rattle.outside_io.specs.Sink.{Gains, GainsFront}
use Rattle.model_file.specs.Bank.{Models}
use Rattle.telem_csv.specs.Rows.{Rows}
use Rattle.telem_csv.specs.declared.fault.TelemFault.{TelemFault}
use Rattle.observer_step.specs.Answers.{any_justified}
use Rattle.observer_step.specs.SetsAnswers.{sets_observer}
use Rattle.model_bank.specs.Bank.{plants_in}
use Rattle.report_text.specs.Line.{Line, lines_text}
use Rattle.report_rules.specs.Report.{IsReport}
use Rattle.report_rules.specs.Replay.{Satisfies, DepartsAt}
use Rattle.report_rules.specs.Claims.{HullsHold, ExclusionsHold, MissesTold, plant_at}
use Rattle.monitor_run.specs.Reports.{watch_of, IsReportOf}
use Rattle.input_files.specs.Ended.{files_begun, without_last}
use Rattle.input_files.specs.Files.{Files, bad_model, bad_header, monitored, model_refusal, telemetry_refusal}
use Rattle.input_files.specs.Told.{OnFile, ReadFailed}
use Rattle.input_files.specs.Whole.{IsAskedAtMost, TakesAtMost, most_model, most_piece}
use Rattle.cert_replay.specs.Ahead.{OnReportLeft, IsBehindBegun}
use Rattle.cert_replay.specs.Outcome.{OnReport, AllRead}
use Rattle.zonomon_run.specs.Ending.{Tells, text_of, accepted_text, telemetry_refusal_text, report_refusal_text}
use Rattle.zonomon_run.specs.declared.ending.Ending.TheVariants.{ReadReport}
use Rattle.zonomon_run.specs.Runs.{Outside, OnCheck, IsAccepted, ModelUnread, TelemetryUnread, ModelRefused}

-- ---- what is said of a report

-- the report says what it has to of files that say this; where a row is refused, it begins with all that stands before
abbrev pub Agrees : Files → List ℕ → Type 0
Agrees (bad_model fault) bytes = Unit
Agrees (bad_header fault) bytes = Unit
Agrees (monitored ms rows) bytes = Satisfies (watch_of ms rows) bytes

-- this line of the report is the first that departs from what it has to say
abbrev pub DepartsAtLine : ℕ → Files → List ℕ → Type 0
DepartsAtLine line (bad_model fault) bytes = ⊥
DepartsAtLine line (bad_header fault) bytes = ⊥
DepartsAtLine line (monitored ms rows) bytes = DepartsAt (watch_of ms rows) line bytes

-- no file is refused, and the report says what it has to
abbrev pub Accepts : Files → List ℕ → Type 0
Accepts files bytes = IsAccepted files × Agrees files bytes

-- the telemetry is refused with this fault, and the report does not depart before it
abbrev pub IsRefusedAt : TelemFault → Files → List ℕ → Type 0
IsRefusedAt fault files bytes = (telemetry_refusal files ≡ Some fault) × Agrees files bytes

-- ---- what a check answers

-- a claim on what the files say that the words `check` name, and on the bytes of the report, where the shelf tells them
abbrev pub OnChecked : List (List ℕ) → ShelfState → (Files → List ℕ → Type 0) → Type 0
OnChecked words shelf claim = OnCheck words (λ model telemetry report. OnReport shelf model telemetry report claim)

-- the statuses of a check
abbrev pub IsCheckStatus : ℕ → Type 0
IsCheckStatus n = (n ≡ 0) ⊎ ((n ≡ 2) ⊎ ((n ≡ 3) ⊎ ((n ≡ 4) ⊎ ((n ≡ 5) ⊎ ((n ≡ 6) ⊎ (n ≡ 7))))))

-- no count of faults of the three slots rose
pub record NoSlotRose (before after : ShelfState) : Type 0 where
  pub model : ¬ Rose (before.slot 0).faults (after.slot 0).faults
  pub telemetry : ¬ Rose (before.slot 1).faults (after.slot 1).faults
  pub report : ¬ Rose (before.slot 2).faults (after.slot 2).faults

-- the telemetry and the report were asked for no name
abbrev pub AsksModelAlone : ShelfState → Type 0
AsksModelAlone shelf = ((shelf.slot 1).asked ≡ None) × ((shelf.slot 2).asked ≡ None)

-- the telemetry is refused, the report does not depart before that, and the refusal was told
abbrev pub RefusesTelemetry : (model telemetry report : List ℕ) → Outside → Outside → Type 0
RefusesTelemetry model telemetry report before after =
    (fault : TelemFault) × OnReport before.shelf model telemetry report (IsRefusedAt fault)
    × Tells (telemetry_refusal_text fault) before.err after.err

-- where so many bytes of the telemetry are left, the line is behind all lines that the report has for the header and the rows that
-- ended before the last piece read and the byte in front of it
abbrev pub IsReadFor : ℕ → (model telemetry report : List ℕ) → ℕ → Type 0
IsReadFor line m t bytes left = IsBehindBegun line bytes (files_begun m (without_last (left + most_piece + 1) t))

-- the report departs first at a line, that was told, and the telemetry was read one piece at most past what the line needs
abbrev pub RefusesReport : (model telemetry report : List ℕ) → Outside → Outside → Type 0
RefusesReport model telemetry report before after =
    (line : ℕ) × OnReport before.shelf model telemetry report (DepartsAtLine line)
    × OnReportLeft before.shelf after.shelf model telemetry report (IsReadFor line)
    × Tells (report_refusal_text line) before.err after.err

-- the report could not be read, which was told
pub record ReportUnread (report : List ℕ) (before after : Outside) : Type 0 where
  pub failed : ReadFailed report (before.shelf.slot 2) (after.shelf.slot 2)
  pub told : Tells (text_of ReadReport) before.err after.err

-- one of the three files could not be read, which was told; where it is the model file, no other was asked for
abbrev pub Unread : (model telemetry report : List ℕ) → Outside → Outside → Type 0
Unread model telemetry report before after =
    (ModelUnread model before after × AsksModelAlone after.shelf)
    ⊎ (TelemetryUnread telemetry before after ⊎ ReportUnread report before after)

-- what the words `check MODEL TELEMETRY REPORT` do. Status 6 is want of memory
pub record Checks (model telemetry report : List ℕ) (before : Outside) (result : ℕ) (after : Outside) : Type 0 where
  pub status : IsCheckStatus result
  pub model_refused : result ≡ 2 → ModelRefused model before after
  pub model_refuses : OnFile before.shelf model (λ m. IsSome (model_refusal m)
      → ¬ Rose (before.shelf.slot 0).faults (after.shelf.slot 0).faults → (result ≡ 2) ⊎ (result ≡ 6))
  pub telemetry_refused : result ≡ 3 → RefusesTelemetry model telemetry report before after
  pub telemetry_refuses : OnReport before.shelf model telemetry report (λ files bytes. IsSome (telemetry_refusal files)
      → Agrees files bytes → NoSlotRose before.shelf after.shelf → (result ≡ 3) ⊎ (result ≡ 6))
  pub report_refused : result ≡ 7 → RefusesReport model telemetry report before after
  pub report_refuses : OnReport before.shelf model telemetry report (λ files bytes. ¬ Agrees files bytes
      → NoSlotRose before.shelf after.shelf → (result ≡ 7) ⊎ (result ≡ 6))
  pub accepted : (result ≡ 0) ⊎ (result ≡ 5) → OnReport before.shelf model telemetry report Accepts
  pub complete : OnReport before.shelf model telemetry report (λ files bytes. Accepts files bytes
      → NoSlotRose before.shelf after.shelf → ¬ Rose before.out.faults after.out.faults → (result ≡ 0) ⊎ (result ≡ 6))
  pub read : result ≡ 4 → Unread model telemetry report before after
  pub write : result ≡ 5 → Rose before.out.faults after.out.faults
  pub at_end : result ≡ 0 → AllRead after.shelf
  pub asked_model : IsAskedAtMost model (after.shelf.slot 0)
  pub asked_telemetry : IsAskedAtMost telemetry (after.shelf.slot 1)
  pub asked_report : IsAskedAtMost report (after.shelf.slot 2)
  pub asked_first : result ≡ 2 → AsksModelAlone after.shelf
  pub model_taken : TakesAtMost (most_model + most_piece) (before.shelf.file model) (after.shelf.slot 0)
  pub put : result ≡ 0 → Gains accepted_text before.out after.out
  pub front : GainsFront accepted_text before.out after.out
  pub nothing : result ≢ 0 → result ≢ 5 → result ≢ 6 → after.out.held ≡ before.out.held

-- no report that a run may put for these files is refused
abbrev pub KeepsOwn : ℕ → Files → List ℕ → Type 0
KeepsOwn result files bytes = (lines : List Line) → IsReportOf files lines → bytes ≡ lines_text lines → result ≢ 7

-- ---- what the lines of an accepted report claim

-- the bytes are the lines of a report of which this holds
abbrev pub AreLinesWith : (List Line → Type 0) → Models → Rows → List ℕ → Type 0
AreLinesWith claim ms rows bytes =
    (lines : List Line) × IsReport any_justified sets_observer (watch_of ms rows) lines
    × (bytes ≡ lines_text lines) × claim lines

-- each of its hulls holds every trajectory of its model
abbrev pub CheckedHulls : Files → List ℕ → Type 0
CheckedHulls (bad_model fault) bytes = ⊥
CheckedHulls (bad_header fault) bytes = ⊥
CheckedHulls (monitored ms rows) bytes =
    AreLinesWith (HullsHold (plant_at (plants_in ms)) rows.samples 0) ms rows bytes

-- each model that it excludes has no trajectory
abbrev pub CheckedExclusions : Files → List ℕ → Type 0
CheckedExclusions (bad_model fault) bytes = ⊥
CheckedExclusions (bad_header fault) bytes = ⊥
CheckedExclusions (monitored ms rows) bytes =
    AreLinesWith (ExclusionsHold (plant_at (plants_in ms)) rows.samples 0) ms rows bytes

-- a reading that misses its printed interval excludes the model at the least such output
abbrev pub CheckedMisses : Files → List ℕ → Type 0
CheckedMisses (bad_model fault) bytes = ⊥
CheckedMisses (bad_header fault) bytes = ⊥
CheckedMisses (monitored ms rows) bytes = AreLinesWith (MissesTold rows.samples 0 None) ms rows bytes
