-- What a run does with files that the shelf tells.
use Rattle.std.specs.Prelude.{◌≡◌, ◌⊎◌, ℕ, ◌+◌, List, Some, None, IsSome}
use Rattle.outside_io.specs.Causes.{Rose}
use Rattle.outside_io.specs.Shelf.{ShelfState}
use Rattle.outside_io.specs.Sink.{SinkState, Gains, GainsFront}
use Rattle.model_file.specs.declared.fault.ModelFault.{ModelFault}
use Rattle.telem_csv.specs.declared.fault.TelemFault.{TelemFault}
use Rattle.model_bank.specs.Bank.{plants_in}
use Rattle.report_text.specs.Line.{Line}
use Rattle.report_rules.specs.Claims.{HullsHold, ExclusionsHold, MissesTold, plant_at}
use Rattle.input_files.specs.Files.{Files, bad_model, bad_header, monitored, model_refusal, telemetry_refusal}
use Rattle.input_files.specs.Told.{OnFile, OnFiles, OnLeft, AreRead, ReadFailed}
use Rattle.input_files.specs.Whole.{IsAskedAtMost, TakesAtMost, most_model, most_piece}
use Rattle.monitor_run.specs.InTime.{IsBegun, GainsLinesAtLeast}
use Rattle.monitor_run.specs.Outcome.{GainsLines, GainsLinesFront}
use Rattle.monitor_run.specs.Reports.{IsReportOf, IsReportOfRows}
use Rattle.zonomon_run.specs.Words.{asked_by, monitor, checks, demonstrates}
use Rattle.zonomon_run.specs.Ending.{Tells, text_of, usage_lines, model_refusal_text, telemetry_refusal_text}
use Rattle.zonomon_run.specs.declared.ending.Ending.TheVariants.{ReadModel, ReadTelemetry}

-- what the program can see and change: its files, its output and its standard error
pub record Outside : Type 0 where
  pub shelf : ShelfState
  pub out : SinkState
  pub err : SinkState

abbrev pub outside : ShelfState → SinkState → SinkState → Outside
outside shelf out err = record { shelf = shelf; out = out; err = err }

-- what the words `run` name
abbrev pub OnRun : List (List ℕ) → (List ℕ → List ℕ → Type 0) → Type 0
OnRun words claim = (model telemetry : List ℕ) → asked_by words ≡ monitor model telemetry → claim model telemetry

-- what the words `check` name
abbrev pub OnCheck : List (List ℕ) → ((model telemetry report : List ℕ) → Type 0) → Type 0
OnCheck words claim = (model telemetry report : List ℕ) → asked_by words ≡ checks model telemetry report
    → claim model telemetry report

-- the words name no report
abbrev pub NamesNoReport : List (List ℕ) → Type 0
NamesNoReport words = OnCheck words (λ model telemetry report. ⊥)

-- a claim on the numbers that the words `demo` give
abbrev pub OnDemo : List (List ℕ) → (ℕ → ℕ → Type 0) → Type 0
OnDemo words claim = (seed samples : ℕ) → asked_by words ≡ demonstrates seed samples → claim seed samples

-- the words name no file
abbrev pub NamesNoFile : List (List ℕ) → Type 0
NamesNoFile words = OnRun words (λ model telemetry. ⊥) × NamesNoReport words

-- a claim on what the files say that the words `run` name, where the shelf tells them
abbrev pub OnNamed : List (List ℕ) → ShelfState → (Files → Type 0) → Type 0
OnNamed words shelf claim = OnRun words (λ model telemetry. OnFiles shelf model telemetry claim)

-- the output gained a report of files that say this
abbrev pub GainsReport : SinkState → SinkState → Files → Type 0
GainsReport before after files = GainsLines (IsReportOf files) before after

-- the output gained a front of a report of files that say this
abbrev pub GainsReportFront : SinkState → SinkState → Files → Type 0
GainsReportFront before after files = GainsLinesFront (IsReportOf files) before after

-- the output gained exactly lines of all that was read of the telemetry, where so many bytes of it are left
abbrev pub GainsAllRead : SinkState → SinkState → (model telemetry : List ℕ) → ℕ → Type 0
GainsAllRead before after m t left = GainsLines (IsBegun m t left) before after

-- the output gained at least lines of what was read before the last piece and the byte in front of it
abbrev pub GainsMostRead : SinkState → SinkState → (model telemetry : List ℕ) → ℕ → Type 0
GainsMostRead before after m t left = GainsLinesAtLeast (IsBegun m t (left + most_piece + 1)) before after

-- no file is refused
abbrev pub IsAccepted : Files → Type 0
IsAccepted (bad_model fault) = ⊥
IsAccepted (bad_header fault) = ⊥
IsAccepted (monitored ms rows) = rows.refusal ≡ None

-- the model file could not be read, which was told; nothing was put, and the telemetry was asked for no name
pub record ModelUnread (model : List ℕ) (before after : Outside) : Type 0 where
  pub failed : ReadFailed model (before.shelf.slot 0) (after.shelf.slot 0)
  pub told : Tells (text_of ReadModel) before.err after.err
  pub nothing : after.out.held ≡ before.out.held
  pub asked_first : (after.shelf.slot 1).asked ≡ None

-- the telemetry could not be read, which was told
pub record TelemetryUnread (telemetry : List ℕ) (before after : Outside) : Type 0 where
  pub failed : ReadFailed telemetry (before.shelf.slot 1) (after.shelf.slot 1)
  pub told : Tells (text_of ReadTelemetry) before.err after.err

-- no count of faults rose, of slots 0 and 1 and of the output
pub record NoneRose (before after : Outside) : Type 0 where
  pub model : ¬ Rose (before.shelf.slot 0).faults (after.shelf.slot 0).faults
  pub telemetry : ¬ Rose (before.shelf.slot 1).faults (after.shelf.slot 1).faults
  pub output : ¬ Rose before.out.faults after.out.faults

-- the statuses of a run
abbrev pub IsRunStatus : ℕ → Type 0
IsRunStatus n = (n ≡ 0) ⊎ ((n ≡ 2) ⊎ ((n ≡ 3) ⊎ ((n ≡ 4) ⊎ ((n ≡ 5) ⊎ (n ≡ 6)))))

-- all statuses
abbrev pub IsStatus : ℕ → Type 0
IsStatus n = IsRunStatus n ⊎ ((n ≡ 1) ⊎ (n ≡ 7))

-- the statuses where one known text is put
abbrev pub IsPutStatus : ℕ → Type 0
IsPutStatus n = (n ≡ 0) ⊎ ((n ≡ 5) ⊎ (n ≡ 6))

-- the model file is refused with a fault, and that was told
abbrev pub ModelRefused : List ℕ → Outside → Outside → Type 0
ModelRefused model before after =
    (fault : ModelFault) × OnFile before.shelf model (λ m. model_refusal m ≡ Some fault)
    × Tells (model_refusal_text fault) before.err after.err

-- the telemetry is refused with a fault, and that was told
abbrev pub TelemetryRefused : (model telemetry : List ℕ) → Outside → Outside → Type 0
TelemetryRefused model telemetry before after =
    (fault : TelemFault) × OnFiles before.shelf model telemetry (λ f. telemetry_refusal f ≡ Some fault)
    × Tells (telemetry_refusal_text fault) before.err after.err

-- what the words `run MODEL TELEMETRY` do. Status 6 is want of memory
pub record Monitors (model telemetry : List ℕ) (before : Outside) (result : ℕ) (after : Outside) : Type 0 where
  pub status : IsRunStatus result
  pub model_refused : result ≡ 2 → ModelRefused model before after
  pub model_refuses : OnFile before.shelf model (λ m. IsSome (model_refusal m)
      → ¬ Rose (before.shelf.slot 0).faults (after.shelf.slot 0).faults → (result ≡ 2) ⊎ (result ≡ 6))
  pub telemetry_refused : result ≡ 3 → TelemetryRefused model telemetry before after
  pub telemetry_refuses : OnFiles before.shelf model telemetry (λ f. IsSome (telemetry_refusal f)
      → NoneRose before after → (result ≡ 3) ⊎ (result ≡ 6))
  pub read : result ≡ 4 → ModelUnread model before after ⊎ TelemetryUnread telemetry before after
  pub write : result ≡ 5 → Rose before.out.faults after.out.faults
  pub complete : OnFiles before.shelf model telemetry (λ f. IsAccepted f → NoneRose before after → (result ≡ 0) ⊎ (result ≡ 6))
  pub at_end : result ≡ 0 → AreRead after.shelf
  pub asked_model : IsAskedAtMost model (after.shelf.slot 0)
  pub asked_telemetry : IsAskedAtMost telemetry (after.shelf.slot 1)
  pub asked_first : result ≡ 2 → (after.shelf.slot 1).asked ≡ None
  pub asked_no_third : (after.shelf.slot 2).asked ≡ None
  pub accepted : result ≡ 0 → OnFiles before.shelf model telemetry IsAccepted
  pub report : (result ≡ 0) ⊎ (result ≡ 3) → OnFiles before.shelf model telemetry (GainsReport before.out after.out)
  pub front : OnFiles before.shelf model telemetry (GainsReportFront before.out after.out)
  pub in_time_read : result ≡ 4 → OnLeft before.shelf after.shelf model telemetry (GainsAllRead before.out after.out)
  pub in_time_write : result ≡ 5 → OnLeft before.shelf after.shelf model telemetry (GainsMostRead before.out after.out)
  pub model_taken : TakesAtMost (most_model + most_piece) (before.shelf.file model) (after.shelf.slot 0)
  pub nothing : result ≡ 2 → after.out.held ≡ before.out.held

-- a text was put, or a front of it with a cause
pub record PutsText (text : List ℕ) (before : SinkState) (result : ℕ) (after : SinkState) : Type 0 where
  pub status : IsPutStatus result
  pub whole : result ≡ 0 → Gains text before after
  pub front : GainsFront text before after
  pub write : result ≡ 5 → Rose before.faults after.faults
  pub memory : result ≡ 6 → Rose before.wants after.wants

-- what the word `help` does
abbrev pub Helps : SinkState → ℕ → SinkState → Type 0
Helps before result after = PutsText usage_lines before result after

-- ---- what the lines claim that a run may put

-- each hull holds every trajectory of its model
abbrev pub TrueHulls : Files → Type 0
TrueHulls (bad_model fault) = Unit
TrueHulls (bad_header fault) = Unit
TrueHulls (monitored ms rows) = (lines : List Line) → IsReportOfRows ms rows lines → HullsHold (plant_at (plants_in ms)) rows.samples 0 lines

-- each model that is excluded has no trajectory
abbrev pub TrueExclusions : Files → Type 0
TrueExclusions (bad_model fault) = Unit
TrueExclusions (bad_header fault) = Unit
TrueExclusions (monitored ms rows) = (lines : List Line) → IsReportOfRows ms rows lines → ExclusionsHold (plant_at (plants_in ms)) rows.samples 0 lines

-- a reading that misses its printed interval excludes the model at the least such output
abbrev pub TrueMisses : Files → Type 0
TrueMisses (bad_model fault) = Unit
TrueMisses (bad_header fault) = Unit
TrueMisses (monitored ms rows) = (lines : List Line) → IsReportOfRows ms rows lines → MissesTold rows.samples 0 None lines
