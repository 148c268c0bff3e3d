-- What the result of a check says of its files.
use Rattle.std.specs.Prelude.{◌≡◌, ◌≢◌, ◌⊎◌, ℕ, List, length, Some, None, Result, Ok, Err}
use Rattle.std.specs.Io.KnownBytes.{IsAtEnd}
use Rattle.outside_io.specs.Shelf.{ShelfState}
use Rattle.model_file.specs.Bank.{Models}
use Rattle.telem_csv.specs.Rows.{Rows}
use Rattle.report_rules.specs.Replay.{Satisfies, DepartsAt}
use Rattle.monitor_run.specs.Reports.{watch_of}
use Rattle.input_files.specs.Files.{Files, bad_model, bad_header, monitored, model_refusal, telemetry_refusal}
use Rattle.input_files.specs.Told.{OnFile, OnFiles, ReadFailed}
use Rattle.input_files.specs.Whole.{IsAskedAtMost}
use Rattle.cert_replay.specs.declared.fault.Accepted.{Accepted}
use Rattle.cert_replay.specs.declared.fault.CheckFault.{CheckFault}
use Rattle.cert_replay.specs.declared.fault.CheckFault.TheVariants.{Model, Telemetry, Read, Report, Memory}

-- a claim on what the model file and the telemetry say, and on the bytes of the report, where the shelf tells them
abbrev pub OnReport : ShelfState → (model telemetry report : List ℕ) → (Files → List ℕ → Type 0) → Type 0
OnReport shelf model telemetry report claim =
    OnFile shelf report (λ bytes. OnFiles shelf model telemetry (λ files. claim files bytes))

-- what a result says of the bytes of the model file
abbrev pub SaysOfModel : Result Accepted CheckFault → List ℕ → Type 0
SaysOfModel (Ok accepted) m = model_refusal m ≡ None
SaysOfModel (Err (Model fault)) m = model_refusal m ≡ Some fault
SaysOfModel (Err (Telemetry fault)) m = model_refusal m ≡ None
SaysOfModel (Err (Read slot)) m = slot ≢ 0 → model_refusal m ≡ None
SaysOfModel (Err (Report line)) m = model_refusal m ≡ None
SaysOfModel (Err Memory) m = Unit

-- all rows are samples, and the bytes are a report of the models over them
pub record IsAccepted (ms : Models) (rows : Rows) (samples : ℕ) (bytes : List ℕ) : Type 0 where
  pub no_refusal : rows.refusal ≡ None
  pub as_many : samples ≡ length rows.samples
  pub satisfies : Satisfies (watch_of ms rows) bytes

-- what a result says of the rows of the telemetry, and of the bytes of the report
abbrev pub SaysOfRows : Result Accepted CheckFault → Models → Rows → List ℕ → Type 0
SaysOfRows (Ok accepted) ms rows bytes = IsAccepted ms rows accepted.samples bytes
SaysOfRows (Err (Model fault)) ms rows bytes = Unit
SaysOfRows (Err (Telemetry fault)) ms rows bytes = (rows.refusal ≡ Some fault) × Satisfies (watch_of ms rows) bytes
SaysOfRows (Err (Read slot)) ms rows bytes = Unit
SaysOfRows (Err (Report line)) ms rows bytes = DepartsAt (watch_of ms rows) line bytes
SaysOfRows (Err Memory) ms rows bytes = Unit

-- what a result says where the header is refused
abbrev pub SaysOfHeader : Result Accepted CheckFault → Files → Type 0
SaysOfHeader (Ok accepted) files = ⊥
SaysOfHeader (Err (Model fault)) files = Unit
SaysOfHeader (Err (Telemetry fault)) files = telemetry_refusal files ≡ Some fault
SaysOfHeader (Err (Read slot)) files = Unit
SaysOfHeader (Err (Report line)) files = ⊥
SaysOfHeader (Err Memory) files = Unit

-- what a result says where the model file is refused
abbrev pub EndsAtModel : Result Accepted CheckFault → Type 0
EndsAtModel (Ok accepted) = ⊥
EndsAtModel (Err (Model fault)) = Unit
EndsAtModel (Err (Telemetry fault)) = ⊥
EndsAtModel (Err (Read slot)) = Unit
EndsAtModel (Err (Report line)) = ⊥
EndsAtModel (Err Memory) = Unit

-- what a result says of all three files: exactly the reports are accepted, and the line that is refused is the first that departs
abbrev pub SaysOfReport : Result Accepted CheckFault → Files → List ℕ → Type 0
SaysOfReport result (bad_model fault) bytes = EndsAtModel result
SaysOfReport result (bad_header fault) bytes = SaysOfHeader result (bad_header fault)
SaysOfReport result (monitored ms rows) bytes = SaysOfRows result ms rows bytes

-- where the model file is refused or can't be read, no other file was asked for
abbrev pub AsksModelFirst : Result Accepted CheckFault → ShelfState → Type 0
AsksModelFirst (Ok accepted) shelf = Unit
AsksModelFirst (Err (Model fault)) shelf = ((shelf.slot 1).asked ≡ None) × ((shelf.slot 2).asked ≡ None)
AsksModelFirst (Err (Telemetry fault)) shelf = Unit
AsksModelFirst (Err (Read slot)) shelf = slot ≡ 0 → ((shelf.slot 1).asked ≡ None) × ((shelf.slot 2).asked ≡ None)
AsksModelFirst (Err (Report line)) shelf = Unit
AsksModelFirst (Err Memory) shelf = Unit

-- each slot was asked for its own name at most, slot 0 first
pub record AsksInOrder (model telemetry report : List ℕ) (result : Result Accepted CheckFault) (shelf : ShelfState) : Type 0 where
  pub first : AsksModelFirst result shelf
  pub asked_model : IsAskedAtMost model (shelf.slot 0)
  pub asked_telemetry : IsAskedAtMost telemetry (shelf.slot 1)
  pub asked_report : IsAskedAtMost report (shelf.slot 2)

-- a claim on the slot that could not be read
abbrev pub IfRead : {A : Type 0} → Result A CheckFault → (ℕ → Type 0) → Type 0
IfRead result claim = (slot : ℕ) → result ≡ Err (Read slot) → claim slot

-- the reading of the model file failed, or that of the telemetry, or of the report
abbrev pub ReadsFailed : (model telemetry report : List ℕ) → (before after : ShelfState) → ℕ → Type 0
ReadsFailed model telemetry report before after slot =
    ((slot ≡ 0) × ReadFailed model (before.slot 0) (after.slot 0))
    ⊎ (((slot ≡ 1) × ReadFailed telemetry (before.slot 1) (after.slot 1)) ⊎ ((slot ≡ 2) × ReadFailed report (before.slot 2) (after.slot 2)))

-- all three files were read to their end
pub record AllRead (shelf : ShelfState) : Type 0 where
  pub model : IsAtEnd (shelf.slot 0).rest
  pub telemetry : IsAtEnd (shelf.slot 1).rest
  pub report : IsAtEnd (shelf.slot 2).rest
