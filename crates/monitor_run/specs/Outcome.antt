-- What the result of a run says of its files, and what it has put.
use Rattle.std.specs.Prelude.{◌≡◌, ◌≢◌, ◌⊎◌, ℕ, List, Option, Some, None, Result, Ok, Err}
use Rattle.outside_io.specs.Causes.{Rose}
use Rattle.outside_io.specs.Shelf.{ShelfState}
use Rattle.outside_io.specs.Sink.{SinkState, Gains, GainsFront}
use Rattle.report_text.specs.Line.{Line, lines_text}
use Rattle.monitor_run.specs.declared.done.Done.{Done}
use Rattle.monitor_run.specs.declared.done.RunFault.{RunFault}
use Rattle.monitor_run.specs.declared.done.RunFault.TheVariants.{Model, Telemetry, Read, Write, Memory}
use Rattle.input_files.specs.Files.{Files, model_refusal, telemetry_refusal, RunsThrough}
use Rattle.input_files.specs.Told.{ReadFailed}
use Rattle.input_files.specs.Whole.{IsAskedAtMost}

-- what a result says of the bytes of the model file
abbrev pub SaysOfModel : Result Done RunFault → List ℕ → Type 0
SaysOfModel (Ok done) m = model_refusal m ≡ None
SaysOfModel (Err (Model fault)) m = model_refusal m ≡ Some fault
SaysOfModel (Err (Telemetry fault)) m = model_refusal m ≡ None
SaysOfModel (Err (Read slot)) m = slot ≢ 0 → model_refusal m ≡ None
SaysOfModel (Err Write) m = model_refusal m ≡ None
SaysOfModel (Err Memory) m = Unit

-- what a result says of both files
abbrev pub SaysOfFiles : Result Done RunFault → Files → Type 0
SaysOfFiles (Ok done) f = RunsThrough f done.samples
SaysOfFiles (Err (Model fault)) f = Unit
SaysOfFiles (Err (Telemetry fault)) f = telemetry_refusal f ≡ Some fault
SaysOfFiles (Err (Read slot)) f = Unit
SaysOfFiles (Err Write) f = Unit
SaysOfFiles (Err Memory) f = Unit

-- the output gains some lines that are such
abbrev pub GainsLines : (List Line → Type 0) → SinkState → SinkState → Type 0
GainsLines are before after = (lines : List Line) × are lines × Gains (lines_text lines) before after

-- it gains a front of some lines that are such
abbrev pub GainsLinesFront : (List Line → Type 0) → SinkState → SinkState → Type 0
GainsLinesFront are before after = (lines : List Line) × are lines × GainsFront (lines_text lines) before after

-- the output gains lines that are such; where the run was cut short, a front of some
abbrev pub PutsReport : (List Line → Type 0) → SinkState → Result Done RunFault → SinkState → Type 0
PutsReport are before (Ok done) after = GainsLines are before after
PutsReport are before (Err (Model fault)) after = after.held ≡ before.held
PutsReport are before (Err (Telemetry fault)) after = GainsLines are before after
PutsReport are before (Err (Read slot)) after = GainsLinesFront are before after
PutsReport are before (Err Write) after = GainsLinesFront are before after
PutsReport are before (Err Memory) after = GainsLinesFront are before after

-- a run that ended at the model file has put nothing, whatever the files are
abbrev pub PutsNothing : SinkState → Result Done RunFault → SinkState → Type 0
PutsNothing before (Ok done) after = Unit
PutsNothing before (Err (Model fault)) after = after.held ≡ before.held
PutsNothing before (Err (Telemetry fault)) after = Unit
PutsNothing before (Err (Read slot)) after = slot ≡ 0 → after.held ≡ before.held
PutsNothing before (Err Write) after = Unit
PutsNothing before (Err Memory) after = Unit

-- where the model file is refused or can't be read, the telemetry was asked for no name
abbrev pub AsksModelFirst : Result Done RunFault → Option (List ℕ) → Type 0
AsksModelFirst (Ok done) asked = Unit
AsksModelFirst (Err (Model fault)) asked = asked ≡ None
AsksModelFirst (Err (Telemetry fault)) asked = Unit
AsksModelFirst (Err (Read slot)) asked = slot ≡ 0 → asked ≡ None
AsksModelFirst (Err Write) asked = Unit
AsksModelFirst (Err Memory) asked = Unit

-- each of slots 0 and 1 was asked for its own name at most, slot 0 first, and slot 2 for none
pub record AsksInOrder (model telemetry : List ℕ) (result : Result Done RunFault) (shelf : ShelfState) : Type 0 where
  pub first : AsksModelFirst result (shelf.slot 1).asked
  pub asked_model : IsAskedAtMost model (shelf.slot 0)
  pub asked_telemetry : IsAskedAtMost telemetry (shelf.slot 1)
  pub no_third : (shelf.slot 2).asked ≡ None

-- a claim on the slot that could not be read
abbrev pub IfRead : {A : Type 0} → Result A RunFault → (ℕ → Type 0) → Type 0
IfRead result claim = (slot : ℕ) → result ≡ Err (Read slot) → claim slot

-- the reading of the model file failed, or that of the telemetry
abbrev pub ReadsFailed : (model telemetry : List ℕ) → (before after : ShelfState) → ℕ → Type 0
ReadsFailed model telemetry before after slot =
    ((slot ≡ 0) × ReadFailed model (before.slot 0) (after.slot 0)) ⊎ ((slot ≡ 1) × ReadFailed telemetry (before.slot 1) (after.slot 1))

-- where the output could not be written, its count of faults rose
abbrev pub HasWriteCause : {A : Type 0} → SinkState → Result A RunFault → SinkState → Type 0
HasWriteCause before result after = result ≡ Err Write → Rose before.faults after.faults
