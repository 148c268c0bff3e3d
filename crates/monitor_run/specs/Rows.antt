-- The rows of a telemetry, and what a run over them says and puts.
use Rattle.std.specs.Prelude.{◌≡◌, ℕ, ◌<◌, ◌≤◌, true, List, [], ◌++◌, length, replicate, Some, None, is_none, Result, Ok, Err, IfErr, OnOk, OnErr}
use Rattle.std.specs.Io.KnownBytes.{IsAtEnd}
use Rattle.plant_model.specs.Plant.{Plant, Sample}
use Rattle.telem_csv.specs.Rows.{Rows}
use Rattle.observer_step.specs.Answers.{as_run_chooses}
use Rattle.observer_step.specs.SetsAnswers.{sets_observer}
use Rattle.outside_io.specs.Causes.{Rose}
use Rattle.outside_io.specs.Shelf.{ShelfState}
use Rattle.outside_io.specs.Sink.{SinkState, Gains, GainsFront}
use Rattle.outside_io.specs.declared.sink.PutFault.{PutFault}
use Rattle.outside_io.specs.declared.sink.PutFault.TheVariants as put
use Rattle.report_text.specs.Line.{Line, lines_text}
use Rattle.report_rules.specs.Lines.{last_lines}
use Rattle.report_rules.specs.Report.{Choice, samples_lines, lives_before}
use Rattle.model_bank.specs.Answers.{all_allowed}
use Rattle.model_bank.specs.Bank.{Bank, BankStands}
use Rattle.monitor_run.specs.declared.done.Done.{Done}
use Rattle.monitor_run.specs.declared.done.RunFault.{RunFault}
use Rattle.monitor_run.specs.declared.done.RunFault.TheVariants.{Model, Telemetry, Read, Write, Memory}
use Rattle.monitor_run.specs.Outcome.{IfRead, HasWriteCause}
use Rattle.input_files.specs.declared.stream.StreamFault.{StreamFault}
use Rattle.input_files.specs.declared.stream.StreamFault.TheVariants as stream
use Rattle.input_files.specs.declared.model.ModelEnding.{ModelEnding}
use Rattle.input_files.specs.declared.model.ModelEnding.TheVariants as models

-- what is said of each model at each of the samples is what `run` may choose
abbrev pub IsChoice : List Plant → List Sample → Choice → Type 0
IsChoice ps samples c =
    (k : ℕ) → k < length samples → all_allowed as_run_chooses sets_observer ps (lives_before c (length ps) k) (c k) samples k ≡ true

-- the lines of the samples with what is chosen
abbrev pub chosen_lines : List Plant → List Sample → Choice → List Line
chosen_lines ps samples c = samples_lines sets_observer ps samples c (length samples)

-- the lines of a report behind its head
abbrev pub rows_lines : List Plant → Rows → Choice → List Line
rows_lines ps rows c = chosen_lines ps rows.samples c ++ last_lines (length rows.samples) (is_none rows.refusal)

-- lines of a report behind its head that `run` may put
abbrev pub AreRows : List Plant → Rows → List Line → Type 0
AreRows ps rows lines = (c : Choice) × IsChoice ps rows.samples c × (lines ≡ rows_lines ps rows c)

-- a bank of these plants before the first sample
abbrev pub StandsNew : List Plant → Bank → Type 0
StandsNew ps bank = BankStands ps [] (replicate (length ps) true) bank

-- a bank of these plants stands for the samples, and for the models that are not excluded by what is chosen
abbrev pub StandsChosen : List Plant → List Sample → Choice → Bank → Type 0
StandsChosen ps samples c bank = BankStands ps samples (lives_before c (length ps) (length samples)) bank

-- the samples taken, and then those of the rows to come
abbrev pub behind : List Sample → Rows → Rows
behind taken rows = record { samples = taken ++ rows.samples; refusal = rows.refusal }

-- what a result says of the rows of the telemetry
abbrev pub SaysOfRows : Result Done RunFault → Rows → Type 0
SaysOfRows (Ok done) rows = (rows.refusal ≡ None) × (done.samples ≡ length rows.samples)
SaysOfRows (Err (Model fault)) rows = Unit
SaysOfRows (Err (Telemetry fault)) rows = rows.refusal ≡ Some fault
SaysOfRows (Err (Read slot)) rows = Unit
SaysOfRows (Err Write) rows = Unit
SaysOfRows (Err Memory) rows = Unit

-- an ending of reading the telemetry or of putting the report
abbrev pub ReadsRows : RunFault → Type 0
ReadsRows (Model fault) = ⊥
ReadsRows (Telemetry fault) = Unit
ReadsRows (Read slot) = slot ≡ 1
ReadsRows Write = Unit
ReadsRows Memory = Unit

-- why a run over the telemetry ended: the count of what failed rose, or slot 1 came to its end
pub record EndsRun (shelf shelf' : ShelfState) (out : SinkState) (result : Result Done RunFault) (out' : SinkState) : Type 0 where
  pub faults : IfErr result ReadsRows
  pub read : IfRead result (λ slot. Rose (shelf.slot 1).faults (shelf'.slot 1).faults)
  pub write : HasWriteCause out result out'
  pub at_end : OnOk result (IsAtEnd (shelf'.slot 1).rest)

-- an ending of putting the report
abbrev pub IsPutEnding : RunFault → Type 0
IsPutEnding (Model fault) = ⊥
IsPutEnding (Telemetry fault) = ⊥
IsPutEnding (Read slot) = ⊥
IsPutEnding Write = Unit
IsPutEnding Memory = Unit

-- the last lines of a report were put, or a front of them with a cause
pub record PutsLast (lines : List Line) (before : SinkState) (result : Result Done RunFault) (after : SinkState) : Type 0 where
  pub whole : OnOk result (Gains (lines_text lines) before after)
  pub front : OnErr result (GainsFront (lines_text lines) before after)
  pub faults : IfErr result IsPutEnding
  pub write : HasWriteCause before result after
  pub later : before.faults ≤ after.faults

-- how a run ends where the telemetry gave no line
abbrev pub ending_of : StreamFault → RunFault
ending_of (stream.Refused fault) = Telemetry fault
ending_of stream.Read = Read 1
ending_of stream.Memory = Memory

-- how a run ends where the model file gave no models
abbrev pub model_ending : ModelEnding → RunFault
model_ending (models.Refused fault) = Model fault
model_ending models.Read = Read 0
model_ending models.Memory = Memory

-- how a run ends where the output took no more
abbrev pub put_ending : PutFault → RunFault
put_ending put.Failed = Write
put_ending put.Memory = Memory
