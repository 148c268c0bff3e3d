-- How the program ends: its status, and what it puts to standard error.
use Rattle.std.specs.Prelude.{◌≡◌, ℕ, List, [], ◌∷◌, ◌++◌, codes}
use Rattle.outside_io.specs.Causes.{Rose}
use Rattle.outside_io.specs.Sink.{SinkState, Gains, GainsFront}
use Rattle.model_file.specs.declared.fault.ModelFault.{ModelFault}
use Rattle.telem_csv.specs.declared.fault.TelemFault.{TelemFault}
use Rattle.refusal_text.specs.Model.{model_refusal}
use Rattle.refusal_text.specs.Telemetry.{telemetry_refusal}
use Rattle.refusal_text.specs.Report.{report_refusal}
use Rattle.input_files.specs.Files.{most_telemetry}
use Rattle.zonomon_run.specs.declared.ending.Ending.{Ending}
use Rattle.zonomon_run.specs.declared.ending.Ending.TheVariants.{Usage, Model, Telemetry, ReadModel, ReadTelemetry, ReadReport, Write, Memory, Report}

abbrev pub status_of : Ending → ℕ
status_of Usage = 1
status_of (Model fault) = 2
status_of (Telemetry fault) = 3
status_of ReadModel = 4
status_of ReadTelemetry = 4
status_of ReadReport = 4
status_of Write = 5
status_of Memory = 6
status_of (Report line) = 7

-- a text with its line feed
abbrev pub ended : List ℕ → List ℕ
ended text = text ++ 10 ∷ []

abbrev pub usage_lines : List ℕ
usage_lines = ended (codes "usage: zonomon run MODEL TELEMETRY") ++ ended (codes "       zonomon check MODEL TELEMETRY REPORT")
    ++ ended (codes "       zonomon demo SEED SAMPLES") ++ ended (codes "       zonomon help")

-- why a model file is refused, as a line
abbrev pub model_refusal_text : ModelFault → List ℕ
model_refusal_text fault = ended (model_refusal fault)

-- why a telemetry is refused, as a line
abbrev pub telemetry_refusal_text : TelemFault → List ℕ
telemetry_refusal_text fault = ended (telemetry_refusal most_telemetry fault)

-- at which line a report is refused, as a line
abbrev pub report_refusal_text : ℕ → List ℕ
report_refusal_text line = ended (report_refusal line)

-- that a report is accepted, as a line
abbrev pub accepted_text : List ℕ
accepted_text = ended (codes "accepted")

abbrev pub text_of : Ending → List ℕ
text_of Usage = usage_lines
text_of (Model fault) = model_refusal_text fault
text_of (Telemetry fault) = telemetry_refusal_text fault
text_of ReadModel = ended (codes "read fault: model")
text_of ReadTelemetry = ended (codes "read fault: telemetry")
text_of ReadReport = ended (codes "read fault: report")
text_of Write = ended (codes "write fault")
text_of Memory = ended (codes "out of memory")
text_of (Report line) = report_refusal_text line

-- a sink got the text, or where it had a fault or wanted memory, a front of it
pub record Tells (text : List ℕ) (before after : SinkState) : Type 0 where
  pub front : GainsFront text before after
  pub whole : ¬ Rose before.faults after.faults → ¬ Rose before.wants after.wants → Gains text before after

-- a sink was told an ending of this status
abbrev pub TellsEnding : ℕ → SinkState → SinkState → Type 0
TellsEnding status before after = (ending : Ending) × (status ≡ status_of ending) × Tells (text_of ending) before after
