-- What the bytes of a model file and of a telemetry say.
use Rattle.std.specs.Prelude.{◌≡◌, ℕ, List, length, Option, Some, None, Result, Ok, Err}
use Rattle.model_file.specs.Bank.{Models}
use Rattle.model_file.specs.ModelFile.{models_of}
use Rattle.model_file.specs.declared.fault.ModelFault.{ModelFault}
use Rattle.telem_csv.specs.Rows.{Rows}
use Rattle.telem_csv.specs.Telemetry.{Telemetry, no_header, has_header, telemetry}
use Rattle.telem_csv.specs.declared.fault.TelemFault.{TelemFault}

-- the most bytes of a telemetry
abbrev pub most_telemetry : ℕ
most_telemetry = 1_073_741_824

-- the model file is refused, or the header of the telemetry is; or the models, and the rows of the telemetry
pub data Files : Type 0 where
  bad_model : ModelFault → Files
  bad_header : TelemFault → Files
  monitored : Models → Rows → Files

abbrev pub with_telemetry : Models → Telemetry → Files
with_telemetry ms (no_header fault) = bad_header fault
with_telemetry ms (has_header rows) = monitored ms rows

-- what a telemetry says under these models
abbrev pub files_with : Models → List ℕ → Files
files_with ms t = with_telemetry ms (telemetry most_telemetry ms.inputs ms.outputs t)

abbrev pub with_models : Result Models ModelFault → List ℕ → Files
with_models (Ok ms) t = files_with ms t
with_models (Err fault) t = bad_model fault

-- what the bytes of a model file and of a telemetry say
unfoldable pub files_of : List ℕ → List ℕ → Files
files_of m t = with_models (models_of m) t

abbrev pub refused : {A E : Type 0} → Result A E → Option E
refused (Ok x) = None
refused (Err e) = Some e

-- why the bytes of a model file are refused
unfoldable pub model_refusal : List ℕ → Option ModelFault
model_refusal m = refused (models_of m)

-- why the telemetry is refused: for its header, or for one of its rows
abbrev pub telemetry_refusal : Files → Option TelemFault
telemetry_refusal (bad_model fault) = None
telemetry_refusal (bad_header fault) = Some fault
telemetry_refusal (monitored ms rows) = rows.refusal

-- no file is refused, and the telemetry has so many samples
abbrev pub RunsThrough : Files → ℕ → Type 0
RunsThrough (bad_model fault) n = ⊥
RunsThrough (bad_header fault) n = ⊥
RunsThrough (monitored ms rows) n = (rows.refusal ≡ None) × (n ≡ length rows.samples)
