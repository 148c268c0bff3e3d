-- What a check says of its files.
use Rattle.std.proofs.Common.{◌≡◌, ℕ, List, [], ◌++◌, Option, Some, None, IfSome, Result, Ok, Err, IfErr, refl, sym, subst}
use Rattle.model_file.specs.Bank.{Models}
use Rattle.model_file.specs.ModelFile.{models_of}
use Rattle.model_bank.specs.Bank.{plants_in, names_in}
use Rattle.telem_csv.specs.Rows.{Rows}
use Rattle.telem_csv.specs.declared.fault.TelemFault.{TelemFault}
use Rattle.input_files.specs.Files.{Files, bad_model, bad_header, monitored, with_models, files_with, files_of, model_refusal, most_telemetry}
use Rattle.input_files.specs.Judged.{JudgesModel}
use Rattle.input_files.specs.declared.model.ModelEnding.{ModelEnding}
use Rattle.input_files.specs.declared.model.ModelEnding.TheVariants as models
use Rattle.input_files.specs.declared.stream.StreamFault.{StreamFault}
use Rattle.input_files.specs.declared.stream.StreamFault.TheVariants as stream
use Rattle.input_files.proofs.Models.{accepted-is}
use Rattle.cert_replay.specs.Outcome.{SaysOfModel, SaysOfRows, SaysOfReport}
use Rattle.cert_replay.specs.Ends.{AreNamed, SaysOfChecked, IsRowsEnding}
use Rattle.outside_io.specs.declared.shelf.GetFault.{GetFault}
use Rattle.outside_io.specs.declared.shelf.GetFault.TheVariants as get
use Rattle.telem_csv.specs.Cutter.{at_start, telemetry_owed}
use Rattle.telem_csv.specs.Telemetry.{no_header}
use Rattle.monitor_run.proofs.Opened.{of-some, with-refusal}
use Rattle.input_files.specs.Stream.{BothTold, stream_fault}
use Rattle.cert_replay.specs.Faults.{model_fault, telemetry_fault, report_fault}
use Rattle.cert_replay.specs.declared.fault.Accepted.{Accepted}
use Rattle.cert_replay.specs.declared.fault.CheckFault.{CheckFault}
use Rattle.cert_replay.specs.declared.fault.CheckFault.TheVariants.{Model, Telemetry, Read, Report, Memory}
use Rattle.cert_replay.proofs.Named.{are-named}

-- a claim on a file, from its bytes where they are told
pub where-told : (file : Option (List ℕ)) (P : List ℕ → Type 0) → ((bytes : List ℕ) → file ≡ Some bytes → P bytes) → IfSome file P
where-told None P f = tt
where-told (Some bytes) P f = f bytes refl

-- what is said of the rows is said of the files
pub rows-said : (r : Result Accepted CheckFault) (ms : Models) (rows : Rows) (bytes : List ℕ) → SaysOfChecked (names_in ms) (plants_in ms) r rows bytes → SaysOfRows r ms rows bytes
rows-said (Ok accepted) ms rows bytes h = record { no_refusal = h.0; as_many = h.1; satisfies = h.2 }
rows-said (Err (Model fault)) ms rows bytes h = tt
rows-said (Err (Telemetry fault)) ms rows bytes h = h
rows-said (Err (Read slot)) ms rows bytes h = tt
rows-said (Err (Report line)) ms rows bytes h = h
rows-said (Err Memory) ms rows bytes h = tt

-- a fault of reading and want of memory say nothing
pub read-said : (slot : ℕ) (files : Files) (bytes : List ℕ) → SaysOfReport (Err (Read slot)) files bytes
read-said slot (bad_model fault) bytes = tt
read-said slot (bad_header fault) bytes = tt
read-said slot (monitored ms rows) bytes = tt

pub memory-said : (files : Files) (bytes : List ℕ) → SaysOfReport (Err Memory) files bytes
memory-said (bad_model fault) bytes = tt
memory-said (bad_header fault) bytes = tt
memory-said (monitored ms rows) bytes = tt

-- what holds of the models of the model file, which are named, holds of its bytes
pub with-named : (ms : Models) (model telemetry report : Option (List ℕ)) → IfSome model (λ m. models_of m ≡ Ok ms) → (P : Files → List ℕ → Type 0)
    → (AreNamed (names_in ms) → IfSome report (λ bytes. IfSome telemetry (λ t. P (files_with ms t) bytes)))
    → IfSome report (λ bytes. IfSome model (λ m. IfSome telemetry (λ t. P (files_of m t) bytes)))
unfolding files_of
with-named ms model telemetry None read P h = tt
with-named ms None telemetry (Some bytes) read P h = tt
with-named ms (Some m) None (Some bytes) read P h = tt
with-named ms (Some m) (Some t) (Some bytes) read P h = subst (λ r. P (with_models r t) bytes) (sym read) (h (are-named m ms read))

-- the model file was accepted where the check went on
pub accepted-said : (ms : Models) (model : Option (List ℕ)) → IfSome model (λ m. models_of m ≡ Ok ms) → (r : Result Accepted CheckFault) → IfErr r IsRowsEnding → IfSome model (SaysOfModel r)
unfolding model_refusal
accepted-said ms None read r ends = tt
accepted-said ms (Some m) read r ends = by r ends (accepted-is ms m read)
  where
    by : (r : Result Accepted CheckFault) → IfErr r IsRowsEnding → model_refusal m ≡ None → SaysOfModel r m
    by (Ok accepted) ends e = e
    by (Err (Model fault)) ends e = absurd ends
    by (Err (Telemetry fault)) ends e = e
    by (Err (Read slot)) ends e = λ not. e
    by (Err (Report line)) ends e = e
    by (Err Memory) ends e = tt

-- where the model file gave no models
pub model-said : (f : ModelEnding) (model : Option (List ℕ)) → IfSome model (JudgesModel f) → IfSome model (SaysOfModel (Err (model_fault f)))
model-said f None h = tt
model-said (models.Refused fault) (Some m) h = h
model-said models.Read (Some m) h = λ not. absurd (not refl)
model-said models.Memory (Some m) h = tt

pub model-ends : (f : ModelEnding) (model telemetry report : Option (List ℕ)) → IfSome model (JudgesModel f)
    → IfSome report (λ bytes. IfSome model (λ m. IfSome telemetry (λ t. SaysOfReport (Err (model_fault f)) (files_of m t) bytes)))
model-ends f model telemetry None h = tt
model-ends f None telemetry (Some bytes) h = tt
model-ends f (Some m) None (Some bytes) h = tt
model-ends (models.Refused fault) (Some m) (Some t) (Some bytes) h = by (files_of m t)
  where
    by : (files : Files) → SaysOfReport (Err (Model fault)) files bytes
    by (bad_model x) = tt
    by (bad_header x) = tt
    by (monitored ms rows) = tt
model-ends models.Read (Some m) (Some t) (Some bytes) h = read-said 0 (files_of m t) bytes
model-ends models.Memory (Some m) (Some t) (Some bytes) h = memory-said (files_of m t) bytes

-- where the report or the telemetry could not be opened
pub report-said : (f : GetFault) (files : Files) (bytes : List ℕ) → SaysOfReport (Err (report_fault f)) files bytes
report-said get.Failed files bytes = read-said 2 files bytes
report-said get.Memory files bytes = memory-said files bytes

pub opened-said : (f : GetFault) (files : Files) (bytes : List ℕ) → SaysOfReport (Err (telemetry_fault (stream_fault f))) files bytes
opened-said get.Failed files bytes = read-said 1 files bytes
opened-said get.Memory files bytes = memory-said files bytes

-- the telemetry from its first byte, where no header came
pub no-header-said : (ms : Models) (f : StreamFault) (file rest rest' : Option (List ℕ)) → rest ≡ file
    → ((fault : TelemFault) → f ≡ stream.Refused fault → BothTold rest rest' (λ r r'. telemetry_owed ms.inputs ms.outputs (at_start most_telemetry) ([] ++ r) ≡ no_header fault))
    → (bytes : List ℕ) → IfSome file (λ t. SaysOfReport (Err (telemetry_fault f)) (files_with ms t) bytes)
no-header-said ms (stream.Refused fault) file rest rest' opened refused bytes =
    with-refusal ms (λ files. SaysOfReport (Err (Telemetry fault)) files bytes) file rest rest' opened fault (refused fault refl) refl
no-header-said ms stream.Read file rest rest' opened refused bytes = of-some file _ (λ t. read-said 1 (files_with ms t) bytes)
no-header-said ms stream.Memory file rest rest' opened refused bytes = of-some file _ (λ t. memory-said (files_with ms t) bytes)
