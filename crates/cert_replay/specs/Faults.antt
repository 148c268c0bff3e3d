-- How a check ends where one of its files gave nothing more.
use Rattle.std.specs.Prelude.{◌≡◌}
use Rattle.outside_io.specs.declared.shelf.GetFault.{GetFault}
use Rattle.outside_io.specs.declared.shelf.GetFault.TheVariants as get
use Rattle.input_files.specs.declared.model.ModelEnding.{ModelEnding}
use Rattle.input_files.specs.declared.model.ModelEnding.TheVariants as models
use Rattle.input_files.specs.declared.stream.StreamFault.{StreamFault}
use Rattle.input_files.specs.declared.stream.StreamFault.TheVariants as stream
use Rattle.cert_replay.specs.declared.fault.CheckFault.{CheckFault}
use Rattle.cert_replay.specs.declared.fault.CheckFault.TheVariants.{Model, Telemetry, Read, Report, Memory}

-- where the model file gave no models
abbrev pub model_fault : ModelEnding → CheckFault
model_fault (models.Refused fault) = Model fault
model_fault models.Read = Read 0
model_fault models.Memory = Memory

-- where the telemetry gave no line
abbrev pub telemetry_fault : StreamFault → CheckFault
telemetry_fault (stream.Refused fault) = Telemetry fault
telemetry_fault stream.Read = Read 1
telemetry_fault stream.Memory = Memory

-- where the report gave no bytes
abbrev pub report_fault : GetFault → CheckFault
report_fault get.Failed = Read 2
report_fault get.Memory = Memory

-- an ending of reading the report
abbrev pub IsReportFault : CheckFault → Type 0
IsReportFault (Model fault) = ⊥
IsReportFault (Telemetry fault) = ⊥
IsReportFault (Read slot) = slot ≡ 2
IsReportFault (Report line) = ⊥
IsReportFault Memory = Unit

-- an ending of taking and comparing the lines of a sample
abbrev pub IsSampleFault : CheckFault → Type 0
IsSampleFault (Model fault) = ⊥
IsSampleFault (Telemetry fault) = ⊥
IsSampleFault (Read slot) = slot ≡ 2
IsSampleFault (Report line) = Unit
IsSampleFault Memory = Unit

-- an ending of making lines and comparing them
abbrev pub IsCompareFault : CheckFault → Type 0
IsCompareFault (Model fault) = ⊥
IsCompareFault (Telemetry fault) = ⊥
IsCompareFault (Read slot) = ⊥
IsCompareFault (Report line) = Unit
IsCompareFault Memory = Unit
