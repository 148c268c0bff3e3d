-- How the program ends where a run or a check ended early.
use Rattle.std.specs.Prelude.{ℕ, ◌==◌, if◌then◌else◌}
use Rattle.monitor_run.specs.declared.done.RunFault.{RunFault}
use Rattle.monitor_run.specs.declared.done.RunFault.TheVariants as run
use Rattle.cert_replay.specs.declared.fault.CheckFault.{CheckFault}
use Rattle.cert_replay.specs.declared.fault.CheckFault.TheVariants as check
use Rattle.zonomon_run.specs.declared.ending.Ending.{Ending}
use Rattle.zonomon_run.specs.declared.ending.Ending.TheVariants.{Model, Telemetry, ReadModel, ReadTelemetry, ReadReport, Write, Memory, Report}

abbrev pub ending_of : RunFault → Ending
ending_of (run.Model fault) = Model fault
ending_of (run.Telemetry fault) = Telemetry fault
ending_of (run.Read slot) = if slot == 0 then ReadModel else ReadTelemetry
ending_of run.Write = Write
ending_of run.Memory = Memory

-- where a slot of a check could not be read
abbrev pub unread_ending : ℕ → Ending
unread_ending slot = if slot == 0 then ReadModel else (if slot == 1 then ReadTelemetry else ReadReport)

abbrev pub check_ending : CheckFault → Ending
check_ending (check.Model fault) = Model fault
check_ending (check.Telemetry fault) = Telemetry fault
check_ending (check.Read slot) = unread_ending slot
check_ending (check.Report line) = Report line
check_ending check.Memory = Memory
