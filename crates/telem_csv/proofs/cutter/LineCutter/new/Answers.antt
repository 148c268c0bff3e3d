use Rattle.std.proofs.Common.{refl}
use Rattle.telem_csv.specs.Telemetry.{telemetry}
use Rattle.telem_csv.proofs.cutter.LineCutter.new.Goals as goal

pub returns-clause-telemetry : goal.returns-clause-telemetry
unfolding telemetry
returns-clause-telemetry c inputs outputs bytes = rw c.new.ensures refl
