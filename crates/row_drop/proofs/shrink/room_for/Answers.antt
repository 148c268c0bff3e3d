use Rattle.std.proofs.Common.{arith}
use Rattle.row_drop.specs.Room.{room}
use Rattle.row_drop.proofs.shrink.room_for.Goals as goal

pub returns-clause-value : goal.returns-clause-value
unfolding room
returns-clause-value c = omega arith
