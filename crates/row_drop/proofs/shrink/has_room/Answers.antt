use Rattle.std.proofs.Common.{arith}
use Rattle.set_rules.proofs.Greatest.{greatest_entry-at}
use Rattle.row_drop.proofs.shrink.has_room.Goals as goal

pub returns-else-bound-room : goal.returns-else-bound-room
returns-else-bound-room g c within i t h =
    let most = c.all_within.ensures within in
    let one = greatest_entry-at c.args.cols.now i t in
    let power = c.power_within.ensures in
    omega arith
