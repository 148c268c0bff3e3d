use Rattle.std.proofs.Common.{◌*◌, ◌<◌, ◌≤◌, take}
use Rattle.set_rules.specs.Gain.{greatest_entry}
use Rattle.row_drop.proofs.shrink.all_within.Given as goal

abbrev pub invariant-loop-t : goal.invariant-loop-t
invariant-loop-t g l = l.bits < 2 * l.limit → greatest_entry (take l.t l.cols) ≤ l.limit
