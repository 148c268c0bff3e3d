use Rattle.std.proofs.Common.{◌*◌, ◌<◌, ◌≤◌, take}
use Rattle.set_rules.specs.Reduce.{greatest}
use Rattle.row_drop.proofs.shrink.raised_bits.Given as goal

abbrev pub invariant-loop-entry : goal.invariant-loop-entry
invariant-loop-entry l = l.bits < 2 * l.limit → greatest (take l.entry-index l.column) ≤ l.limit
