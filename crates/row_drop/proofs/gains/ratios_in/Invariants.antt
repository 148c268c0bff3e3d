use Rattle.std.proofs.Common.{◌≡◌}
use Rattle.row_drop.specs.Room.{AreClipped}
use Rattle.row_drop.specs.Rows.{state_product, gains_from}
use Rattle.row_drop.proofs.gains.ratios_in.Given as goal

abbrev pub invariant-loop-i : goal.invariant-loop-i
invariant-loop-i g l = record {
  value : l.gains.items ≡ gains_from l.i (state_product l.cols l.a) l.square;
  within : AreClipped l.gains.items;
}
