use Rattle.std.proofs.Common.{◌≡◌}
use Rattle.row_drop.specs.Room.{AreClipped}
use Rattle.row_drop.specs.Rows.{shrunk_state_product, gains_from}
use Rattle.row_drop.proofs.gains.ratios.Given as goal

abbrev pub invariant-loop-i : goal.invariant-loop-i
invariant-loop-i g l = record {
  value : l.gains.items ≡ gains_from l.i (shrunk_state_product l.halvings l.cols l.row) l.square;
  within : AreClipped l.gains.items;
}
