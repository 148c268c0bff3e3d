use Rattle.std.proofs.Common.{◌≡◌, take}
use Rattle.set_rules.specs.Gain.{greatest_entry}
use Rattle.row_drop.proofs.shrink.greatest_in_cols.Given as goal

abbrev pub invariant-loop-t : goal.invariant-loop-t
invariant-loop-t g l = l.most ≡ greatest_entry (take l.t l.cols)
