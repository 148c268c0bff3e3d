use Rattle.std.proofs.Common.{◌≡◌, take}
use Rattle.set_rules.specs.Reduce.{greatest}
use Rattle.row_drop.proofs.shrink.greatest_in_coefs.Given as goal

abbrev pub invariant-loop-t : goal.invariant-loop-t
invariant-loop-t l = l.most ≡ greatest (take l.t l.a)
