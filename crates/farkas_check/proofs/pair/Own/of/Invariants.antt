use Rattle.std.proofs.Common.{◌≤◌}
use Rattle.set_rules.specs.Columns.{at}
use Rattle.farkas_check.specs.Two.{own_of}
use Rattle.farkas_check.proofs.pair.Own.of.Given as goal

abbrev pub invariant-loop-t : goal.invariant-loop-t
invariant-loop-t l = record {
  first : l.first ≤ own_of l.t (at l.a) (at l.b);
  second : l.second ≤ own_of l.t (at l.b) (at l.a);
}
