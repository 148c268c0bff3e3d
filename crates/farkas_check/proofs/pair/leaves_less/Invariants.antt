use Rattle.std.proofs.Common.{◌≡◌, ◌*◌, ◌≤◌, ◌+ℤ◌, ◌*ℤ◌, pos}
use Rattle.set_rules.specs.Sum.{total, magnitude}
use Rattle.set_rules.specs.Columns.{at}
use Rattle.farkas_check.specs.Multipliers.{multiplied_limit}
use Rattle.farkas_check.proofs.pair.leaves_less.Given as goal

abbrev pub invariant-loop-t : goal.invariant-loop-t
invariant-loop-t l = record {
  value : pos l.left ≡ total l.t (λ t. magnitude (l.by.first *ℤ at l.a t +ℤ l.by.second *ℤ at l.b t));
  within : l.left ≤ l.t * (2 * multiplied_limit);
}
