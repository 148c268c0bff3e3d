use Rattle.std.proofs.Common.{◌≡◌, ◌*◌, ◌≤◌, pos}
use Rattle.set_rules.specs.Sum.{total, magnitude}
use Rattle.set_rules.specs.Farkas.{combined_coefficient}
use Rattle.farkas_check.specs.Multipliers.{multiplied_limit}
use Rattle.farkas_check.proofs.refutation.combined_size.Given as goal

abbrev pub invariant-loop-t : goal.invariant-loop-t
invariant-loop-t l = record {
  value : pos l.size ≡ total l.t (λ t. magnitude (combined_coefficient l.rows.rows l.list t));
  within : l.size ≤ l.t * (6 * multiplied_limit);
}
