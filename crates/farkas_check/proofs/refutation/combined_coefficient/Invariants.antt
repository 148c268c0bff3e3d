use Rattle.std.proofs.Common.{◌≡◌, ◌*◌, ◌≤◌, ◌*ℤ◌, unsigned_abs}
use Rattle.set_rules.specs.Sum.{total}
use Rattle.set_rules.specs.Columns.{at}
use Rattle.set_rules.specs.Farkas.{coefficient}
use Rattle.farkas_check.specs.Multipliers.{multiplied_limit}
use Rattle.farkas_check.proofs.refutation.combined_coefficient.Given as goal

abbrev pub invariant-loop-r : goal.invariant-loop-r
invariant-loop-r l = record {
  value : l.sum ≡ total l.r (λ r. at l.list r *ℤ coefficient l.rows.rows r l.t);
  within : unsigned_abs l.sum ≤ l.r * multiplied_limit;
}
