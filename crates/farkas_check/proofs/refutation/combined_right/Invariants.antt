use Rattle.std.proofs.Common.{◌≡◌, ◌*◌, ◌≤◌, ◌*ℤ◌, unsigned_abs}
use Rattle.set_rules.specs.Sum.{total}
use Rattle.set_rules.specs.Columns.{at}
use Rattle.set_rules.specs.Rows.{row_at}
use Rattle.farkas_check.specs.Multipliers.{multiplied_limit}
use Rattle.farkas_check.proofs.refutation.combined_right.Given as goal

abbrev pub invariant-loop-r : goal.invariant-loop-r
invariant-loop-r l = record {
  value : l.sum ≡ total l.r (λ r. at l.list r *ℤ (row_at l.rows.rows r).right);
  within : unsigned_abs l.sum ≤ l.r * multiplied_limit;
}
