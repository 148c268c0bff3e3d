use Rattle.std.proofs.Common.{◌≡◌, ◌≤◌, ◌*◌, ◌*ℤ◌, ◌^◌, unsigned_abs}
use Rattle.set_rules.specs.Sum.{total}
use Rattle.set_rules.specs.Columns.{at, column_entry}
use Rattle.set_rules.specs.Gain.{shrunk_value}
use Rattle.row_drop.proofs.products.product_of.Given as goal

abbrev pub invariant-loop-t : goal.invariant-loop-t
invariant-loop-t g l = record {
  value : l.sum ≡ total l.t (λ t. shrunk_value l.halvings (column_entry l.cols l.i t) *ℤ at l.row t);
  within : unsigned_abs l.sum ≤ l.t * 2 ^ 80;
}
