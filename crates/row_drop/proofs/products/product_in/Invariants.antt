use Rattle.std.proofs.Common.{◌≡◌, ◌*ℤ◌}
use Rattle.set_rules.specs.Sum.{total}
use Rattle.set_rules.specs.Columns.{at, column_entry}
use Rattle.row_drop.proofs.products.product_in.Given as goal

abbrev pub invariant-loop-t : goal.invariant-loop-t
invariant-loop-t g l = g.W.Whole.value l.sum ≡ total l.t (λ t. column_entry l.cols l.i t *ℤ at l.a t)
