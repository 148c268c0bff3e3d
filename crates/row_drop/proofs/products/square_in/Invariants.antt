use Rattle.std.proofs.Common.{◌≡◌, ◌*ℤ◌}
use Rattle.set_rules.specs.Sum.{total}
use Rattle.set_rules.specs.Columns.{at}
use Rattle.row_drop.proofs.products.square_in.Given as goal

abbrev pub invariant-loop-t : goal.invariant-loop-t
invariant-loop-t g l = g.W.Whole.value l.sum ≡ total l.t (λ t. at l.a t *ℤ at l.a t)
