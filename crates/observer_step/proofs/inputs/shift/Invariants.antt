use Rattle.std.proofs.Common.{◌≡◌, ℕ, ◌<◌, ◌*ℤ◌, length, get_or, pos}
use Rattle.set_rules.specs.Sum.{total}
use Rattle.set_rules.specs.Columns.{at, entry}
use Rattle.observer_step.proofs.inputs.shift.Given as goal

abbrev pub invariant-loop-i : goal.invariant-loop-i
invariant-loop-i g l = record {
  size : length l.shift ≡ g.row.N;
  filled : (k : ℕ) → k < l.i → get_or l.shift k (pos 0) ≡ total (length l.u) (λ t. entry 4 l.plant.b k t *ℤ at l.u t);
}
