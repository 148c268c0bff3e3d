use Rattle.std.proofs.Common.{◌≡◌, ◌*◌, ◌^◌, ◌≤◌, ◌*ℤ◌, unsigned_abs}
use Rattle.set_rules.specs.Sum.{total}
use Rattle.set_rules.specs.Columns.{at, entry}
use Rattle.observer_step.proofs.inputs.products.Given as goal

abbrev pub invariant-loop-l : goal.invariant-loop-l
invariant-loop-l g l =
    record {
      so_far : l.sum ≡ total l.l (λ j. entry 4 l.m l.r j *ℤ at l.u j);
      within : unsigned_abs l.sum ≤ l.l * 10 ^ 27;
    }
