use Rattle.std.proofs.Common.{◌≡◌, ◌*◌, ◌^◌, ◌≤◌, ◌*ℤ◌, unsigned_abs}
use Rattle.set_rules.specs.Sum.{total}
use Rattle.set_rules.specs.Columns.{at, entry}
use Rattle.fixed_mat.proofs.products.row_times_vector.Given as goal

abbrev pub invariant-loop-l : goal.invariant-loop-l
invariant-loop-l g l =
    record {
      so_far : l.sum ≡ total l.l (λ j. entry g.row.N l.a l.r j *ℤ at l.x j);
      within : unsigned_abs l.sum ≤ l.l * 10 ^ 30;
    }
