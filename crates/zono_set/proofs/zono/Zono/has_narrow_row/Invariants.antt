use Rattle.std.proofs.Common.{◌≡◌, ◌*◌, ◌^◌, ◌≤◌, ◌*ℤ◌, unsigned_abs}
use Rattle.set_rules.specs.Sum.{total, magnitude}
use Rattle.set_rules.specs.Columns.{entry, row_magnitude}
use Rattle.zono_set.proofs.zono.Zono.has_narrow_row.Given as goal

abbrev pub invariant-loop-l : goal.invariant-loop-l
invariant-loop-l g l = record {
  so_far : l.sum ≡ total l.l (λ j. magnitude (entry g.row.N l.a l.r j) *ℤ row_magnitude l.self.columns j);
  within : unsigned_abs l.sum ≤ l.l * 10 ^ 30;
}
