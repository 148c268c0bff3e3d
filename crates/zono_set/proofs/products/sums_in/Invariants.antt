use Rattle.std.proofs.Common.{◌≡◌, ◌*◌, ◌≤◌, ◌*ℤ◌, pos}
use Rattle.set_rules.specs.Sum.{total, magnitude}
use Rattle.set_rules.specs.Columns.{entry, column_entry}
use Rattle.set_rules.specs.Round.{rnd, residue}
use Rattle.zono_set.proofs.products.sums_in.Given as goal

abbrev pub invariant-loop-t : goal.invariant-loop-t
invariant-loop-t g l = record {
  size : g.W.Whole.value l.size ≡ total l.t (λ t. magnitude (rnd (total g.row.N (λ j. entry g.row.N l.a l.r j *ℤ column_entry l.cols j t))));
  left : pos l.left ≡ total l.t (λ t. residue (total g.row.N (λ j. entry g.row.N l.a l.r j *ℤ column_entry l.cols j t)));
  left_high : l.left ≤ l.t * 500_000_000;
}
