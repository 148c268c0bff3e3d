use Rattle.std.proofs.Common.{◌≡◌, ℕ, ◌<◌, ◌++◌, drop, get_or, pos, ◌*ℤ◌}
use Rattle.set_rules.specs.Sum.{total, magnitude}
use Rattle.set_rules.specs.Columns.{entry, column_entry, tabulate}
use Rattle.set_rules.specs.Round.{rnd, residue}
use Rattle.zono_set.proofs.zono.image.move_each.Given as goal

abbrev pub invariant-loop-t : goal.invariant-loop-t
invariant-loop-t g l = record {
  moved : l.cols ≡ tabulate l.t (λ t. tabulate g.row.N (λ i. rnd (total g.row.N (λ j. entry g.row.N l.a i j *ℤ column_entry l.initial.cols j t)))) ++ drop l.t l.initial.cols;
  sizes : (i : ℕ) → i < g.row.N → pos (get_or l.sizes i 0) ≡ total l.t (λ t. magnitude (rnd (total g.row.N (λ j. entry g.row.N l.a i j *ℤ column_entry l.initial.cols j t))));
  left : (i : ℕ) → i < g.row.N → pos (get_or l.left i 0) ≡ total l.t (λ t. residue (total g.row.N (λ j. entry g.row.N l.a i j *ℤ column_entry l.initial.cols j t)));
}
