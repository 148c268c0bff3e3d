use Rattle.std.proofs.Common.{◌≡◌, ℕ, ◌<◌, ◌≤◌, length, get_or, pos, ◌+ℤ◌, ◌*ℤ◌}
use Rattle.set_rules.specs.Sum.{total, magnitude}
use Rattle.set_rules.specs.Columns.{at, entry, column_entry}
use Rattle.set_rules.specs.Round.{rnd, residue}
use Rattle.zono_set.proofs.zono.image.move_column.Given as goal

abbrev pub invariant-loop-i : goal.invariant-loop-i
invariant-loop-i g l = record {
  long : length l.moved ≡ 8;
  long_sizes : length l.sizes ≡ 8;
  long_left : length l.left ≡ 8;
  moved : (k : ℕ) → k < l.i → at l.moved k ≡ rnd (total g.row.N (λ j. entry g.row.N l.a k j *ℤ column_entry l.cols j l.t));
  sizes : (k : ℕ) → k < l.i → pos (get_or l.sizes k 0) ≡ pos (get_or l.initial.sizes k 0) +ℤ magnitude (rnd (total g.row.N (λ j. entry g.row.N l.a k j *ℤ column_entry l.cols j l.t)));
  left : (k : ℕ) → k < l.i → pos (get_or l.left k 0) ≡ pos (get_or l.initial.left k 0) +ℤ residue (total g.row.N (λ j. entry g.row.N l.a k j *ℤ column_entry l.cols j l.t));
  still : (k : ℕ) → l.i ≤ k → (get_or l.sizes k 0 ≡ get_or l.initial.sizes k 0) × (get_or l.left k 0 ≡ get_or l.initial.left k 0);
}
