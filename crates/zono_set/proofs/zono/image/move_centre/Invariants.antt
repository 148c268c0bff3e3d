use Rattle.std.proofs.Common.{◌≡◌, ◌+ℤ◌, ◌*ℤ◌}
use Rattle.set_rules.specs.Sum.{total}
use Rattle.set_rules.specs.Columns.{at, entry, tabulate}
use Rattle.set_rules.specs.Round.{rnd, residue}
use Rattle.zono_set.proofs.zono.image.move_centre.Given as goal

abbrev pub invariant-loop-i : goal.invariant-loop-i
invariant-loop-i g l = record {
  moved : l.moved.items ≡ tabulate l.i (λ i. rnd (total g.row.N (λ j. entry g.row.N l.a i j *ℤ at l.centre j) +ℤ at l.shift i));
  left : l.left.items ≡ tabulate l.i (λ i. residue (total g.row.N (λ j. entry g.row.N l.a i j *ℤ at l.centre j) +ℤ at l.shift i));
}
