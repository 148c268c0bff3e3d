use Rattle.std.proofs.Common.{◌≡◌, ℕ, ◌<◌, ◌≤◌, ◌*◌, ◌-ℤ◌, ◌*ℤ◌, length, pos, unsigned_abs}
use Rattle.set_rules.specs.Sum.{total, magnitude}
use Rattle.set_rules.specs.Columns.{at, column_entry}
use Rattle.set_rules.specs.Round.{rnd, residue}
use Rattle.zono_set.proofs.products.shares_in.Given as goal

abbrev pub invariant-loop-t : goal.invariant-loop-t
invariant-loop-t g l = record {
  long : length l.rest ≡ 128;
  size : g.W.Whole.value l.size ≡ total l.t (λ t. magnitude (column_entry l.cols l.i t -ℤ rnd (l.gain *ℤ at l.a t)));
  left : pos l.left ≡ total l.t (λ t. residue (l.gain *ℤ at l.a t));
  left_high : l.left ≤ l.t * 500_000_000;
  rest : (k : ℕ) → k < l.t → unsigned_abs (column_entry l.cols l.i k -ℤ rnd (l.gain *ℤ at l.a k)) ≤ 1_000_000_000_000_000_000
      → at l.rest k ≡ column_entry l.cols l.i k -ℤ rnd (l.gain *ℤ at l.a k);
}
