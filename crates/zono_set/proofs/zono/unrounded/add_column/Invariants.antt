use Rattle.std.proofs.Common.{ℕ, ◌≡◌, ◌<◌, ◌≤◌, ◌+ℤ◌, ◌-ℤ◌, ◌*ℤ◌, pos, length}
use Rattle.set_rules.specs.Sum.{magnitude}
use Rattle.set_rules.specs.Columns.{at}
use Rattle.zono_set.proofs.zono.unrounded.add_column.Given as goal

abbrev pub invariant-loop-i : goal.invariant-loop-i
invariant-loop-i g l = record {
  size : length l.sizes ≡ 8;
  done : (k : ℕ) → k < l.i → at l.sizes k ≡ at l.initial.sizes k +ℤ magnitude (pos 1_000_000_000 *ℤ at l.column k -ℤ at l.gain k *ℤ l.number);
  rest : (k : ℕ) → l.i ≤ k → at l.sizes k ≡ at l.initial.sizes k;
}
