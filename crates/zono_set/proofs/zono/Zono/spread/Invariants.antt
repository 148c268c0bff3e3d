use Rattle.std.proofs.Common.{◌≡◌, ◌*◌, ◌≤ℤ◌, pos}
use Rattle.set_rules.specs.Sum.{total}
use Rattle.set_rules.specs.Columns.{row_magnitude}
use Rattle.zono_set.proofs.zono.Zono.spread.Given as goal

abbrev pub invariant-loop-i : goal.invariant-loop-i
invariant-loop-i g l = record {
  sum : l.sum ≡ total l.i (row_magnitude l.self.columns);
  low : pos 0 ≤ℤ l.sum;
  high : l.sum ≤ℤ pos (l.i * 1_000_000_000_000_000_000);
}
