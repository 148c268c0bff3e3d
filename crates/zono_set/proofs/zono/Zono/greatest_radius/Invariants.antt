use Rattle.std.proofs.Common.{◌≡◌, ◌≤◌}
use Rattle.set_rules.specs.Columns.{row_magnitude, tabulate}
use Rattle.set_rules.specs.Reduce.{greatest}
use Rattle.zono_set.proofs.zono.Zono.greatest_radius.Given as goal

abbrev pub invariant-loop-i : goal.invariant-loop-i
invariant-loop-i g l = record {
  value : l.greatest ≡ greatest (tabulate l.i (row_magnitude l.self.columns));
  within : l.greatest ≤ 1_000_000_000_000_000_000;
}
