use Rattle.std.proofs.Common.{◌≡◌}
use Rattle.set_rules.specs.Columns.{column_entry, tabulate}
use Rattle.zono_set.proofs.zono.substitute.take_column.Given as goal

abbrev pub invariant-loop-i : goal.invariant-loop-i
invariant-loop-i g l = l.column.items ≡ tabulate l.i (λ i. column_entry l.rest l.t i)
