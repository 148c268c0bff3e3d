use Rattle.std.proofs.Common.{◌≡◌, ◌++◌, drop}
use Rattle.set_rules.specs.Columns.{column_entry, tabulate}
use Rattle.zono_set.proofs.zono.substitute.take_rest.Given as goal

abbrev pub invariant-loop-t : goal.invariant-loop-t
invariant-loop-t g l = l.cols ≡ tabulate l.t (λ t. tabulate g.row.N (λ i. column_entry l.rest t i)) ++ drop l.t l.initial.cols
