use Rattle.std.proofs.Common.{◌≡◌, ◌++◌}
use Rattle.set_rules.specs.Columns.{entry, tabulate}
use Rattle.zono_set.proofs.zono.image.push_noise.Given as goal

abbrev pub invariant-loop-t : goal.invariant-loop-t
invariant-loop-t g l = l.cols ≡ l.initial.cols ++ tabulate l.t (λ t. tabulate g.row.N (λ i. entry 8 l.e i t))
