use Rattle.std.proofs.Common.{◌≡◌}
use Rattle.set_rules.specs.Columns.{tabulate}
use Rattle.set_rules.specs.Reduce.{key_at}
use Rattle.girard_reduce.specs.Lifted.{lifted_all}
use Rattle.girard_reduce.proofs.keys.narrow_keys.Given as goal

abbrev pub invariant-loop-t : goal.invariant-loop-t
invariant-loop-t g l = l.keys.items ≡ tabulate l.t (key_at (lifted_all g.row.N l.cols l.rows.rows))
