use Rattle.std.proofs.Common.{◌≡◌, ◌≤◌, ◌*◌, take}
use Rattle.girard_reduce.specs.Lifted.{all_sizes}
use Rattle.girard_reduce.proofs.keys.sum_of.Given as goal

abbrev pub invariant-loop-r : goal.invariant-loop-r
invariant-loop-r l = record { added : l.sum ≡ all_sizes (take l.r l.rows.rows); few : l.sum ≤ l.r * 10_000_000_000_000_000_000_000 }
