use Rattle.std.proofs.Common.{◌≡◌, ◌≤◌, take}
use Rattle.std.specs.List.{count_by}
use Rattle.std.specs.Ordering.{int_eq}
use Rattle.girard_reduce.proofs.ranks.count_equal.Given as goal

abbrev pub invariant-loop-other : goal.invariant-loop-other
invariant-loop-other l = record { counted : l.count ≡ count_by (λ other. int_eq other l.key) (take l.other-index l.keys); few : l.count ≤ l.other-index }
