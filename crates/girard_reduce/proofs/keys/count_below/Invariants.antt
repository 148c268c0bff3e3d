use Rattle.std.proofs.Common.{◌≡◌, ◌≤◌, take, int_lt}
use Rattle.std.specs.List.{count_by}
use Rattle.girard_reduce.proofs.keys.count_below.Given as goal

abbrev pub invariant-loop-key : goal.invariant-loop-key
invariant-loop-key l = record { counted : l.count ≡ count_by (λ key. int_lt key l.bound) (take l.key-index l.keys); few : l.count ≤ l.key-index }
