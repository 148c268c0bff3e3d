use Rattle.std.proofs.Common.{◌≡◌, ◌≤◌}
use Rattle.std.specs.List.{All}
use Rattle.cert_replay.proofs.Counted.{first_states}
use Rattle.cert_replay.proofs.counts.LineCounts.of.Given as goal

abbrev pub invariant-loop-i : goal.invariant-loop-i
invariant-loop-i l = record {
  states : l.states.items ≡ first_states l.models l.i;
  few : All (λ n. n ≤ 8) l.states.items;
  some : All (λ n. 1 ≤ n) l.states.items;
}
