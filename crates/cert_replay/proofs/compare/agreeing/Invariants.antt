use Rattle.std.proofs.Common.{◌≡◌, ◌≤◌, ◌-◌, take, length}
use Rattle.cert_replay.proofs.compare.agreeing.Given as goal

abbrev pub invariant-loop-same : goal.invariant-loop-same
invariant-loop-same l = record {
  text : l.same ≤ length l.text;
  bytes : l.same ≤ length l.bytes;
  agree : take l.same l.text ≡ take l.same l.bytes;
}

abbrev pub decreases-loop-same : goal.decreases-loop-same
decreases-loop-same l = length l.text - l.same
