use Rattle.std.proofs.Common.{◌≡◌, ◌≤◌, take, length}
use Rattle.cert_replay.proofs.replay.live_models.Given as goal

abbrev pub invariant-loop-i : goal.invariant-loop-i
invariant-loop-i l = record {
  as_many : length l.lives.items ≡ l.i;
  same : l.i ≤ length l.possible → l.lives.items ≡ take l.i l.possible;
}
