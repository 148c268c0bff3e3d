use Rattle.std.proofs.Common.{◌≡◌, replicate, true}
use Rattle.cert_replay.proofs.checking.all_possible.Given as goal

abbrev pub invariant-loop : goal.invariant-loop
invariant-loop l = l.made.possible.items ≡ replicate l.counter true
