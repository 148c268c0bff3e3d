use Rattle.std.proofs.Common.{◌≤◌, ◌*◌, ◌^◌, unsigned_abs}
use Rattle.simplex_guess.proofs.strip.Strip.times.Given as goal

abbrev pub invariant-loop-t : goal.invariant-loop-t
invariant-loop-t l = unsigned_abs l.sum ≤ l.t * 2 ^ 80
