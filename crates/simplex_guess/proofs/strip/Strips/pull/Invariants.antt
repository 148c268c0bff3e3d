use Rattle.std.proofs.Common.{◌≤◌, ◌*◌, ◌^◌, unsigned_abs}
use Rattle.simplex_guess.proofs.strip.Strips.pull.Given as goal

abbrev pub invariant-loop-r : goal.invariant-loop-r
invariant-loop-r l = unsigned_abs l.sum ≤ l.r * 2 ^ 124
