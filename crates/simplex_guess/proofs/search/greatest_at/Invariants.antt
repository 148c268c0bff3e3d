use Rattle.std.proofs.Common.{◌<◌}
use Rattle.simplex_guess.proofs.search.greatest_at.Given as goal

abbrev pub invariant-loop-r : goal.invariant-loop-r
invariant-loop-r l = l.best < 6
