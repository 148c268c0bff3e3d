use Rattle.std.proofs.Common.{◌≤◌, unsigned_abs}
use Rattle.std.specs.List.{All}
use Rattle.simplex_guess.proofs.rounding.multipliers.Given as goal

abbrev pub invariant-loop-r : goal.invariant-loop-r
invariant-loop-r l = All (λ v. unsigned_abs v ≤ 2_147_483_647) l.values
