use Rattle.std.proofs.Common.{◌≡◌, ℕ, ◌<◌, None}
use Rattle.farkas_check.specs.Search.{first_from}
use Rattle.farkas_check.proofs.candidates.first_pair.Given as goal

abbrev pub invariant-loop-r : goal.invariant-loop-r
invariant-loop-r l = (k : ℕ) → k < l.r → first_from l.rows.width l.rows.rows k ≡ None
