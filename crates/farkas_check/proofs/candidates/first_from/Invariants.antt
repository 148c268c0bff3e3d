use Rattle.std.proofs.Common.{◌≡◌, ℕ, ◌<◌, None}
use Rattle.farkas_check.specs.Search.{first_at}
use Rattle.farkas_check.proofs.candidates.first_from.Given as goal

abbrev pub invariant-loop-s : goal.invariant-loop-s
invariant-loop-s l = (k : ℕ) → l.r < k → k < l.s → first_at l.rows.width l.rows.rows l.r k ≡ None
