use Rattle.std.proofs.Common.{◌≡◌, ℕ, ◌<◌, None}
use Rattle.farkas_check.specs.Search.{first_in_column}
use Rattle.farkas_check.proofs.candidates.first_at.Given as goal

abbrev pub invariant-loop-t : goal.invariant-loop-t
invariant-loop-t l = (k : ℕ) → k < l.t → first_in_column l.rows.width l.rows.rows l.r l.s k ≡ None
