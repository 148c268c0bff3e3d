use Rattle.std.proofs.Common.{◌≡◌, ℕ, ◌<◌, length, false}
use Rattle.set_rules.specs.Farkas.{passes, unit_list}
use Rattle.farkas_check.proofs.candidates.first_unit.Given as goal

abbrev pub invariant-loop-r : goal.invariant-loop-r
invariant-loop-r l = (k : ℕ) → k < l.r → passes l.rows.width l.rows.rows (unit_list (length l.rows.rows) k) ≡ false
