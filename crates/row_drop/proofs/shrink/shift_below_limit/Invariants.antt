use Rattle.std.proofs.Common.{ℕ, ◌<◌, ◌≤◌, ◌^◌, ◌/◌}
use Rattle.row_drop.proofs.shrink.shift_below_limit.Given as goal

abbrev pub invariant-loop-halvings : goal.invariant-loop-halvings
invariant-loop-halvings l = (y : ℕ) → y < l.halvings → 2 ^ 40 ≤ l.size / 2 ^ y
