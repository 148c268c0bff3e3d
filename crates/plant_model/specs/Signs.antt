-- The sign of a number.
use Rattle.std.specs.Prelude.{ℤ, pos, negsuc, Bool, true, false}

abbrev pub is_not_negative : ℤ → Bool
is_not_negative (pos n) = true
is_not_negative (negsuc n) = false
