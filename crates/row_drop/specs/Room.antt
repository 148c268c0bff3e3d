-- How great numbers may be.
use Rattle.std.specs.Prelude.{ℕ, ◌+◌, ◌*◌, ◌/◌, ◌^◌, ◌≤◌, List, ℤ, unsigned_abs, min}
use Rattle.std.specs.List.{All}
use Rattle.set_rules.specs.Limits.{coef, narrow_limit}

-- numbers below this need no shrinking
abbrev pub plain_limit : ℕ
plain_limit = 2 ^ 40

-- numbers up to this need no shrinking, and their products with a row of this sum fit 64 bits
unfoldable pub room : ℕ → ℕ
room sum = min (narrow_limit / (sum + 1)) (2 ^ 39)

-- the greatest magnitude of a row times columns or times itself, where all numbers are below the limit
abbrev pub product_limit : ℕ
product_limit = 128 * 2 ^ 80

-- gains are clipped
abbrev pub AreClipped : List ℤ → Type 0
AreClipped gains = All (λ z. unsigned_abs z ≤ coef) gains
