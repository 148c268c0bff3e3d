-- Unrounded products as a list.
use Rattle.std.specs.Prelude.{◌≡◌, ℕ, ◌≤◌, List, length, ℤ, unsigned_abs}
use Rattle.std.specs.List.{All}
use Rattle.set_rules.specs.Limits.{raw_limit, most_states}

-- so many numbers, at most eight, each within the limit of an unrounded product
pub record IsRaws (count : ℕ) (products : List ℤ) : Type 0 where
  pub few : count ≤ most_states
  pub size : length products ≡ count
  pub within : All (λ z. unsigned_abs z ≤ raw_limit) products
