-- Products that fit a width.
use Rattle.std.specs.Prelude.{ℕ, ◌*◌, ◌^◌, ◌<◌, List, length, ℤ, pos, ◌*ℤ◌, ◌≤ℤ◌}
use Rattle.set_rules.specs.Sum.{total, magnitude}
use Rattle.set_rules.specs.Columns.{entry, column_entry}

-- the magnitudes of the products of row r of a matrix with column t add up to no more than the limit
abbrev pub FitsColumn : (limit n : ℕ) (a : List ℤ) (r : ℕ) (g : List (List ℤ)) → ℕ → Type 0
FitsColumn limit n a r g t = total n (λ l. magnitude (entry n a r l *ℤ column_entry g l t)) ≤ℤ pos limit

-- so do those with each column
abbrev pub FitsRow : (limit n : ℕ) (a : List ℤ) (r : ℕ) → List (List ℤ) → Type 0
FitsRow limit n a r g = (t : ℕ) → t < length g → FitsColumn limit n a r g t

-- what the magnitudes of the products of a row with a column of this height add up to at most
abbrev pub widest_product : ℕ → ℕ
widest_product height = height * 10 ^ 30
