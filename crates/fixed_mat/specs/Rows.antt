-- Kept rows of one width, and what a reduction makes of them.
use Rattle.std.specs.Prelude.{◌≡◌, ℕ, ◌+◌, ◌≤◌, Bool, false, List, ◌++◌, length, map, slice_index_or, ℤ, unsigned_abs}
use Rattle.std.specs.List.{All}
use Rattle.set_rules.specs.Sum.{total, magnitude}
use Rattle.set_rules.specs.Symbols.{diagonal}
use Rattle.set_rules.specs.Columns.{at, tabulate}
use Rattle.set_rules.specs.Reduce.{places, dropped}
use Rattle.set_rules.specs.Rows.{Row, row_at}
use Rattle.set_rules.specs.Limits.{row_limit, most_columns, most_rows}

-- rows of one width, oldest first
pub record Table : Type 0 where
  pub width : ℕ
  pub rows : List Row

-- a row of this width, with its right side within the limit
pub record IsRow (width : ℕ) (row : Row) : Type 0 where
  pub wide : length row.coefficients ≡ width
  pub right_small : unsigned_abs row.right ≤ row_limit

-- at most six such rows, of at most 128 coefficients
pub record IsTable (t : Table) : Type 0 where
  pub few : length t.rows ≤ most_rows
  pub narrow : t.width ≤ most_columns
  pub each : All (IsRow t.width) t.rows

-- whether place t is marked
abbrev pub marked : List Bool → ℕ → Bool
marked marks t = slice_index_or marks t false

-- the numbers at the places that are kept, in order
abbrev pub kept_at : (ℕ → Bool) → List ℤ → List ℤ
kept_at keep a = map (at a) (places keep (length a))

-- the sum of the magnitudes of the others
abbrev pub lost_at : (ℕ → Bool) → List ℤ → ℤ
lost_at keep a = total (length a) (dropped keep (λ t. magnitude (at a t)))

-- a row with the numbers that are kept, and then `more` numbers, of which the one at `place` stands for the others
abbrev pub condensed_row : (ℕ → Bool) → (more place : ℕ) → Row → Row
condensed_row keep more place row = record {
  coefficients = kept_at keep row.coefficients ++ tabulate more (diagonal (λ _. lost_at keep row.coefficients) place);
  right = row.right;
}

-- each row so: first zeros for n states, then a number for each row, of which its own stands for what it lost
abbrev pub condensed_rows : (ℕ → Bool) → ℕ → List Row → List Row
condensed_rows keep n rows = tabulate (length rows) (λ r. condensed_row keep (n + length rows) (n + r) (row_at rows r))
