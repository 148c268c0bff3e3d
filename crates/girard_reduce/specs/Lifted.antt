-- Columns with the coefficients of rows as further entries.
use Rattle.std.specs.Prelude.{◌≡◌, ℕ, ◌<◌, ◌++◌, List, [], map, ℤ, int_lt, unsigned_abs}
use Rattle.std.specs.List.{sum_by}
use Rattle.set_rules.specs.Columns.{at, column_entry, tabulate}
use Rattle.set_rules.specs.Rows.{Row, Czono}
use Rattle.set_rules.specs.Reduce.{lifted_columns, reduce_lifted}
use Rattle.girard_reduce.specs.Keeps.{set_with}

-- a set about 0 with these columns and rows; a reduction does not look at the centre
abbrev pub lifted_of : List (List ℤ) → List Row → Czono
lifted_of columns rows = set_with [] columns rows

-- column t of n entries, with its coefficient in each row
abbrev pub lifted_column : ℕ → List (List ℤ) → List Row → ℕ → List ℤ
lifted_column n columns rows t = tabulate n (λ i. column_entry columns i t) ++ map (λ row. at row.coefficients t) rows

-- every column so
abbrev pub lifted_all : ℕ → List (List ℤ) → List Row → List (List ℤ)
lifted_all n columns rows = lifted_columns n (lifted_of columns rows)

-- the columns and the rows once reduced
abbrev pub reduced_columns : (n most : ℕ) → List (List ℤ) → List Row → List (List ℤ)
reduced_columns n most columns rows = (reduce_lifted n most (lifted_of columns rows)).base.columns

abbrev pub reduced_rows : (n most : ℕ) → List (List ℤ) → List Row → List Row
reduced_rows n most columns rows = (reduce_lifted n most (lifted_of columns rows)).rows

-- the sum of the magnitudes in all rows
abbrev pub all_sizes : List Row → ℕ
all_sizes rows = sum_by (λ row. sum_by unsigned_abs row.coefficients) rows

-- below n, one key is below another exactly where it is so among other keys
abbrev pub IsOrdered : ℕ → (ℕ → ℤ) → (ℕ → ℤ) → Type 0
IsOrdered n key other = (s t : ℕ) → s < n → t < n → int_lt (key s) (key t) ≡ int_lt (other s) (other t)
