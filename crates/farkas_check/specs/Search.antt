-- The first candidate that passes, part by part.
use Rattle.std.specs.Prelude.{ℕ, ◌+◌, ◌-◌, List, length, Option, find, flat_map, ℤ}
use Rattle.std.specs.List.{range_with_len}
use Rattle.set_rules.specs.Columns.{tabulate}
use Rattle.set_rules.specs.Rows.{Row}
use Rattle.set_rules.specs.Farkas.{passes, unit_list, pair_at, pairs_at}

-- the first row that passes alone
abbrev pub first_unit : ℕ → List Row → Option (List ℤ)
first_unit width rows = find (passes width rows) (tabulate (length rows) (unit_list (length rows)))

-- the candidate of rows r and s at column t, if it passes
abbrev pub first_in_column : ℕ → List Row → (r s t : ℕ) → Option (List ℤ)
first_in_column width rows r s t = find (passes width rows) (pair_at rows r s t)

-- the first candidate of rows r and s that passes
abbrev pub first_at : ℕ → List Row → (r s : ℕ) → Option (List ℤ)
first_at width rows r s = find (passes width rows) (pairs_at width rows r s)

-- the candidates of row r and a later one
abbrev pub pairs_from : ℕ → List Row → (r : ℕ) → List (List ℤ)
pairs_from width rows r = flat_map (pairs_at width rows r) (range_with_len (r + 1) (length rows - (r + 1)))

-- the first of these
abbrev pub first_from : ℕ → List Row → (r : ℕ) → Option (List ℤ)
first_from width rows r = find (passes width rows) (pairs_from width rows r)

-- the candidates of two rows
abbrev pub pairs : ℕ → List Row → List (List ℤ)
pairs width rows = flat_map (pairs_from width rows) (range_with_len 0 (length rows))

-- the first of these
abbrev pub first_pair : ℕ → List Row → Option (List ℤ)
first_pair width rows = find (passes width rows) (pairs width rows)
