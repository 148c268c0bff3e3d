-- A row of a matrix times columns, and a multiple of a row taken from a state, each a
-- unit times too large; and what rounding makes of these.
use Rattle.std.specs.Prelude.{ℕ, ◌*◌, List, length, ℤ, pos, ◌+ℤ◌, ◌-ℤ◌, ◌*ℤ◌, unsigned_abs, sum_by}
use Rattle.set_rules.specs.Sum.{total, magnitude}
use Rattle.set_rules.specs.Columns.{at, entry, column_entry, row_magnitude, tabulate}
use Rattle.set_rules.specs.Round.{unit, rnd, residue}
use Rattle.set_rules.specs.Rows.{Row}

-- row r of a matrix of this width times column t
abbrev pub product : (width : ℕ) (m : List ℤ) (r : ℕ) → List (List ℤ) → ℕ → ℤ
product width m r g t = total width (λ l. entry width m r l *ℤ column_entry g l t)

-- it rounded
abbrev pub rounded_product : (width : ℕ) (m : List ℤ) (r : ℕ) → List (List ℤ) → ℕ → ℤ
rounded_product width m r g t = rnd (product width m r g t)

-- row r times each column, rounded
abbrev pub rounded_row : (width : ℕ) (m : List ℤ) (r : ℕ) → List (List ℤ) → List ℤ
rounded_row width m r g = tabulate (length g) (λ t. rounded_product width m r g t)

-- the sum of the magnitudes of these
abbrev pub rounded_size : (width : ℕ) (m : List ℤ) (r : ℕ) → List (List ℤ) → ℤ
rounded_size width m r g = total (length g) (λ t. magnitude (rounded_product width m r g t))

-- the sum of what the rounding leaves of them
abbrev pub row_residue : (width : ℕ) (m : List ℤ) (r : ℕ) → List (List ℤ) → ℤ
row_residue width m r g = total (length g) (λ t. residue (product width m r g t))

-- the first n rows of a matrix times column t, rounded
abbrev pub moved_column : (n : ℕ) (m : List ℤ) → List (List ℤ) → ℕ → List ℤ
moved_column n m g t = tabulate n (λ i. rounded_product n m i g t)

-- the first n rows times each column, rounded
abbrev pub moved_columns : (n : ℕ) (m : List ℤ) → List (List ℤ) → List (List ℤ)
moved_columns n m g = tabulate (length g) (λ t. moved_column n m g t)

-- the entry of column t in row i, less the share that a gain takes of a coefficient, both unrounded
abbrev pub raw_rest : ℤ → ℤ → ℤ → ℤ
raw_rest entry gain coefficient = pos unit *ℤ entry -ℤ gain *ℤ coefficient

-- no more than this do the magnitudes of row i and of a gain's shares of the coefficients add up to, unrounded
abbrev pub raw_bound : List (List ℤ) → ℕ → ℤ → List ℤ → ℤ
raw_bound g i gain a = pos unit *ℤ row_magnitude g i +ℤ pos (unsigned_abs gain * sum_by unsigned_abs a)

-- the entry of column t in row i, less the share that a gain takes of coefficient t
abbrev pub rest_of : (g : List (List ℤ)) (i : ℕ) (gain : ℤ) (a : List ℤ) → ℕ → ℤ
rest_of g i gain a t = column_entry g i t -ℤ rnd (gain *ℤ at a t)

-- the sum of the magnitudes of what is left of row i
abbrev pub rest_size : (g : List (List ℤ)) (i : ℕ) (gain : ℤ) (a : List ℤ) → ℤ
rest_size g i gain a = total (length a) (λ t. magnitude (rest_of g i gain a t))

-- the sum of what the rounding leaves of the shares
abbrev pub share_residue : (gain : ℤ) (a : List ℤ) → ℤ
share_residue gain a = total (length a) (λ t. residue (gain *ℤ at a t))

-- a row of these coefficients, with its right side
abbrev pub row_with : List ℤ → ℤ → Row
row_with coefficients right = record { coefficients = coefficients; right = right }
