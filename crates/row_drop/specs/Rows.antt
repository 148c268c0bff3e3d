-- A row of coefficients times each state of columns, and times itself.
use Rattle.std.specs.Prelude.{◌≡◌, ℕ, ◌+◌, List, length, ℤ, pos, ◌*ℤ◌, ◌≤ℤ◌, ◌⊎◌}
use Rattle.set_rules.specs.Sum.{total, magnitude}
use Rattle.set_rules.specs.Columns.{at, column_entry, tabulate}
use Rattle.set_rules.specs.Gain.{shrunk_value, gain_of}

-- the row has a coefficient for each column, and perhaps one more, of a zero column
abbrev pub Covers : List ℤ → List (List ℤ) → Type 0
Covers a g = (length a ≡ length g) ⊎ (length a ≡ length g + 1)

-- the row times state i of the columns
abbrev pub state_product : List (List ℤ) → List ℤ → ℕ → ℤ
state_product g a i = total (length g) (λ t. column_entry g i t *ℤ at a t)

-- the row times itself
abbrev pub row_square : List ℤ → ℤ
row_square a = total (length a) (λ t. at a t *ℤ at a t)

-- the magnitudes of the products with state i add up to no more than the limit
abbrev pub FitsState : ℕ → List (List ℤ) → List ℤ → ℕ → Type 0
FitsState limit g a i = total (length g) (λ t. magnitude (column_entry g i t *ℤ at a t)) ≤ℤ pos limit

-- so do those of the row with itself
abbrev pub FitsSquare : ℕ → List ℤ → Type 0
FitsSquare limit a = total (length a) (λ t. magnitude (at a t *ℤ at a t)) ≤ℤ pos limit

-- a row that is shrunk already times state i of the columns, shrunk
abbrev pub shrunk_state_product : ℕ → List (List ℤ) → List ℤ → ℕ → ℤ
shrunk_state_product z g row i = total (length g) (λ t. shrunk_value z (column_entry g i t) *ℤ at row t)

-- the gain of each state, of these products and this square
abbrev pub gains_from : ℕ → (ℕ → ℤ) → ℤ → List ℤ
gains_from n products square = tabulate n (λ i. gain_of (products i) square)
