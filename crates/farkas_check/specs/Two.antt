-- Two rows with multipliers, added: what is left in the columns, and what shows that it is no less than the right side.
use Rattle.std.specs.Prelude.{◌^◌, ℕ, zero, suc, max, nat_eq, if◌then◌else◌, List, length, Bool, ℤ, pos, ◌+ℤ◌, ◌-ℤ◌, ◌*ℤ◌, unsigned_abs}
use Rattle.set_rules.specs.Sum.{total, magnitude}
use Rattle.set_rules.specs.Rows.{Row, row_at}
use Rattle.set_rules.specs.Farkas.{coefficient, passes, pair_list}
use Rattle.set_rules.specs.Gain.{shift_below}

-- the right side of row r
abbrev pub right_side : List Row → ℕ → ℤ
right_side rows r = (row_at rows r).right

-- the sum of the magnitudes of row r's coefficients
abbrev pub row_sum : ℕ → List Row → ℕ → ℤ
row_sum width rows r = total width (λ t. magnitude (coefficient rows r t))

-- x times row r and y times row s, added: the sum of the magnitudes that are left in the columns
abbrev pub left_of_two : ℕ → List Row → (r s : ℕ) → (x y : ℤ) → ℤ
left_of_two width rows r s x y = total width (λ t. magnitude (x *ℤ coefficient rows r t +ℤ y *ℤ coefficient rows s t))

-- and the magnitude of the right side
abbrev pub right_of_two : List Row → (r s : ℕ) → (x y : ℤ) → ℤ
right_of_two rows r s x y = magnitude (x *ℤ right_side rows r +ℤ y *ℤ right_side rows s)

-- whether these two pass
abbrev pub pair_passes : ℕ → List Row → (r s : ℕ) → (x y : ℤ) → Bool
pair_passes width rows r s x y = passes width rows (pair_list (length rows) r s x y)

-- the greatest magnitude of a in the first n columns in which b has 0
unfoldable pub own_of : ℕ → (a b : ℕ → ℤ) → ℕ
own_of zero a b = 0
own_of (suc n) a b = max (own_of n a b) (if nat_eq (unsigned_abs (b n)) 0 then unsigned_abs (a n) else 0)

-- no less than this is left of x times a row and y times another, of sums m and n, with p and q in a column to itself
abbrev pub least_left : (m p n q : ℕ) → (x y : ℤ) → ℤ
least_left m p n q x y =
    magnitude x *ℤ pos p +ℤ magnitude y *ℤ pos q +ℤ magnitude (magnitude x *ℤ (pos m -ℤ pos p) -ℤ magnitude y *ℤ (pos n -ℤ pos q))

-- the least shift that brings two coefficients below 2 ^ 31
abbrev pub cancelling_shift : (a b : ℤ) → ℕ
cancelling_shift a b = shift_below (2 ^ 31) (max (unsigned_abs a) (unsigned_abs b))
