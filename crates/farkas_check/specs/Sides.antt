-- What the code knows of two rows.
use Rattle.std.specs.Prelude.{◌≡◌, ◌⊎◌, ℕ, ◌-◌, ◌*◌, ◌<◌, ◌≤◌, List, length, ℤ, pos, ◌+ℤ◌, ◌*ℤ◌, ◌≤ℤ◌, neg_ℤ, unsigned_abs}
use Rattle.set_rules.specs.Sum.{total, magnitude}
use Rattle.set_rules.specs.Columns.{at}
use Rattle.set_rules.specs.Rows.{Row}
use Rattle.set_rules.specs.Farkas.{coefficient}
use Rattle.set_rules.specs.Gain.{shrunk_value}
use Rattle.fixed_mat.specs.Rows.{Table}
use Rattle.farkas_check.specs.Two.{right_side, row_sum, own_of, least_left}
use Rattle.farkas_check.specs.declared.side.Side.{Side}
use Rattle.farkas_check.specs.declared.pair.Pair.{Pair}

-- of row r beside row s: its right side, the sum of its magnitudes, and one of these, or less, that it has to itself
pub record IsSide (width : ℕ) (rows : List Row) (r s : ℕ) (side : Side) : Type 0 where
  pub right_is : side.right ≡ right_side rows r
  pub sum_is : pos side.sum ≡ row_sum width rows r
  pub own_within : side.own ≤ own_of width (coefficient rows r) (coefficient rows s)

-- a pair of two rows, the older one first
pub record IsPair (t : Table) (p : Pair) : Type 0 where
  pub order : p.r < p.s
  pub within : p.s < length t.rows
  pub first : IsSide t.width t.rows p.r p.s p.first
  pub second : IsSide t.width t.rows p.s p.r p.second

-- x times the one right side and y times the other, added
abbrev pub right_by : Pair → (x y : ℤ) → ℤ
right_by p x y = x *ℤ p.first.right +ℤ y *ℤ p.second.right

-- what the sums show to be left at the least
abbrev pub least_by : Pair → (x y : ℤ) → ℤ
least_by p x y = least_left p.first.sum p.first.own p.second.sum p.second.own x y

-- what is left in the columns of x times coefficients a and y times coefficients b
abbrev pub left_by : (a b : List ℤ) → (x y : ℤ) → ℤ
left_by a b x y = total (length a) (λ t. magnitude (x *ℤ at a t +ℤ y *ℤ at b t))

-- how far the right side of a row is above what it has to itself, and how far below
abbrev pub gain_of : Side → ℕ
gain_of s = unsigned_abs s.right - s.own

abbrev pub margin_of : Side → ℕ
margin_of s = s.own - unsigned_abs s.right

-- what it shares with the other row
abbrev pub shared_of : Side → ℕ
shared_of s = s.sum - s.own

-- a loss on the other row outweighs the gain of this one, however both are multiplied
pub record IsOutweighed (side : Side) (loss : ℕ) (other : Side) : Type 0 where
  pub within : gain_of side ≤ shared_of side
  pub outweighed : gain_of side * shared_of other ≤ loss * shared_of side

-- the other row gains nothing, and its margin outweighs the gain of this one
pub record IsOutweighedBy (side other : Side) : Type 0 where
  pub none : gain_of other ≡ 0
  pub by : IsOutweighed side (margin_of other) other

-- whatever the multipliers of the two are, the right side is within what is left
abbrev pub AllWithin : Pair → Type 0
AllWithin p = (x y : ℤ) → magnitude (right_by p x y) ≤ℤ least_by p x y

-- x times the one right side and y times the other take from each other
abbrev pub AreOpposed : Pair → (x y : ℤ) → Type 0
AreOpposed p x y = (((x *ℤ p.first.right) ≤ℤ pos 0) × (pos 0 ≤ℤ (y *ℤ p.second.right)))
    ⊎ ((pos 0 ≤ℤ (x *ℤ p.first.right)) × ((y *ℤ p.second.right) ≤ℤ pos 0))

-- the right side is within what is left where they do
abbrev pub OpposedWithin : Pair → Type 0
OpposedWithin p = (x y : ℤ) → AreOpposed p x y → magnitude (right_by p x y) ≤ℤ least_by p x y

-- they do under the multipliers under which coefficients a and b cancel, however often these are halved
abbrev pub OpposedAt : Pair → (a b : ℤ) → Type 0
OpposedAt p a b = (halvings : ℕ) → AreOpposed p (shrunk_value halvings b) (neg_ℤ (shrunk_value halvings a))
