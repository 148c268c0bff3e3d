-- What a set keeps beside its centre and its columns.
use Rattle.std.specs.Prelude.{◌≡◌, ℕ, ◌<◌, List, ℤ}
use Rattle.set_rules.specs.Columns.{at, row_magnitude}
use Rattle.set_rules.specs.Zono.{Zono, IsZono}

-- a set, and beside it the radius in each state: the sum of the magnitudes of the columns
pub record IsKept (n : ℕ) (z : Zono) (radii : List ℤ) : Type 0 where
  pub set : IsZono n z
  pub radii_are : (i : ℕ) → i < n → at radii i ≡ row_magnitude z.columns i
