-- What is at hand before the readings of a sample are taken.
use Rattle.std.specs.Prelude.{◌≡◌, ℕ, ◌<◌, ◌≤◌, List, Option, None, Some, ℤ, unsigned_abs}
use Rattle.set_rules.specs.Zono.{Zono}
use Rattle.set_rules.specs.Limits.{row_limit}
use Rattle.set_rules.specs.Products.{row_with}
use Rattle.plant_model.specs.Plant.{Plant, Present, Sample, reading_at}
use Rattle.observer_step.specs.Estimate.{row_of}
use Rattle.observer_step.specs.declared.ahead.FirstReading.{FirstReading}

-- the readings of the first m outputs are missing
abbrev pub NoneBefore : Sample → ℕ → Type 0
NoneBefore s m = (o : ℕ) → o < m → reading_at s o ≡ None

-- among the first m outputs this one has the first reading, and its row on the symbols of z has
-- these coefficients and this right side, which is within its limit
pub record HasFirst (p : Plant) (s : Sample) (z : Zono) (coefficients : List ℤ) (m output : ℕ) (right : ℤ) : Type 0 where
  pub below : output < m
  pub none_before : NoneBefore s output
  pub reading : Present
  pub is : reading_at s output ≡ Some reading
  pub within : unsigned_abs right ≤ row_limit
  pub row : row_with coefficients right ≡ row_of p s.inputs output reading z

-- what is the first reading among the first m outputs, if there is one
abbrev pub IsFirst : Plant → Sample → Zono → List ℤ → ℕ → Option FirstReading → Type 0
IsFirst p s z coefficients m None = NoneBefore s m
IsFirst p s z coefficients m (Some first) = HasFirst p s z coefficients m first.output first.right
