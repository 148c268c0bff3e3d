-- The first reading of a sample, output after output.
use Rattle.std.proofs.Common.{◌≡◌, ℕ, ◌+◌, List, Option, Some, None, is_some, true, false, ℤ, arith, below_more}
use Rattle.set_rules.specs.Zono.{Zono}
use Rattle.plant_model.specs.Plant.{Plant, Sample, reading_at}
use Rattle.observer_step.specs.declared.ahead.FirstReading.{FirstReading}
use Rattle.observer_step.specs.Ahead.{NoneBefore, HasFirst, IsFirst}

module _ (p : Plant) (s : Sample) (z : Zono) (cs : List ℤ) (m : ℕ) where
  -- none was found
  pub none-found : (f : Option FirstReading) → is_some f ≡ false → IsFirst p s z cs m f → NoneBefore s m
  none-found None e h = h
  none-found (Some f) e h = absurd cc

  -- what was found stays the first
  pub first-stays : (f : FirstReading) → HasFirst p s z cs m f.output f.right → HasFirst p s z cs (m + 1) f.output f.right
  first-stays f h =
      let below = h.below in
      record { below = omega arith; none_before = h.none_before; reading = h.reading; is = h.is; within = h.within; row = h.row }

  -- one more reading is missing
  pub still-first : (f : Option FirstReading) → reading_at s m ≡ None → IsFirst p s z cs m f → IsFirst p s z cs (m + 1) f
  still-first None missing h = below_more _ _ h missing
  still-first (Some f) missing h = first-stays f h

  pub found-stays : (f : Option FirstReading) → is_some f ≡ true → IsFirst p s z cs m f → IsFirst p s z cs (m + 1) f
  found-stays None e h = absurd cc
  found-stays (Some f) e h = first-stays f h
