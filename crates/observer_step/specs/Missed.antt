-- Which reading misses, as the code sees it.
use Rattle.std.specs.Prelude.{ℕ, List, length, Option, ℤ, pos, slice_index_or}
use Rattle.set_rules.specs.Tests.{first_below}
use Rattle.fixed_mat.specs.declared.reading.Reading.{Reading}
use Rattle.fixed_mat.specs.declared.reading.Reading.TheVariants.{Missing}
use Rattle.plant_model.specs.Plant.{known}
use Rattle.observer_step.specs.Predicted.{reading_misses}

-- the least output whose reading misses its interval
abbrev pub first_missed : List (ℤ × ℤ) → List Reading → Option ℕ
first_missed outs readings = first_below (length outs) (λ o. reading_misses (slice_index_or outs o (pos 0, pos 0)) (known (slice_index_or readings o Missing)))
