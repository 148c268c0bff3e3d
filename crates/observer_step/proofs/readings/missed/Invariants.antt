use Rattle.std.proofs.Common.{◌≡◌, None, pos, slice_index_or}
use Rattle.set_rules.specs.Tests.{first_below}
use Rattle.fixed_mat.specs.declared.reading.Reading.TheVariants.{Missing}
use Rattle.plant_model.specs.Plant.{known}
use Rattle.observer_step.specs.Predicted.{reading_misses}
use Rattle.observer_step.proofs.readings.missed.Given as goal

abbrev pub invariant-loop-o : goal.invariant-loop-o
invariant-loop-o l = first_below l.o (λ o. reading_misses (slice_index_or l.outs o (pos 0, pos 0)) (known (slice_index_or l.readings o Missing))) ≡ None
