use Rattle.std.proofs.Common.{◌≡◌, ◌≤◌, length}
use Rattle.plant_model.specs.Seen.{sample_of}
use Rattle.observer_step.specs.Estimate.{corrected_after}
use Rattle.observer_step.proofs.readings.take_readings.Given as goal

abbrev pub invariant-loop-o : goal.invariant-loop-o
invariant-loop-o g l = record {
  taken : l.set ≡ corrected_after l.plant (sample_of l.sample) l.o l.fn.set;
  room : length l.set.columns ≤ 64;
}
