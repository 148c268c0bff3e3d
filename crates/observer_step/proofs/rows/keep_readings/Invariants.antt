use Rattle.std.proofs.Common.{◌≡◌, ◌≤◌, length}
use Rattle.plant_model.specs.Seen.{sample_of}
use Rattle.observer_step.specs.Sets.{kept_after}
use Rattle.observer_step.proofs.rows.keep_readings.Given as goal

abbrev pub invariant-loop-o : goal.invariant-loop-o
invariant-loop-o g l = record {
  kept : l.set ≡ kept_after l.plant (sample_of l.sample) l.o l.fn.set;
  room : length l.set.base.columns ≤ 65;
}
