use Rattle.std.proofs.Common.{ap, sym, refl, ◌∙◌, add-one}
use Rattle.plant_model.specs.Plant.{reading_at}
use Rattle.plant_model.specs.Seen.{sample_of}
use Rattle.observer_step.specs.Sets.{keep_reading, kept_after}
use Rattle.observer_step.proofs.rows.keep_readings.Goals as goal

pub loop-o-init : goal.loop-o-init
unfolding kept_after
loop-o-init g c = record { kept = refl; room = c.requires.room }

pub loop-o-preserved : goal.loop-o-preserved
unfolding kept_after
loop-o-preserved g c =
    let p = c.args.plant.now in
    let s = sample_of c.args.sample.now in
    record {
      kept = c.keep_reading.ensures.value ∙ ap (keep_reading p s.inputs c.loop-o.o (reading_at s c.loop-o.o)) c.loop-o.invariant.kept ∙ sym (ap (λ m. kept_after p s m c.args.set.now) (add-one c.loop-o.o));
      room = c.keep_reading.ensures.room;
    }
