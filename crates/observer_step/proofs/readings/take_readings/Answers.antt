use Rattle.std.proofs.Common.{◌≤◌, length, unsigned_abs, sym, ap, ◌∙◌, arith, subst}
use Rattle.set_rules.specs.Rows.{Row}
use Rattle.fixed_mat.proofs.Bits.{back}
use Rattle.plant_model.specs.Seen.{sample_of}
use Rattle.observer_step.specs.Ahead.{IsFirst, HasFirst}
use Rattle.observer_step.proofs.CorrectionHolds.{length-strip}
use Rattle.observer_step.proofs.Taken.{first-taken, none-taken, reading-taken, readings-taken}
use Rattle.observer_step.proofs.readings.take_readings.Given.{Over}
use Rattle.observer_step.proofs.readings.take_readings.Goals as goal
use Rattle.observer_step.proofs.readings.take_readings.Goals.{In-Some}

first : (g : Over) (c : In-Some g) → HasFirst c.args.plant.now (sample_of c.args.sample.now) c.args.set.now c.args.room.now.row c.args.plant.now.outputs c.in-Some.reading.output c.in-Some.reading.right
first g c = subst (IsFirst c.args.plant.now (sample_of c.args.sample.now) c.args.set.now c.args.room.now.row c.args.plant.now.outputs) c.in-Some.is c.requires.first

pub take_row-requires : goal.take_row-requires
take_row-requires g c =
    let first = first g (goal.at.take_row-requires g c).In-Some in
    let few_states = c.states.ensures.limits.few_states in
    let states = c.states.ensures.states in
    let within = first.within in (
      omega arith,
      (
        omega arith,
        (
          ap (λ (r : Row). length r.coefficients) first.row ∙ length-strip c.args.plant.now.states _ _ _ _ c.args.set.now,
          (subst (λ z. unsigned_abs z ≤ 10_000_000_000_000_000_000_000) (sym (back c.in-Some.reading.right (omega arith))) (omega arith), c.requires.room),
        ),
      ),
    )

pub loop-o-init : goal.loop-o-init
loop-o-init g c =
    let p = c.args.plant.now in
    let s = sample_of c.args.sample.now in
    let first = first g (goal.at.loop-o-init g c).In-Some in
    let within = first.within in
    let same = back c.in-Some.reading.right (omega arith) in
    let offered : Row = record { coefficients = c.args.room.now.row; right = c.in-Some.reading.right } in
    record {
      taken = first-taken p s c.in-Some.reading.output first.reading c.args.set.now c.take_row.new.set first.none_before first.is
          (reading-taken p s.inputs c.in-Some.reading.output first.reading c.args.set.now g.row.N c.states.ensures.states offered c.take_row.new.set first.row (rw same at c.take_row.ensures.value));
      room = c.take_row.ensures.room;
    }

pub loop-o-preserved : goal.loop-o-preserved
loop-o-preserved g c = record {
  taken = readings-taken c.args.plant.now (sample_of c.args.sample.now) c.loop-o.o c.args.set.now c.loop-o.set c.take_reading.new.set c.loop-o.invariant.taken c.take_reading.ensures.value;
  room = c.take_reading.ensures.room;
}

pub returns-in-None-clause-value : goal.returns-in-None-clause-value
returns-in-None-clause-value g c =
    none-taken c.args.plant.now (sample_of c.args.sample.now) c.args.plant.now.outputs c.args.set.now
    (subst (IsFirst c.args.plant.now (sample_of c.args.sample.now) c.args.set.now c.args.room.now.row c.args.plant.now.outputs) c.in-None.is c.requires.first)
