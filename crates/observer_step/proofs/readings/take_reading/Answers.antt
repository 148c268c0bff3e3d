use Rattle.std.proofs.Common.{◌≡◌, ◌≤◌, length, get_or, unsigned_abs, SFits, to_z-of_z, rules, sym, ap, ◌∙◌, arith, subst}
use mir.Syntax.{w128}
use Rattle.set_rules.specs.Rows.{Row}
use Rattle.fixed_mat.specs.declared.reading.Reading.TheVariants.{Missing, Value}
use Rattle.fixed_mat.proofs.Bits.{back}
use Rattle.plant_model.specs.Plant.{known, Present}
use Rattle.observer_step.specs.Estimate.{correct_reading, row_of}
use Rattle.observer_step.proofs.CorrectionHolds.{length-strip}
use Rattle.observer_step.proofs.Taken.{reading-taken}
use Rattle.observer_step.proofs.readings.take_reading.Goals as goal

pub returns-in-Missing-clause-value : goal.returns-in-Missing-clause-value
unfolding correct_reading
returns-in-Missing-clause-value g c =
    let missing : get_or c.deref.result.now c.args.o Missing ≡ Missing = c.in-Missing.is in
    sym (ap (λ r. correct_reading c.args.plant.now c.args.sample.now.u.items c.args.o (known r) c.args.set.now) (ap (λ xs. get_or xs c.args.o Missing) (sym c.deref.ensures.0) ∙ missing))

pub take_row-requires : goal.take_row-requires
take_row-requires g c =
    let few_states = c.states.ensures.limits.few_states in
    let states = c.states.ensures.states in
    let right = c.fill_row-right.ensures.within in (
      omega arith,
      (
        omega arith,
        (
          ap length c.fill_row-right.ensures.coefficients ∙ length-strip c.args.plant.now.states _ _ _ _ c.args.set.now,
          (subst (λ z. unsigned_abs z ≤ 10_000_000_000_000_000_000_000) (sym (back c.fill_row-right.result (omega arith))) (omega arith), c.requires.room),
        ),
      ),
    )

pub returns-in-Value-clause-value : goal.returns-in-Value-clause-value
returns-in-Value-clause-value g c =
    let p = c.args.plant.now in
    let r : Present = record { value = c.in-Value.v; slack = c.in-Value.slack } in
    let there : get_or c.deref.result.now c.args.o Missing ≡ Value c.in-Value.v c.in-Value.slack = c.in-Value.is in
    let offered : Row = record { coefficients = c.fill_row-right.new.row; right = c.fill_row-right.result } in
    let value_fits : SFits w128 c.in-Value.v = search rules in
    let slack_fits : SFits w128 c.in-Value.slack = search rules in
    let value_is = to_z-of_z value_fits in
    let slack_is = to_z-of_z slack_fits in
    let same = back c.fill_row-right.result (let right = c.fill_row-right.ensures.within in omega arith) in
    let inputs_are = c.deref-in-Value.ensures.0 in
    let row : offered ≡ row_of p c.args.sample.now.u.items c.args.o r c.args.set.now =
    (λ i. record { coefficients = c.fill_row-right.ensures.coefficients i; right = c.fill_row-right.ensures.right i })
    ∙ (λ i. row_of p (inputs_are i) c.args.o (record { value = value_is i; slack = slack_is i }) c.args.set.now) in
    reading-taken p c.args.sample.now.u.items c.args.o r c.args.set.now g.row.N c.states.ensures.states offered c.take_row.new.set row (rw same at c.take_row.ensures.value)
    ∙ ap (λ r. correct_reading p c.args.sample.now.u.items c.args.o (known r) c.args.set.now) (sym (ap (λ xs. get_or xs c.args.o Missing) (sym c.deref.ensures.0) ∙ there))
