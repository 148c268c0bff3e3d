use Rattle.std.proofs.Common.{◌≡◌, ◌≤◌, ◌+◌, length, get_or, unsigned_abs, SFits, to_z-of_z, rules, sym, ap, ◌∙◌, arith, subst}
use mir.Syntax.{w128}
use Rattle.set_rules.specs.Zono.{Zono}
use Rattle.set_rules.specs.Rows.{Row, Czono}
use Rattle.set_rules.specs.Keep.{cut}
use Rattle.fixed_mat.specs.declared.reading.Reading.TheVariants.{Missing, Value}
use Rattle.fixed_mat.proofs.Bits.{back}
use Rattle.plant_model.specs.Plant.{known, Present}
use Rattle.observer_step.specs.Estimate.{row_of}
use Rattle.observer_step.specs.Sets.{with_room, keep_reading}
use Rattle.observer_step.proofs.CorrectionHolds.{length-strip}
use Rattle.observer_step.proofs.RowsAligned.{cut-columns}
use Rattle.observer_step.proofs.rows.keep_reading.Goals as goal

pub keep-requires : goal.keep-requires
keep-requires g c =
    let right = c.fill_row-right.ensures.within in
    let columns = c.make_room.ensures.columns in
    let same = ap (λ (z : Zono). length z.columns) c.base.ensures in (
      omega arith,
      (
        c.make_room.ensures.rows,
        (
          omega arith,
          (
            ap length c.fill_row-right.ensures.coefficients ∙ length-strip c.args.plant.now.states _ _ _ _ c.base.result.now ∙ ap (λ k. k + 1) same,
            subst (λ z. unsigned_abs z ≤ 10_000_000_000_000_000_000_000) (sym (back c.fill_row-right.result (omega arith))) (omega arith),
          ),
        ),
      ),
    )

pub returns-in-Missing-clause-value : goal.returns-in-Missing-clause-value
unfolding keep_reading
returns-in-Missing-clause-value g c =
    let missing : get_or c.deref.result.now c.args.o Missing ≡ Missing = c.in-Missing.is in
    sym (ap (λ r. keep_reading c.args.plant.now c.args.sample.now.u.items c.args.o (known r) c.args.set.now) (ap (λ xs. get_or xs c.args.o Missing) (sym c.deref.ensures.0) ∙ missing))

pub returns-in-Value-clause-value : goal.returns-in-Value-clause-value
unfolding keep_reading
returns-in-Value-clause-value g c =
    let p = c.args.plant.now in
    let r : Present = record { value = c.in-Value.v; slack = c.in-Value.slack } in
    let there : get_or c.deref.result.now c.args.o Missing ≡ Value c.in-Value.v c.in-Value.slack = c.in-Value.is in
    let offered : Row = record { coefficients = c.fill_row-right.new.row; right = c.fill_row-right.result } in
    let value_fits : SFits w128 c.in-Value.v = search rules in
    let slack_fits : SFits w128 c.in-Value.slack = search rules in
    let value_is = to_z-of_z value_fits in
    let slack_is = to_z-of_z slack_fits in
    let same = back c.fill_row-right.result (let right = c.fill_row-right.ensures.within in omega arith) in
    let inputs_are = c.deref-in-Value.ensures.0 in
    let states = c.states.ensures.states in
    let room : c.make_room.new.set ≡ with_room p.states c.args.set.now = c.make_room.ensures.value ∙ ap (λ n. with_room n c.args.set.now) (sym states) in
    let row : offered ≡ row_of p c.args.sample.now.u.items c.args.o r (with_room p.states c.args.set.now).base =
    (λ i. record { coefficients = c.fill_row-right.ensures.coefficients i; right = c.fill_row-right.ensures.right i })
    ∙ (λ i. row_of p (inputs_are i) c.args.o (record { value = value_is i; slack = slack_is i }) (c.base.ensures i)) ∙ ap (λ (z : Czono). row_of p c.args.sample.now.u.items c.args.o r z.base) room in
    (rw same at c.keep.ensures.value) ∙ (λ i. cut (sym states i) (row i) (room i))
    ∙ ap (λ r. keep_reading c.args.plant.now c.args.sample.now.u.items c.args.o (known r) c.args.set.now) (sym (ap (λ xs. get_or xs c.args.o Missing) (sym c.deref.ensures.0) ∙ there))

pub returns-in-Value-clause-room : goal.returns-in-Value-clause-room
returns-in-Value-clause-room g c =
    let columns = c.make_room.ensures.columns in
    let more = ap (λ (z : Czono). length z.base.columns) c.keep.ensures.value ∙ cut-columns g.row.N _ c.make_room.new.set in
    omega arith
