use Rattle.std.proofs.Common.{◌+ℤ◌, ap, ◌∙◌, arith}
use Rattle.std.proofs.lemmas.Int.{ints}
use Rattle.set_rules.specs.Rows.{Row}
use Rattle.fixed_mat.proofs.Bits.{back, sum_back}
use Rattle.observer_step.proofs.Taken.{row-filled}
use Rattle.observer_step.proofs.readings.fill_row.Goals as goal

pub returns-clause-coefficients : goal.returns-clause-coefficients
returns-clause-coefficients g c =
    let noise = c.noise.ensures in
    let small = c.requires.slack_low in
    let slight = c.requires.slack_high in
    let f = sum_back c.noise.result c.args.slack (omega (arith, ints)) (omega (arith, ints)) ∙ ap (λ v. v +ℤ c.args.slack) noise.value in
    c.fill_strip_row.ensures.coefficients
    ∙ ap (λ (row : Row). row.coefficients) (row-filled c.args.plant.now c.args.u.now c.args.o (record { value = c.args.v; slack = c.args.slack }) c.args.set.now g.row.N c.states.ensures.states
    c.c_row.result _ _ _ c.c_row.ensures (back c.through.result (let h = c.through.ensures.within in omega arith) ∙ c.through.ensures.value) (back c.args.v (let h = c.requires.reading in omega arith)) f)

pub returns-clause-right : goal.returns-clause-right
returns-clause-right g c =
    let noise = c.noise.ensures in
    let small = c.requires.slack_low in
    let slight = c.requires.slack_high in
    let f = sum_back c.noise.result c.args.slack (omega (arith, ints)) (omega (arith, ints)) ∙ ap (λ v. v +ℤ c.args.slack) noise.value in
    back c.fill_strip_row.result (let h = c.fill_strip_row.ensures.within in omega arith) ∙ c.fill_strip_row.ensures.right
    ∙ ap (λ (row : Row). row.right) (row-filled c.args.plant.now c.args.u.now c.args.o (record { value = c.args.v; slack = c.args.slack }) c.args.set.now g.row.N c.states.ensures.states
    c.c_row.result _ _ _ c.c_row.ensures (back c.through.result (let h = c.through.ensures.within in omega arith) ∙ c.through.ensures.value) (back c.args.v (let h = c.requires.reading in omega arith)) f)
