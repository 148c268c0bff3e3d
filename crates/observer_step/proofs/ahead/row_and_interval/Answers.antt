use Rattle.std.proofs.Common.{◌≡◌, ◌∙◌, arith, to_z, of_z, to_z-of_z}
use mir.Syntax.{w128}
use Rattle.fixed_mat.proofs.Bits.{back}
use Rattle.set_rules.specs.Rows.{Row}
use Rattle.plant_model.specs.Plant.{Present}
use Rattle.observer_step.specs.Estimate.{row_of}
use Rattle.observer_step.proofs.Intervals.{interval_in, interval-of_row}
use Rattle.observer_step.proofs.ahead.row_and_interval.Given.{Over}
use Rattle.observer_step.proofs.ahead.row_and_interval.Goals as goal
use Rattle.observer_step.proofs.ahead.row_and_interval.Goals.{After-fill_row-right}

module _ (g : Over) (c : After-fill_row-right g) where
  abbrev reading : Present
  reading = record { value = c.args.v; slack = c.args.slack }

  v_is : to_z w128 (of_z w128 c.args.v) ≡ c.args.v
  v_is = to_z-of_z c.ranges.v

  slack_is : to_z w128 (of_z w128 c.args.slack) ≡ c.args.slack
  slack_is = to_z-of_z c.ranges.slack

  right_is : to_z w128 (of_z w128 c.fill_row-right.result) ≡ c.fill_row-right.result
  right_is = back c.fill_row-right.result (let h = c.fill_row-right.ensures.within in omega arith)

  abbrev made : Row
  made = record { coefficients = c.fill_row-right.new.row; right = c.fill_row-right.result }

  row-is : made ≡ row_of c.args.plant.now c.args.u.now c.args.o reading c.args.set.now
  row-is = (λ i. record { coefficients = c.fill_row-right.ensures.coefficients i; right = c.fill_row-right.ensures.right i })
      ∙ (λ i. row_of c.args.plant.now c.args.u.now c.args.o (record { value = v_is i; slack = slack_is i }) c.args.set.now)

pub returns-clause-row : goal.returns-clause-row
returns-clause-row g c =
    let here = (goal.at.returns-clause-row g c).After-fill_row-right in
    (λ i. record { coefficients = c.fill_row-right.new.row; right = right_is g here i }) ∙ row-is g here

pub returns-clause-value : goal.returns-clause-value
returns-clause-value g c =
    let here = (goal.at.returns-clause-value g c).After-fill_row-right in
    let noise = c.noise.ensures.value in
    let low = c.noise.ensures.low in
    c.interval_of_row.ensures.value ∙ (λ i. interval_in (v_is g here i) (slack_is g here i) (record { coefficients = c.fill_row-right.new.row; right = right_is g here i }))
    ∙ interval-of_row c.args.plant.now c.args.u.now c.args.o (reading g here) c.args.set.now (rw noise at low) c.requires.slack_low (made g here) (row-is g here)
