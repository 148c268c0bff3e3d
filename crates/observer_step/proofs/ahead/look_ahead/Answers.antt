use Rattle.std.proofs.Common.{◌≡◌, ◌+◌, List, ℤ, [], get_or, Some, not, SFits, to_z-of_z, sym, ap, ◌∙◌, subst, arith, rules}
use Rattle.std.specs.List.{list_all}
use mir.Syntax.{w128}
use Rattle.fixed_mat.proofs.Columns.{pushes}
use Rattle.fixed_mat.proofs.Bits.{back}
use Rattle.fixed_mat.specs.declared.reading.Reading.TheVariants.{Missing, Value}
use Rattle.plant_model.specs.Plant.{Present, known}
use Rattle.plant_model.specs.Seen.{sample_of}
use Rattle.observer_step.specs.Predicted.{out_of}
use Rattle.observer_step.specs.Estimate.{row_of}
use Rattle.observer_step.specs.Seen.{is_printable_interval}
use Rattle.observer_step.specs.Ahead.{HasFirst, IsFirst}
use Rattle.observer_step.proofs.Intervals.{printable-more, printable-ends}
use Rattle.observer_step.proofs.FirstReadings.{none-found, still-first, found-stays}
use Rattle.observer_step.proofs.ahead.look_ahead.Goals as goal
use Rattle.observer_step.proofs.ahead.look_ahead.Goals.{in-Value, in_default, in_default-via-in-Value+else-is_none, in_default-via-in_default}

pub loop-o-preserved : goal.loop-o-preserved
loop-o-preserved g c =
    let p = c.args.plant.now in
    let s = sample_of c.args.sample.now in
    let z = c.args.set.now in
    elim c.match-deref-o.branch [
      | in-Value w ↦ record {
        made = ap (λ xs. xs.items) w.outs-is ∙ pushes [] _ _ _ _ _ c.loop-o.invariant.made w.push.ensures.items (w.row_and_interval-right.ensures.value ∙ ap (λ u. out_of p u z c.loop-o.o) w.deref-in-Value.ensures.0);
        printable = ap (λ xs. list_all is_printable_interval xs.items) w.outs-is ∙ ap (list_all is_printable_interval) w.push.ensures.items ∙ printable-more c.loop-o.outs.items w.row_and_interval-right.result.1 c.loop-o.invariant.printable (printable-ends w.row_and_interval-right.result.1 w.row_and_interval-right.ensures.low w.row_and_interval-right.ensures.high);
        first =
            let there : get_or c.deref.result.now c.loop-o.o Missing ≡ Value w.in-Value.v w.in-Value.slack = w.in-Value.is in
            let value_fits : SFits w128 w.in-Value.v = search rules in
            let slack_fits : SFits w128 w.in-Value.slack = search rules in
            let inputs_are = w.deref-in-Value.ensures.0 in
            let within = w.row_and_interval-right.ensures.within in
            let right = back w.row_and_interval-right.result.0 (omega arith) in
            let reading : Present = record { value = w.in-Value.v; slack = w.in-Value.slack } in
            let found : HasFirst p s z w.row_and_interval-right.new.row (c.loop-o.o + 1) c.loop-o.o w.row_and_interval-right.result.0 = record {
              below = omega arith;
              none_before = none-found p s z c.loop-o.row c.loop-o.o c.loop-o.first (w.is_none.ensures ∙ ap not w.if-is_none.true) c.loop-o.invariant.first;
              reading = reading;
              is = ap known (ap (λ xs. get_or xs c.loop-o.o Missing) (sym c.deref.ensures.0) ∙ there);
              within = within;
              row = w.row_and_interval-right.ensures.row ∙ (λ i. row_of p (inputs_are i) c.loop-o.o (record { value = to_z-of_z value_fits i; slack = to_z-of_z slack_fits i }) z);
            } in
            subst (λ f. IsFirst p s z c.match-deref-o.row (c.loop-o.o + 1) f) (sym (w.first-is ∙ (λ i. Some (record { output = c.loop-o.o; right = right i }))))
            (subst (λ (row : List ℤ). HasFirst p s z row (c.loop-o.o + 1) c.loop-o.o w.row_and_interval-right.result.0) (sym w.row-is) found);
      }
      | in_default w ↦ record {
        made = ap (λ xs. xs.items) w.outs-is ∙ pushes [] _ _ _ _ _ c.loop-o.invariant.made w.push-in_default.ensures.items (w.interval.ensures.value ∙ ap (λ u. out_of p u z c.loop-o.o) w.deref-in_default.ensures.0);
        printable = ap (λ xs. list_all is_printable_interval xs.items) w.outs-is ∙ ap (list_all is_printable_interval) w.push-in_default.ensures.items ∙ printable-more c.loop-o.outs.items w.interval.result c.loop-o.invariant.printable (printable-ends w.interval.result w.interval.ensures.low w.interval.ensures.high);
        first = (λ (f : IsFirst p s z c.loop-o.row (c.loop-o.o + 1) c.loop-o.first). subst (λ f. IsFirst p s z c.match-deref-o.row (c.loop-o.o + 1) f) (sym w.first-is) (subst (λ (row : List ℤ). IsFirst p s z row (c.loop-o.o + 1) c.loop-o.first) (sym w.row-is) f)) (elim w.in_default.branch [
          | in_default-via-in-Value+else-is_none w' ↦ found-stays p s z c.loop-o.row c.loop-o.o c.loop-o.first (w'.is_none.ensures ∙ ap not w'.if-is_none.false) c.loop-o.invariant.first
          | in_default-via-in_default w' ↦ (let missing : get_or c.deref.result.now c.loop-o.o Missing ≡ Missing = w'.in_default.is in still-first p s z c.loop-o.row c.loop-o.o c.loop-o.first (ap known (ap (λ xs. get_or xs c.loop-o.o Missing) (sym c.deref.ensures.0) ∙ missing)) c.loop-o.invariant.first)
        ]);
      }
    ]
