use Rattle.std.proofs.Common.{ℕ, Bool, pos, length, slice_index_or, refl, sym, ◌∙◌}
use Rattle.set_rules.specs.Tests.{first_below}
use Rattle.fixed_mat.specs.declared.reading.Reading.TheVariants.{Missing}
use Rattle.plant_model.specs.Plant.{known}
use Rattle.plant_model.proofs.FirstBelow.{first_below-more, first_below-found}
use Rattle.observer_step.specs.Predicted.{reading_misses}
use Rattle.observer_step.proofs.readings.missed.Goals as goal

pub loop-o-init : goal.loop-o-init
unfolding first_below
loop-o-init c = refl

pub loop-o-preserved : goal.loop-o-preserved
loop-o-preserved c =
    let test : ℕ → Bool = λ o. reading_misses (slice_index_or c.args.outs.now o (pos 0, pos 0)) (known (slice_index_or c.args.readings.now o Missing)) in
    first_below-more test c.loop-o.o c.loop-o.invariant (sym c.misses.ensures ∙ c.if-misses.false)

pub returns-then-misses : goal.returns-then-misses
returns-then-misses c =
    let test : ℕ → Bool = λ o. reading_misses (slice_index_or c.args.outs.now o (pos 0, pos 0)) (known (slice_index_or c.args.readings.now o Missing)) in
    sym (first_below-found test (length c.args.outs.now) c.loop-o.o c.loop-o-test.true c.loop-o.invariant (sym c.misses.ensures ∙ c.if-misses.true))
