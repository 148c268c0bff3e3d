use Rattle.std.proofs.Common.{[], sym, ◌∙◌}
use Rattle.set_rules.specs.Keep.{without_rows}
use Rattle.observer_step.specs.Sets.{Sets}
use Rattle.observer_step.proofs.SetsHold.{sets-first}
use Rattle.observer_step.proofs.est.Est.begin.Goals as goal

pub returns-clause-ready : goal.returns-clause-ready
returns-clause-ready g c =
    (λ i. let e : Sets = record { plain = c.first_box.ensures.value i; constrained = (c.of.ensures.value ∙ (λ j. without_rows (c.first_box-2.ensures.value j))) i } in e) ∙ sym (sets-first c.args.plant.now [])
