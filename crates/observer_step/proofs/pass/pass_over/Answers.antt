use Rattle.std.proofs.Common.{◌≡◌, length, sym, ap, ◌∙◌}
use Rattle.plant_model.specs.Seen.{sample_of}
use Rattle.observer_step.specs.Predicted.{predicted_outs}
use Rattle.observer_step.proofs.Judged.{length-outs, missed-is_due}
use Rattle.observer_step.proofs.pass.pass_over.Given.{Over}
use Rattle.observer_step.proofs.pass.pass_over.Goals as goal
use Rattle.observer_step.proofs.pass.pass_over.Goals.{After-deref}

outs-are : (g : Over) (c : After-deref g) → c.deref.result.now ≡ predicted_outs c.args.plant.now c.args.sample.now.u.items c.args.set.now
outs-are g c = c.deref.ensures.0 ∙ c.look_ahead-outs.ensures.value

pub missed-due-requires-clause-count : goal.missed-due-requires-clause-count
missed-due-requires-clause-count g c =
    ap length c.deref-2.ensures.0 ∙ c.requires.outputs
    ∙ sym (length-outs c.args.plant.now c.args.sample.now.u.items c.args.set.now c.deref.result.now (outs-are g (goal.at.missed-due-requires-clause-count g c).After-deref))

pub returns-clause-due : goal.returns-clause-due
returns-clause-due g c =
    missed-is_due c.args.plant.now (sample_of c.args.sample.now) c.args.set.now c.deref.result.now c.deref-2.result.now c.missed-due.result
    (outs-are g (goal.at.returns-clause-due g c).After-deref) c.deref-2.ensures.0 c.missed-due.ensures
