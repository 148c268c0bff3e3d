use Rattle.std.proofs.Common.{◌≡◌, ◌&&◌, true, is_none, ap, sym, ◌∙◌}
use Rattle.set_rules.specs.Farkas.{passes, first_candidate}
use Rattle.plant_model.specs.Seen.{sample_of}
use Rattle.observer_step.specs.Answers.{as_run_chooses, is_chosen}
use Rattle.observer_step.specs.Seen.{certificate_in}
use Rattle.observer_step.specs.Sets.{correct_sets_if}
use Rattle.observer_step.specs.SetsAnswers.{if_multipliers, is_allowed_of_sets}
use Rattle.observer_step.proofs.Judged.{chosen-then, chosen-judges}
use Rattle.observer_step.proofs.est.Est.judge.Given.{Over}
use Rattle.observer_step.proofs.est.Est.judge.Goals as goal
use Rattle.observer_step.proofs.est.Est.judge.Goals.{After-outcome_by-outcome}

-- the certificate may be chosen by the rows that are kept
chosen-here : (g : Over) (c : After-outcome_by-outcome g)
    → is_allowed_of_sets as_run_chooses c.args.plant.now (sample_of c.args.sample.now) c.args.self.now (certificate_in c.outcome_by-outcome.result) ≡ true
chosen-here g c =
    let found = certificate_in c.outcome_by-outcome.result in
    let d = c.pass-outs.result.due in
    chosen-then c.args.plant.now (sample_of c.args.sample.now) c.args.self.now c.pass-outs.new.self found d c.pass-outs.ensures.due c.pass-outs.ensures.sets
    ((λ i. is_chosen d (passes (sym c.rows.ensures.width i) (sym c.rows.ensures.rows i))
    (if_multipliers (first_candidate (sym c.rows.ensures.width i) (sym c.rows.ensures.rows i))) (c.outcome_by-outcome.ensures i)) ∙ c.certificate.ensures)

pub returns-clause-outcome : goal.returns-clause-outcome
returns-clause-outcome g c = chosen-here g (goal.at.returns-clause-outcome g c).After-outcome_by-outcome

pub returns-clause-stands : goal.returns-clause-stands
returns-clause-stands g c =
    let p = c.args.plant.now in
    let s = sample_of c.args.sample.now in
    let old = c.args.self.now in
    chosen-judges p s old c.pass-outs.new.self (certificate_in c.outcome_by-outcome.result) (chosen-here g (goal.at.returns-clause-stands g c).After-outcome_by-outcome)
    (c.pass-outs.ensures.sets ∙ ap (λ d. correct_sets_if (true && is_none d) p s old) c.pass-outs.ensures.due)
