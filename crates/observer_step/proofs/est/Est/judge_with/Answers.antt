use Rattle.std.proofs.Common.{◌≡◌, ◌&&◌, true, not, is_none, Option, option_map, sym, ◌∙◌}
use Rattle.set_rules.specs.Farkas.{passes}
use Rattle.farkas_check.specs.Certificate.{Certificate, certificate_of}
use Rattle.plant_model.specs.Seen.{sample_of}
use Rattle.observer_step.specs.Answers.{is_justified}
use Rattle.observer_step.specs.Seen.{certificate_in}
use Rattle.observer_step.specs.Sets.{correct_sets_if}
use Rattle.observer_step.specs.SetsAnswers.{is_justified_of_sets, sets_offered}
use Rattle.observer_step.proofs.Judged.{justified-then, justifies}
use Rattle.observer_step.proofs.est.Est.judge_with.Goals as goal

pub returns-clause-stands : goal.returns-clause-stands
returns-clause-stands g c =
    let p = c.args.plant.now in
    let s = sample_of c.args.sample.now in
    let old = c.args.self.now in
    let new = c.pass-outs.new.self in
    let offered : Option Certificate = option_map certificate_of c.args.offered in
    let due_is = c.pass-outs.ensures.due in
    let sets : new ≡ sets_offered p s old offered =
    c.pass-outs.ensures.sets ∙ (λ i. correct_sets_if (not (c.offers_output-wanted.ensures i) && is_none (due_is i)) p s old) in
    let kept : is_justified c.pass-outs.result.due (passes c.rows.result.now.width c.rows.result.now.rows) offered ≡ true = sym c.is_justified.ensures ∙ c.if-not-is_justified.false in
    let justified : is_justified_of_sets p s old offered ≡ true =
    justified-then p s old new offered c.pass-outs.result.due due_is sets
    ((λ i. is_justified c.pass-outs.result.due (passes (sym c.rows.ensures.width i) (sym c.rows.ensures.rows i)) offered) ∙ kept) in
    justifies p s old new (certificate_in c.outcome_by-outcome.result) offered c.outcome_by-outcome.ensures justified sets
