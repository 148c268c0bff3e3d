use Rattle.std.proofs.Common.{◌≡◌, [], is_none, if◌then◌else◌, sym, ap, ◌∙◌}
use Rattle.plant_model.specs.Seen.{sample_of}
use Rattle.observer_step.specs.Predicted.{hulls}
use Rattle.observer_step.specs.Sets.{correct_sets}
use Rattle.observer_step.specs.Seen.{was_widened, certificate_in}
use Rattle.model_bank.proofs.Judged.{hulls-judged, no_hulls-judged, answer-judged}
use Rattle.model_bank.proofs.follower.judge.Goals as goal
use Rattle.model_bank.proofs.follower.judge.Goals.{then-fits, else-fits}

pub returns-after-fits-clause-taken : goal.returns-after-fits-clause-taken
returns-after-fits-clause-taken g c =
    let p = c.args.plant.now in
    let s = sample_of c.args.sample.now in
    let z = c.args.estimate.now in
    let after = c.judge_by.new.estimate in
    let certificate = certificate_in c.in-Ok.field-0.outcome in
    let taken = c.in-Ok.ensures.taken in
    let fits = c.fits.ensures in
    let hs : c.if-fits.hulls.items ≡ (if is_none certificate then hulls p (correct_sets p s z).plain else []) =
    elim c.if-fits.branch [
      | then-fits w ↦ hulls-judged p s z after certificate taken.sets_are c.if-fits.hulls.items (sym fits ∙ w.if-fits.true) (ap (λ v. v.items) w.hulls-is ∙ w.hulls-hulls.ensures.value)
      | else-fits w ↦ no_hulls-judged p s z after certificate taken.sets_are c.if-fits.hulls.items (sym fits ∙ w.if-fits.false) (ap (λ v. v.items) w.hulls-is ∙ w.new-hulls.ensures)
    ] in
    record {
      certificate = certificate;
      is_claimed = taken.is_claimed;
      allowed = taken.allowed;
      seen_is = answer-judged p s z after certificate taken.sets_are c.args.index (was_widened c.args.kept) c.in-Ok.field-0.outs.items c.if-fits.hulls.items taken.outs_are hs;
      sets_are = taken.sets_are;
    }
