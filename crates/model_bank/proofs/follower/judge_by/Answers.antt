use Rattle.std.proofs.Common.{IfOk, IfErr, refl, sym, subst}
use Rattle.plant_model.specs.Seen.{sample_of}
use Rattle.observer_step.specs.Seen.{certificate_in}
use Rattle.model_bank.specs.Claims.{SetsTake, SetsRefuse}
use Rattle.model_bank.specs.declared.claim.Claim.TheVariants.{Own}
use Rattle.model_bank.proofs.Judged.{sets-chosen, offer-taken, offer-refused}
use Rattle.model_bank.proofs.follower.judge_by.Goals as goal

pub returns-in-Own-clause-taken : goal.returns-in-Own-clause-taken
returns-in-Own-clause-taken g c =
    let p = c.args.plant.now in
    let s = sample_of c.args.sample.now in
    let e = c.args.estimate.now in
    let after = c.judge.new.self in
    let judged = c.judge.ensures in
    let takes : SetsTake p s e after Own c.judge.result = record {
      outs_are = judged.outs;
      is_claimed = refl;
      allowed = judged.outcome;
      sets_are = sets-chosen p s e after (certificate_in c.judge.result.outcome) judged.outcome judged.sets;
    } in
    subst (λ claim. SetsTake p s e after claim c.judge.result) (sym c.in-Own.is) takes

pub returns-in-Offered-clause-taken : goal.returns-in-Offered-clause-taken
returns-in-Offered-clause-taken g c =
    let p = c.args.plant.now in
    let s = sample_of c.args.sample.now in
    let e = c.args.estimate.now in
    let judged = c.judge_with.ensures in
    subst (λ claim. IfOk c.judge_with.result (SetsTake p s e c.judge_with.new.self claim)) (sym c.in-Offered.is)
    (offer-taken p s e c.judge_with.new.self c.in-Offered.offered c.judge_with.result judged.outs judged.outcome judged.sets)

pub returns-in-Offered-clause-refused : goal.returns-in-Offered-clause-refused
returns-in-Offered-clause-refused g c =
    let p = c.args.plant.now in
    let s = sample_of c.args.sample.now in
    let e = c.args.estimate.now in
    let judged = c.judge_with.ensures in
    subst (λ claim. IfErr c.judge_with.result (SetsRefuse p s e claim)) (sym c.in-Offered.is)
    (offer-refused p s e c.in-Offered.offered c.judge_with.result judged.outs judged.outcome)
