use Rattle.std.proofs.Common.{[]}
use Rattle.std.proofs.lemmas.Result.{on_ok_weaker, IfErr-weaker}
use Rattle.plant_model.specs.Seen.{sample_of}
use Rattle.model_bank.specs.Seen.{sample_seen, offers_seen, refusal_with}
use Rattle.model_bank.specs.Stepping.{RefusesAnOffer}
use Rattle.model_bank.proofs.Offered.{offers-taken, claims-refused}
use Rattle.model_bank.proofs.bank.Bank.step_with_into.Goals as goal

pub returns-clause-taken : goal.returns-clause-taken
returns-clause-taken c =
    on_ok_weaker c.take.result
    (offers-taken (sample_of c.args.sample.now) c.args.offered c.args.self.now (sample_seen c.take.new.earlier) c.take.new.self)
    c.take.ensures.taken

pub returns-clause-refused : goal.returns-clause-refused
returns-clause-refused c =
    let s = sample_of c.args.sample.now in
    let b = c.args.self.now in
    IfErr-weaker c.take.result _ (λ refused. RefusesAnOffer s (offers_seen c.args.offered.now) b (refusal_with refused c.take.new.earlier.models.items))
    (λ refused refuses plants samples lives stands. claims-refused s _ b (refusal_with refused c.take.new.earlier.models.items) refuses [] plants samples lives stands) c.take.ensures.refused
