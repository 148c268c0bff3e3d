use Rattle.std.proofs.Common.{refl}
use Rattle.plant_model.specs.Seen.{sample_of}
use Rattle.model_bank.specs.Seen.{sample_seen}
use Rattle.model_bank.proofs.Offered.{when-ok, own-taken}
use Rattle.model_bank.proofs.bank.Bank.step_into.Goals as goal

pub returns-clause-taken : goal.returns-clause-taken
returns-clause-taken c =
    own-taken (sample_of c.args.sample.now) c.args.self.now (sample_seen c.take.new.earlier) c.take.new.self (when-ok c.take.result (c.take.ensures.due refl) c.take.ensures.taken)
