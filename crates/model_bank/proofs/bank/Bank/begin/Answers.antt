use Rattle.std.proofs.Common.{length, map, ap, ◌∙◌}
use Rattle.model_bank.specs.Bank.{begun}
use Rattle.model_bank.proofs.BankBegun.{limits-begun, stands-begun}
use Rattle.model_bank.proofs.bank.Bank.begin.Goals as goal

pub invariant_of-result : goal.invariant_of-result
invariant_of-result c =
    limits-begun c.args.models c.into_models.ensures.limits c.len-inputs.result c.len-outputs.result c.in_ok-members.members.items c.new.result.items
    (c.len-inputs.ensures.value ∙ ap length c.inputs.ensures.value) (c.len-outputs.ensures.value ∙ ap length c.outputs.ensures.value)
    (c.in_ok-members.ensures ∙ ap (map (λ n. begun n.plant)) c.into_models.ensures.models) c.new.ensures

pub returns-clause-stands : goal.returns-clause-stands
returns-clause-stands c =
    stands-begun c.args.models c.into_models.ensures.limits c.len-inputs.result c.len-outputs.result c.in_ok-members.members.items c.new.result.items
    (c.len-inputs.ensures.value ∙ ap length c.inputs.ensures.value) (c.len-outputs.ensures.value ∙ ap length c.outputs.ensures.value)
    (c.in_ok-members.ensures ∙ ap (map (λ n. begun n.plant)) c.into_models.ensures.models) c.new.ensures
