-- What a sample makes of a model that is judged by a claim.
use Rattle.std.specs.Prelude.{◌≡◌, ℕ, ℤ, Bool, true, false, not, ◌||◌, List, Option, option_map}
use Rattle.farkas_check.specs.Certificate.{Certificate, certificate_of}
use Rattle.plant_model.specs.Plant.{Plant, Sample}
use Rattle.observer_step.specs.Answers.{Rule, any_justified, as_run_chooses}
use Rattle.observer_step.specs.Predicted.{predicted_outs, due}
use Rattle.observer_step.specs.Sets.{Sets}
use Rattle.observer_step.specs.SetsAnswers.{is_allowed_of_sets, is_justified_of_sets}
use Rattle.observer_step.specs.Seen.{certificate_in}
use Rattle.observer_step.specs.declared.outcome.Judgement.{Judgement}
use Rattle.observer_step.specs.declared.outcome.Unjustified.{Unjustified}
use Rattle.model_bank.specs.Answers.{ModelAnswer}
use Rattle.model_bank.specs.Bank.{Member}
use Rattle.model_bank.specs.Steps.{answer_on, sets_on}
use Rattle.model_bank.specs.Steps.{ahead_of, allowed_of, told_of, member_after}
use Rattle.model_bank.specs.declared.claim.Claim.{Claim}
use Rattle.model_bank.specs.declared.claim.Claim.TheVariants.{Own, Offered}

-- the certificate, or none, that is claimed where the model's own choice is this one
abbrev pub claimed : Claim → Option Certificate → Option Certificate
claimed Own own = own
claimed (Offered offered) own = option_map certificate_of offered

-- the rule by which a claim is allowed
abbrev pub rule_of : Claim → Rule
rule_of Own = as_run_chooses
rule_of (Offered offered) = any_justified

-- where e are the predicted sets, the outcome is what is claimed, the rule of the claim allows it, and the sets are then e'
pub record SetsTake (p : Plant) (s : Sample) (e e' : Sets) (claim : Claim) (judgement : Judgement) : Type 0 where
  pub outs_are : judgement.outs.items ≡ predicted_outs p s.inputs e.plain
  pub is_claimed : certificate_in judgement.outcome ≡ claimed claim (certificate_in judgement.outcome)
  pub allowed : is_allowed_of_sets (rule_of claim) p s e (certificate_in judgement.outcome) ≡ true
  pub sets_are : e' ≡ sets_on p s e (certificate_in judgement.outcome)

-- where e are the predicted sets, what is offered is not justified; it and the output that is due are told
pub record SetsRefuse (p : Plant) (s : Sample) (e : Sets) (claim : Claim) (unjustified : Unjustified) : Type 0 where
  pub claim_is : claim ≡ Offered unjustified.why.offered
  pub not_justified : is_justified_of_sets p s e (option_map certificate_of unjustified.why.offered) ≡ false
  pub due_is : unjustified.why.due ≡ due p s e.plain
  pub outs_are : unjustified.outs.items ≡ predicted_outs p s.inputs e.plain

-- the same of model i, of which this is seen, with some certificate or none
pub record ModelTakes (p : Plant) (s : Sample) (e e' : Sets) (is_widened : Bool) (claim : Claim) (i : ℕ)
    (seen : ModelAnswer) : Type 0 where
  pub certificate : Option Certificate
  pub is_claimed : certificate ≡ claimed claim certificate
  pub allowed : is_allowed_of_sets (rule_of claim) p s e certificate ≡ true
  pub seen_is : seen ≡ record { index = i; answer = answer_on p s e is_widened certificate }
  pub sets_are : e' ≡ sets_on p s e certificate

-- the same of model i of a bank: where it is live, the rule of the claim allows the certificate, and this is told
pub record MemberTakes (is_first : Bool) (u : List ℤ) (s : Sample) (i : ℕ) (old new : Member) (claim : Claim)
    (told : Option ModelAnswer) : Type 0 where
  pub certificate : Option Certificate
  pub is_claimed : certificate ≡ claimed claim certificate
  pub allowed : (not old.live || allowed_of (rule_of claim) is_first u s old certificate) ≡ true
  pub told_is : told ≡ told_of is_first u s i old certificate
  pub new_is : new ≡ member_after is_first u s old certificate

-- a live model of a bank refuses what is offered
pub record MemberRefuses (is_first : Bool) (u : List ℤ) (s : Sample) (old : Member) (claim : Claim)
    (unjustified : Unjustified) : Type 0 where
  pub live : old.live ≡ true
  pub refuses : SetsRefuse old.plant s (ahead_of is_first u old) claim unjustified
