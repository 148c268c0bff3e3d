-- What a sample makes of a bank where certificates are offered for its models.
use Rattle.std.specs.Prelude.{◌≡◌, ℕ, ◌==◌, ℤ, Bool, true, false, List, ◌∷◌, ◌++◌, length, map, slice_index_or}
use Rattle.std.specs.Prelude.{Option, Some, None, option_map}
use Rattle.std.specs.Borrow.{Bor}
use Rattle.farkas_check.specs.Certificate.{Certificate, certificate_of}
use Rattle.farkas_check.specs.declared.certificate.Cert.{Cert}
use Rattle.plant_model.specs.Plant.{Sample}
use Rattle.observer_step.specs.Answers.{Rule, any_justified, as_run_chooses}
use Rattle.observer_step.specs.Predicted.{predicted_outs, due}
use Rattle.model_bank.specs.Answers.{ModelAnswer, SampleAnswer}
use Rattle.model_bank.specs.Bank.{Member, Bank}
use Rattle.model_bank.specs.Steps.{ahead_of, allowed_of, answers_of, members_after, all_allowed_of}
use Rattle.model_bank.specs.Steps.{bank_answer, bank_after}
use Rattle.model_bank.specs.Stepping.{Refusal}
use Rattle.model_bank.specs.declared.claim.Claim.{Claim}
use Rattle.model_bank.specs.declared.claim.Claim.TheVariants.{Own, Offered}

-- the claim on model i: what is offered for it, or its own choice where nothing is offered for any
abbrev pub claim_at : Option (Bor (List (Option Cert))) → ℕ → Claim
claim_at None i = Own
claim_at (Some offers) i = Offered (slice_index_or offers.now i None)

-- the rule by which the claims are allowed
abbrev pub rule_for : Option (Bor (List (Option Cert))) → Rule
rule_for None = as_run_chooses
rule_for (Some offers) = any_justified

-- the certificates, or none, that are claimed where the models' own choices are these
abbrev pub all_claimed : Option (Bor (List (Option Cert))) → List (Option Certificate) → List (Option Certificate)
all_claimed None own = own
all_claimed (Some offers) own = map (option_map certificate_of) offers.now

-- the rule of the claims allows what is claimed of each live member, and these are seen of the live ones and left of all
pub record MembersTake (is_first : Bool) (u : List ℤ) (s : Sample) (offered : Option (Bor (List (Option Cert)))) (old : List Member)
    (seen : List ModelAnswer) (new : List Member) : Type 0 where
  pub certificates : List (Option Certificate)
  pub are_claimed : certificates ≡ all_claimed offered certificates
  pub allowed : all_allowed_of (rule_for offered) is_first u s old certificates ≡ true
  pub seen_are : seen ≡ answers_of is_first u s 0 old certificates
  pub new_are : new ≡ members_after is_first u s old certificates

-- the first live member of which what is offered is not justified
pub record RefusesMember (is_first : Bool) (u : List ℤ) (s : Sample) (offered : Option (Bor (List (Option Cert)))) (ms : List Member)
    (refusal : Refusal) : Type 0 where
  pub below : List Member
  pub claims_below : List (Option Certificate)
  pub member : Member
  pub above : List Member
  pub claims_above : List (Option Certificate)
  pub members_are : ms ≡ below ++ member ∷ above
  pub claims_are : (own : List (Option Certificate)) → all_claimed offered own ≡ claims_below ++ refusal.offered ∷ claims_above
  pub model_is : refusal.model ≡ length below
  pub live : member.live ≡ true
  pub justified_below : all_allowed_of any_justified is_first u s below claims_below ≡ true
  pub not_justified : allowed_of any_justified is_first u s member refusal.offered ≡ false
  pub due_is : refusal.due ≡ due member.plant s (ahead_of is_first u member).plain
  pub before_are : refusal.before ≡ answers_of is_first u s 0 below claims_below
  pub predicted_are : refusal.predicted ≡ predicted_outs member.plant s.inputs (ahead_of is_first u member).plain

-- the bank takes the sample by what is claimed
pub record BankTakes (s : Sample) (offered : Option (Bor (List (Option Cert)))) (old : Bank) (seen : SampleAnswer)
    (new : Bank) : Type 0 where
  pub certificates : List (Option Certificate)
  pub are_claimed : certificates ≡ all_claimed offered certificates
  pub allowed : all_allowed_of (rule_for offered) (old.count == 0) old.last_inputs s old.members certificates ≡ true
  pub seen_is : seen ≡ bank_answer s old certificates
  pub new_is : new ≡ bank_after s old certificates

-- a model of the bank refuses what is offered
abbrev pub BankRefuses : Sample → Option (Bor (List (Option Cert))) → Bank → Refusal → Type 0
BankRefuses s offered b refusal = RefusesMember (b.count == 0) b.last_inputs s offered b.members refusal
