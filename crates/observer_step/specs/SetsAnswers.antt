-- What both sets say of a sample.
use Rattle.std.specs.Prelude.{◌≡◌, ℤ, Bool, true, false, not, ◌&&◌, List, [], ◌∷◌, ◌++◌, length, Option, None, Some, option_map, is_none, if◌then◌else◌, Result, Ok, Err}
use Rattle.set_rules.specs.Rows.{Czono}
use Rattle.set_rules.specs.Farkas.{passes, first_candidate}
use Rattle.farkas_check.specs.Certificate.{Certificate, certificate_of}
use Rattle.farkas_check.specs.Multipliers.{are_multipliers}
use Rattle.farkas_check.specs.declared.certificate.Cert.{Cert}
use Rattle.plant_model.specs.Plant.{Plant, Sample}
use Rattle.observer_step.specs.Predicted.{due}
use Rattle.observer_step.specs.Answers.{Observer, Rule, any_justified, as_run_chooses, is_allowed, allows_at}
use Rattle.observer_step.specs.Offers.{offers_output}
use Rattle.observer_step.specs.Seen.{certificate_in}
use Rattle.observer_step.specs.declared.outcome.Outcome.{Outcome}
use Rattle.observer_step.specs.declared.outcome.NotJustified.{NotJustified}
use Rattle.observer_step.specs.Sets.{Sets, correct_sets, correct_sets_if, predicted_sets, corrected_sets, sets_widened, SetsReady, SetsCorrected}

-- the multipliers refute the rows of the set
abbrev pub refutes_kept : Czono → List ℤ → Bool
refutes_kept z list = passes (length z.base.columns) z.rows list

-- the list, where its numbers are multipliers
abbrev pub if_multipliers : Option (List ℤ) → Option (List ℤ)
if_multipliers None = None
if_multipliers (Some list) = if are_multipliers list then Some list else None

-- the first candidate that refutes them; one whose numbers are no multipliers would be none
abbrev pub candidate_of : Czono → Option (List ℤ)
candidate_of z = if_multipliers (first_candidate (length z.base.columns) z.rows)

-- the estimate of both sets: what it says is read off the plain one, and the rows are those of the other
abbrev pub sets_observer : Observer
sets_observer = record {
  predicted = λ p samples k. (predicted_sets p samples k).plain;
  corrected = λ p samples k. (corrected_sets p samples k).plain;
  widened = sets_widened;
  refutes = λ p samples k. refutes_kept (corrected_sets p samples k).constrained;
  candidate = λ p samples k. candidate_of (corrected_sets p samples k).constrained;
}

-- the rule allows the certificate, or none, for the sample: by the output that is due, and by the rows kept then
abbrev pub is_allowed_of_sets : Rule → Plant → Sample → Sets → Option Certificate → Bool
is_allowed_of_sets rule p s e c = let z = (correct_sets p s e).constrained in
    is_allowed rule (due p s e.plain) (refutes_kept z) (candidate_of z) c

-- both sets after the sample: they take the readings where no output is due and none is offered
abbrev pub sets_offered : Plant → Sample → Sets → Option Certificate → Sets
sets_offered p s e offered = correct_sets_if (not (offers_output offered) && is_none (due p s e.plain)) p s e

-- what is offered is justified: it is the due certificate; or none is due, and it is none, or multipliers that refute the rows kept then
abbrev pub is_justified_of_sets : Plant → Sample → Sets → Option Certificate → Bool
is_justified_of_sets = is_allowed_of_sets any_justified

-- what `run` may choose is justified
abbrev pub ChosenIsJustified : Type 0
ChosenIsJustified = (p : Plant) (s : Sample) (e : Sets) (c : Option Certificate)
    → is_allowed_of_sets as_run_chooses p s e c ≡ true → is_justified_of_sets p s e c ≡ true

-- what is offered is justified, and it is the outcome
pub record SetsTake (p : Plant) (s : Sample) (e : Sets) (offered : Option Cert) (outcome : Outcome) : Type 0 where
  pub justified : is_justified_of_sets p s e (option_map certificate_of offered) ≡ true
  pub is : certificate_in outcome ≡ option_map certificate_of offered

-- what is offered is not justified, and it is told with what is due
pub record SetsRefuse (p : Plant) (s : Sample) (e : Sets) (offered : Option Cert) (why : NotJustified) : Type 0 where
  pub not_justified : is_justified_of_sets p s e (option_map certificate_of offered) ≡ false
  pub due_is : why.due ≡ due p s e.plain
  pub offered_is : why.offered ≡ offered

-- the answer to an offer
abbrev pub SetsAnswer : Plant → Sample → Sets → Option Cert → Result Outcome NotJustified → Type 0
SetsAnswer p s e offered (Ok outcome) = SetsTake p s e offered outcome
SetsAnswer p s e offered (Err why) = SetsRefuse p s e offered why

-- where e is ready for the sample s after some samples, the rule allows the certificate, or none, there; and if there is none, e' is
-- corrected by s
abbrev pub Judges : Rule → Plant → Sample → Sets → Sets → Option Certificate → Type 0
Judges rule p s e e' cert = (samples : List Sample) → SetsReady p samples e
    → (allows_at rule sets_observer p (samples ++ s ∷ []) (length samples) cert ≡ true)
    × (cert ≡ None → SetsCorrected p (samples ++ s ∷ []) e')
