-- What taking a sample does to a bank, for every list of samples and of live models that it stands for.
use Rattle.std.specs.Prelude.{◌≡◌, ℕ, ℤ, Bool, true, false, List, [], ◌∷◌, ◌++◌, length, Option}
use Rattle.farkas_check.specs.Certificate.{Certificate}
use Rattle.plant_model.specs.Plant.{Plant, Sample}
use Rattle.observer_step.specs.Answers.{Rule, any_justified, as_run_chooses, answer_with, due_at, allows_at}
use Rattle.observer_step.specs.SetsAnswers.{sets_observer}
use Rattle.model_bank.specs.Answers.{ModelAnswer, SampleAnswer, sample_answer, answers_from, live_after, all_allowed}
use Rattle.model_bank.specs.Bank.{Bank, BankStands}

-- the rule allows these certificates, what is seen is the answer of the definitions with them on the samples with this one added,
-- and the bank then stands for those
pub record TakesBy (rule : Rule) (s : Sample) (cs : List (Option Certificate)) (plants : List Plant) (samples : List Sample)
    (lives : List Bool) (seen : SampleAnswer) (new : Bank) : Type 0 where
  pub allowed : all_allowed rule sets_observer plants lives cs (samples ++ s ∷ []) (length samples) ≡ true
  pub answer : seen ≡ sample_answer sets_observer plants lives cs (samples ++ s ∷ []) (length samples)
  pub stands : BankStands plants (samples ++ s ∷ []) (live_after lives cs) new

-- whatever the bank stands for, it takes the sample so
abbrev pub TakesAny : Rule → Sample → List (Option Certificate) → Bank → SampleAnswer → Bank → Type 0
TakesAny rule s cs old seen new = (plants : List Plant) (samples : List Sample) (lives : List Bool)
    → BankStands plants samples lives old → TakesBy rule s cs plants samples lives seen new

-- it takes it with some certificates that `run` may choose
abbrev pub TakesChosen : Sample → Bank → SampleAnswer → Bank → Type 0
TakesChosen s old seen new = (cs : List (Option Certificate)) × TakesAny as_run_chooses s cs old seen new

-- what is told where an offer is not justified: the model, the answers on the live ones below it, its predicted
-- output intervals, the output that is due for it, and its offer
pub record Refusal : Type 0 where
  pub model : ℕ
  pub before : List ModelAnswer
  pub predicted : List (ℤ × ℤ)
  pub due : Option ℕ
  pub offered : Option Certificate

-- the models below the refused one, and that one: what is offered to those is justified, and what is offered to it is not
pub record RefusesOffer (s : Sample) (offers : List (Option Certificate)) (plants : List Plant) (samples : List Sample) (lives : List Bool)
    (refusal : Refusal) : Type 0 where
  pub plants_below : List Plant
  pub lives_below : List Bool
  pub offers_below : List (Option Certificate)
  pub plant : Plant
  pub plants_above : List Plant
  pub lives_above : List Bool
  pub offers_above : List (Option Certificate)
  pub plants_are : plants ≡ plants_below ++ plant ∷ plants_above
  pub lives_are : lives ≡ lives_below ++ true ∷ lives_above
  pub offers_are : offers ≡ offers_below ++ refusal.offered ∷ offers_above
  pub model_is : refusal.model ≡ length plants_below
  pub as_many_lives : length lives_below ≡ length plants_below
  pub justified_below : all_allowed any_justified sets_observer plants_below lives_below offers_below (samples ++ s ∷ []) (length samples) ≡ true
  pub not_justified : allows_at any_justified sets_observer plant (samples ++ s ∷ []) (length samples) refusal.offered ≡ false
  pub due_is : refusal.due ≡ due_at sets_observer plant (samples ++ s ∷ []) (length samples)
  pub before_are : refusal.before ≡ answers_from sets_observer 0 plants_below lives_below offers_below (samples ++ s ∷ []) (length samples)
  pub predicted_are : refusal.predicted ≡ (answer_with sets_observer plant (samples ++ s ∷ []) (length samples) refusal.offered).predicted

-- whatever the bank stands for, it takes the offers, and each is justified
abbrev pub TakesAnyOffers : Sample → List (Option Certificate) → Bank → SampleAnswer → Bank → Type 0
TakesAnyOffers = TakesAny any_justified

-- whatever the bank stands for, it refuses an offer
abbrev pub RefusesAnOffer : Sample → List (Option Certificate) → Bank → Refusal → Type 0
RefusesAnOffer s offers old refusal = (plants : List Plant) (samples : List Sample) (lives : List Bool)
    → BankStands plants samples lives old → RefusesOffer s offers plants samples lives refusal
