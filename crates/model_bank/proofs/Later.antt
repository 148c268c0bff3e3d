-- Later samples change nothing of what is said of earlier ones.
use Rattle.std.proofs.Common.{◌≡◌, ℕ, ◌+◌, ◌<◌, ℤ, Bool, not, ◌&&◌, ◌||◌, is_none, List, [], ◌∷◌, ◌++◌, length, Option, if◌then◌else◌, refl}
use Rattle.set_rules.specs.Zono.{Zono}
use Rattle.farkas_check.specs.Certificate.{Certificate}
use Rattle.isolate_core.specs.Verdict.{verdict_of, possible_models}
use Rattle.plant_model.specs.Plant.{Plant, Sample}
use Rattle.observer_step.specs.Predicted.{predicted_outs, hulls}
use Rattle.observer_step.specs.Answers.{Answer, Rule, is_allowed, allows_at, answer_with}
use Rattle.observer_step.specs.SetsAnswers.{sets_observer}
use Rattle.observer_step.proofs.Later.{sample-same, predicted-same, corrected-same, widened-same, due-same, refutes-same, candidate-same}
use Rattle.model_bank.specs.Answers.{answer_if, answers_from, live_after, all_allowed, sample_answer}

module _ (samples more : List Sample) where
  abbrev all : List Sample
  all = samples ++ more

  -- of one model
  module _ (p : Plant) where
    pub allows-same : (rule : Rule) (k : ℕ) (c : Option Certificate) → k < length samples → allows_at rule sets_observer p all k c ≡ allows_at rule sets_observer p samples k c
    allows-same rule k c h = λ i. is_allowed rule (due-same samples more p k h i) (refutes-same samples more p k h i) (candidate-same samples more p k h i) c

    -- the answer, by its parts
    abbrev answer_by : List ℤ → Zono → Bool → Option Certificate → Zono → Answer
    answer_by u z widened c corrected = record {
      predicted = predicted_outs p u z;
      is_widened = widened;
      certificate = c;
      hulls = if is_none c then hulls p corrected else [];
    }

    pub answer-same : (k : ℕ) (c : Option Certificate) → k < length samples → answer_with sets_observer p all k c ≡ answer_with sets_observer p samples k c
    answer-same k c h =
        λ i. answer_by (sample-same samples more k h i).inputs (predicted-same samples more p k h i).plain (widened-same samples more p k h i) c (corrected-same samples more p k h i).plain

  -- of all models
  module _ (k : ℕ) (h : k < length samples) where
    pub answers-same : (i : ℕ) (ps : List Plant) (lives : List Bool) (cs : List (Option Certificate)) → answers_from sets_observer i ps lives cs all k ≡ answers_from sets_observer i ps lives cs samples k
    answers-same i [] lives cs = refl
    answers-same i (p ∷ ps) [] cs = refl
    answers-same i (p ∷ ps) (live ∷ lives) [] = refl
    answers-same i (p ∷ ps) (live ∷ lives) (c ∷ cs) = λ j. answer_if live i (answer-same p k c h j) (answers-same (i + 1) ps lives cs j)

    pub allowed-same : (rule : Rule) (ps : List Plant) (lives : List Bool) (cs : List (Option Certificate)) → all_allowed rule sets_observer ps lives cs all k ≡ all_allowed rule sets_observer ps lives cs samples k
    allowed-same rule [] [] [] = refl
    allowed-same rule [] [] (c ∷ cs) = refl
    allowed-same rule [] (live ∷ lives) cs = refl
    allowed-same rule (p ∷ ps) [] cs = refl
    allowed-same rule (p ∷ ps) (live ∷ lives) [] = refl
    allowed-same rule (p ∷ ps) (live ∷ lives) (c ∷ cs) = λ j. (not live || allows-same p rule k c h j) && allowed-same rule ps lives cs j

    pub sample_answer-same : (ps : List Plant) (lives : List Bool) (cs : List (Option Certificate)) → sample_answer sets_observer ps lives cs all k ≡ sample_answer sets_observer ps lives cs samples k
    sample_answer-same ps lives cs = λ j. record {
      k = k;
      models = answers-same 0 ps lives cs j;
      possible = live_after lives cs;
      verdict = verdict_of (possible_models (live_after lives cs));
    }
