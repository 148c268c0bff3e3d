-- What an estimate says of a sample depends on the samples up to it alone, and its candidates refute.
use Rattle.std.proofs.Common.{◌≡◌, ℕ, zero, suc, ◌<◌, List, [], ◌∷◌, ◌++◌, length, Option, Some, None, Bool, true, false, ◌&&◌, if◌then◌else◌, cond, find, ℤ, refl, sym, ap, ◌∙◌, arith}
use Rattle.std.proofs.lemmas.List.{get_or_append_left}
use Rattle.set_rules.specs.Rows.{Czono}
use Rattle.set_rules.specs.Farkas.{passes, candidates, first_candidate}
use Rattle.farkas_check.specs.Multipliers.{are_multipliers}
use Rattle.plant_model.specs.Plant.{Plant, Sample, no_sample, sample_at}
use Rattle.observer_step.specs.Predicted.{due}
use Rattle.observer_step.specs.Answers.{Rule, due_at, certificate_at, allows_at}
use Rattle.observer_step.specs.Sets.{either_leaves, correct_sets, predicted_sets, corrected_sets, sets_widened}
use Rattle.observer_step.specs.SetsAnswers.{sets_observer, refutes_kept, candidate_of, if_multipliers, ChosenIsJustified}
use Rattle.observer_step.proofs.SetsHold.{later-sets}
use Rattle.observer_step.proofs.Chosen.{chosen-justified}
use Rattle.observer_step.proofs.Offered.{given-allowed}

module _ (samples more : List Sample) where
  abbrev all : List Sample
  all = samples ++ more

  pub sample-same : (k : ℕ) → k < length samples → sample_at all k ≡ sample_at samples k
  sample-same k h = get_or_append_left samples more no_sample k h

  module _ (p : Plant) where
    pub predicted-same : (k : ℕ) → k < length samples → predicted_sets p all k ≡ predicted_sets p samples k
    predicted-same k h = later-sets p samples more k (omega arith)

    pub corrected-same : (k : ℕ) → k < length samples → corrected_sets p all k ≡ corrected_sets p samples k
    corrected-same k h = λ i. correct_sets p (sample-same k h i) (predicted-same k h i)

    pub widened-same : (k : ℕ) → k < length samples → sets_widened p all k ≡ sets_widened p samples k
    widened-same zero h = refl
    widened-same (suc k) h =
        let before : k < length samples = omega arith in
        λ i. either_leaves p (sample-same k before i).inputs (corrected-same k before i)

    pub due-same : (k : ℕ) → k < length samples → due_at sets_observer p all k ≡ due_at sets_observer p samples k
    due-same k h = λ i. due p (sample-same k h i) (predicted-same k h i).plain

    pub refutes-same : (k : ℕ) → k < length samples → sets_observer.refutes p all k ≡ sets_observer.refutes p samples k
    refutes-same k h = λ i. refutes_kept (corrected-same k h i).constrained

    pub candidate-same : (k : ℕ) → k < length samples → sets_observer.candidate p all k ≡ sets_observer.candidate p samples k
    candidate-same k h = λ i. candidate_of (corrected-same k h i).constrained

-- what is found passes
found-passes : {A : Type 0} (test : A → Bool) (xs : List A) (x : A) → find test xs ≡ Some x → test x ≡ true
found-passes test [] x is = absurd cc
found-passes test (y ∷ ys) x is = by (test y) refl (found-passes test ys x) is
  where
    by : (b : Bool) → test y ≡ b → (find test ys ≡ Some x → test x ≡ true) → cond b (Some y) (find test ys) ≡ Some x → test x ≡ true
    by true t later is = let same : y ≡ x = cc in ap test (sym same) ∙ t
    by false t later is = later is

-- a candidate is a list of multipliers that refutes the rows
pub candidate-refutes : (z : Czono) (list : List ℤ) → candidate_of z ≡ Some list → refutes_kept z list && are_multipliers list ≡ true
candidate-refutes z list is = by (first_candidate (length z.base.columns) z.rows) refl is
  where
    kept : (found : List ℤ) (b : Bool) → are_multipliers found ≡ b → (if b then Some found else None) ≡ Some list → (found ≡ list) × (are_multipliers found ≡ true)
    kept found true e h = (cc, e)
    kept found false e h = absurd cc

    by : (first : Option (List ℤ)) → first_candidate (length z.base.columns) z.rows ≡ first → if_multipliers first ≡ Some list
        → refutes_kept z list && are_multipliers list ≡ true
    by None e h = absurd cc
    by (Some found) e h =
        let is = kept found (are_multipliers found) refl h in
        let passing = found-passes (passes (length z.base.columns) z.rows) (candidates (length z.base.columns) z.rows) found e in
        ap (λ l. refutes_kept z l && are_multipliers l) (sym is.0) ∙ ap (λ b. b && are_multipliers found) passing ∙ is.1

-- so what `run` may choose is justified
pub chosen-is-justified : ChosenIsJustified
chosen-is-justified p s e c =
    let z = (correct_sets p s e).constrained in
    chosen-justified (refutes_kept z) (due p s e.plain) (candidate_of z) c (candidate-refutes z)

-- the certificate of the output that is due, or else of the first candidate, is allowed by each rule
pub certificate-allowed : (rule : Rule) (p : Plant) (samples : List Sample) (k : ℕ)
    → allows_at rule sets_observer p samples k (certificate_at sets_observer p samples k) ≡ true
certificate-allowed rule p samples k =
    let z = (corrected_sets p samples k).constrained in
    given-allowed rule (due_at sets_observer p samples k) (refutes_kept z) (candidate_of z) (candidate-refutes z)
