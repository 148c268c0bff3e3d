-- What `run` may put is accepted, and the report with the certificates that are due is one that it may put.
use Rattle.std.proofs.Common.{◌≡◌, ℕ, zero, suc, ◌<◌, List, [], ◌∷◌, length, Option, Bool, true, false, not, ◌||◌, ◌&&◌, refl, sym, ap, ◌∙◌, arith}
use Rattle.std.proofs.lemmas.List.{length-map, length-replicate}
use Rattle.farkas_check.specs.Certificate.{Certificate}
use Rattle.plant_model.specs.Plant.{Plant, Sample}
use Rattle.observer_step.specs.Answers.{Observer, due_at, certificate_at, any_justified, as_run_chooses, allows_at}
use Rattle.observer_step.specs.Sets.{corrected_sets}
use Rattle.observer_step.specs.SetsAnswers.{sets_observer}
use Rattle.observer_step.proofs.Chosen.{chosen-justified}
use Rattle.observer_step.proofs.Later.{candidate-refutes}
use Rattle.model_bank.proofs.Allowed.{dues-allowed}
use Rattle.model_bank.specs.Answers.{all_allowed, certificates_at, live_after}
use Rattle.report_rules.specs.Claims.{CandidatesRefute}
use Rattle.report_rules.specs.Report.{lives_before, due_choice}
use Rattle.report_rules.specs.Laws.{RunIsAccepted, DueIsChosen, EstimateRefutes}

-- ---- what `run` chooses is justified

module _ (o : Observer) (good : CandidatesRefute o) where
  all-justified : (ps : List Plant) (lives : List Bool) (cs : List (Option Certificate)) (samples : List Sample) (k : ℕ)
      → all_allowed as_run_chooses o ps lives cs samples k ≡ true → all_allowed any_justified o ps lives cs samples k ≡ true
  all-justified [] [] [] samples k h = refl
  all-justified [] [] (c ∷ cs) samples k h = h
  all-justified [] (live ∷ lives) cs samples k h = h
  all-justified (p ∷ ps) [] cs samples k h = h
  all-justified (p ∷ ps) (live ∷ lives) [] samples k h = h
  all-justified (p ∷ ps) (live ∷ lives) (c ∷ cs) samples k h =
      by (all-justified ps lives cs samples k) live (allows_at as_run_chooses o p samples k c) (allows_at any_justified o p samples k c)
      (chosen-justified (o.refutes p samples k) (due_at o p samples k) (o.candidate p samples k) c (good p samples k)) h
    where
      by : (all_allowed as_run_chooses o ps lives cs samples k ≡ true → all_allowed any_justified o ps lives cs samples k ≡ true)
          → (live chosen justified : Bool) → (chosen ≡ true → justified ≡ true) → (not live || chosen) && all_allowed as_run_chooses o ps lives cs samples k ≡ true
          → (not live || justified) && all_allowed any_justified o ps lives cs samples k ≡ true
      by rest true true justified step h = ap (λ b. b && all_allowed any_justified o ps lives cs samples k) (step refl) ∙ rest h
      by rest true false justified step h = absurd cc
      by rest false chosen justified step h = rest h

-- what `run` may put is accepted
pub run-accepted : RunIsAccepted
run-accepted o w lines good r = record {
  choice = r.choice;
  allowed = λ k l. all-justified o good w.plants (lives_before r.choice (length w.plants) k) (r.choice k) w.samples k (r.allowed k l);
  is = r.is;
}

-- ---- the certificates that are due

-- as many are live or not as there are models
length-lives : (lives : List Bool) (cs : List (Option Certificate)) → length lives ≡ length cs → length (live_after lives cs) ≡ length cs
length-lives [] [] e = refl
length-lives [] (c ∷ cs) e = absurd cc
length-lives (live ∷ lives) [] e = absurd cc
length-lives (live ∷ lives) (c ∷ cs) e = ap suc (length-lives lives cs cc)

pub length-lives_before : (c : ℕ → List (Option Certificate)) (m n : ℕ) → ((k : ℕ) → k < n → length (c k) ≡ m) → length (lives_before c m n) ≡ m
unfolding lives_before
length-lives_before c m zero each = length-replicate m true
length-lives_before c m (suc n) each =
    let before = length-lives_before c m n (λ k l. each k (omega arith)) in
    let here = each n (omega arith) in
    length-lives (lives_before c m n) (c n) (before ∙ sym here) ∙ here

dues-chosen : (ps : List Plant) (lives : List Bool) (samples : List Sample) (k : ℕ) → length lives ≡ length ps
    → all_allowed as_run_chooses sets_observer ps lives (certificates_at sets_observer ps samples k) samples k ≡ true
dues-chosen ps lives samples k e = dues-allowed as_run_chooses ps lives samples k e

-- the report with the certificates that are due is one that `run` may put
pub due-chosen : DueIsChosen
due-chosen w = record {
  choice = due_choice sets_observer w.plants w.samples;
  allowed = λ k l. dues-chosen w.plants (lives_before (due_choice sets_observer w.plants w.samples) (length w.plants) k) w.samples k
      (length-lives_before (due_choice sets_observer w.plants w.samples) (length w.plants) k (λ j m. length-map w.plants (λ p. certificate_at sets_observer p w.samples j)));
  is = refl;
}

-- a candidate is a list of multipliers that refutes the rows
pub estimate-refutes : EstimateRefutes
estimate-refutes p samples k ls e = candidate-refutes (corrected_sets p samples k).constrained ls e
