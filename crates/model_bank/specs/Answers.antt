-- What the definitions say of all models of a file at a sample.
use Rattle.std.specs.Prelude.{ℕ, ◌+◌, Bool, true, false, ◌&&◌, ◌||◌, not, List, [], ◌∷◌, map, Option, is_none, if◌then◌else◌}
use Rattle.farkas_check.specs.Certificate.{Certificate}
use Rattle.isolate_core.specs.Verdict.{verdict_of, possible_models}
use Rattle.isolate_core.specs.declared.verdict.Verdict.{Verdict}
use Rattle.plant_model.specs.Plant.{Plant, Sample}
use Rattle.observer_step.specs.Answers.{Answer, Observer, Rule, answer_with, certificate_at, allows_at}

-- a model by its index, and the answer on it
pub record ModelAnswer : Type 0 where
  pub index : ℕ
  pub answer : Answer

-- the answer, where the model is live, in front of the others
abbrev pub answer_if : Bool → ℕ → Answer → List ModelAnswer → List ModelAnswer
answer_if live i answer others = if live then (record { index = i; answer = answer } ∷ others) else others

-- the answers on the live models at sample k, each excluded by its certificate or not; the first plant is that of model i
abbrev pub answers_from : Observer → ℕ → List Plant → List Bool → List (Option Certificate) → List Sample → ℕ → List ModelAnswer
answers_from o i (p ∷ ps) (live ∷ lives) (c ∷ cs) samples k =
    answer_if live i (answer_with o p samples k c) (answers_from o (i + 1) ps lives cs samples k)
answers_from o i _ _ _ samples k = []

-- which models were live and are not excluded
abbrev pub live_after : List Bool → List (Option Certificate) → List Bool
live_after (live ∷ lives) (c ∷ cs) = (live && is_none c) ∷ live_after lives cs
live_after _ _ = []

-- the certificates at sample k, or none, by model: those that are due, or of the first candidates
abbrev pub certificates_at : Observer → List Plant → List Sample → ℕ → List (Option Certificate)
certificates_at o ps samples k = map (λ p. certificate_at o p samples k) ps

-- the rule allows what is said of each live model at sample k; something is said of each model
abbrev pub all_allowed : Rule → Observer → List Plant → List Bool → List (Option Certificate) → List Sample → ℕ → Bool
all_allowed rule o (p ∷ ps) (live ∷ lives) (c ∷ cs) samples k =
    (not live || allows_at rule o p samples k c) && all_allowed rule o ps lives cs samples k
all_allowed rule o [] [] [] samples k = true
all_allowed rule o _ _ _ samples k = false

-- a sample's number, the answers on its live models, which are possible after it, and the verdict on these
pub record SampleAnswer : Type 0 where
  pub k : ℕ
  pub models : List ModelAnswer
  pub possible : List Bool
  pub verdict : Verdict

-- the answer on models of which these were live before sample k, and are excluded by these certificates or not
abbrev pub sample_answer : Observer → List Plant → List Bool → List (Option Certificate) → List Sample → ℕ → SampleAnswer
sample_answer o ps lives cs samples k = record {
  k = k;
  models = answers_from o 0 ps lives cs samples k;
  possible = live_after lives cs;
  verdict = verdict_of (possible_models (live_after lives cs));
}
