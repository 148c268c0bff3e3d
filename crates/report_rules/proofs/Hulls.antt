-- Each hull line of a report holds every trajectory of its model, and each model that an exclusion line names has none.
use Rattle.std.proofs.Common.{◌≡◌, ℕ, zero, suc, ◌+◌, ◌<◌, ◌≤◌, ℤ, pos, List, [], ◌∷◌, ◌++◌, length, map, flat_map, get_or, Option, Some, None, Bool, true, false, not, ◌||◌, ◌&&◌, refl, sym, ap, ◌∙◌, arith, subst, append_assoc}
use Rattle.std.specs.List.{enumerate_from}
use Rattle.set_rules.specs.Box.{hull as hull_of, IsBetween}
use Rattle.set_rules.proofs.ImageSets.{length-tabulate, get_or-tabulate}
use Rattle.farkas_check.specs.Certificate.{Certificate, by_out, by_rows}
use Rattle.farkas_check.specs.Multipliers.{are_multipliers}
use Rattle.plant_model.specs.Plant.{Plant, Sample, Consistent}
use Rattle.observer_step.specs.Predicted.{hulls}
use Rattle.observer_step.specs.Answers.{Answer, Observer, answer_with, due_at, is_justified, any_justified, allows_at}
use Rattle.observer_step.proofs.SetsHold.{sets-hull, missed-has_none, refuted-has_none}
use Rattle.model_bank.specs.Answers.{answer_if, answers_from, sample_answer, all_allowed}
use Rattle.report_text.specs.Line.{Line, model, pred, hull, status, possible, verdict}
use Rattle.isolate_core.specs.Verdict.{possible_models}
use Rattle.report_rules.specs.Lines.{head_lines, pred_lines, hull_lines, outcome_lines, model_lines, sample_lines, last_lines}
use Rattle.report_rules.specs.Claims.{HullsHold, ExclusionsHold, HoldsEvery, IsSoundBefore, plant_at, no_plant}
use Rattle.report_rules.specs.Report.{Watch, Choice, lives_before, samples_lines, report, IsReport}
use Rattle.report_rules.specs.Laws.{HullsAreSound, ExclusionsAreSound, EstimateIsSound}

first-true : (a b : Bool) → a && b ≡ true → a ≡ true
first-true true b h = refl
first-true false b h = h

module _ (o : Observer) (plant : ℕ → Plant) (samples : List Sample) (n : ℕ) (sound : IsSoundBefore o samples n) where
  -- both claims on lines that speak of sample k
  record Holds (k : ℕ) (lines : List Line) : Type 0 where
    hulls : HullsHold plant samples k lines
    exclusions : ExclusionsHold plant samples k lines

  past-preds : (k i j : ℕ) (ps : List (ℤ × ℤ)) (ys : List Line) → Holds k ys → Holds k (map (λ p. pred i p.0 p.1.0 p.1.1) (enumerate_from j ps) ++ ys)
  past-preds k i j [] ys h = h
  past-preds k i j (p ∷ ps) ys h = let more = past-preds k i (j + 1) ps ys h in record { hulls = more.hulls; exclusions = more.exclusions }

  past-hulls : (k i j : ℕ) (hs : List (ℤ × ℤ)) (ys : List Line) → ((x : ℕ) (d : ℤ × ℤ) → x < length hs → HoldsEvery (plant i) samples k (j + x) (get_or hs x d)) → Holds k ys
      → Holds k (map (λ h. hull i h.0 h.1.0 h.1.1) (enumerate_from j hs) ++ ys)
  past-hulls k i j [] ys each h = h
  past-hulls k i j (e ∷ hs) ys each h =
      let more = past-hulls k i (j + 1) hs ys (λ x d l. let next : j + suc x ≡ j + 1 + x = omega arith in subst (λ t. HoldsEvery (plant i) samples k t (get_or hs x d)) next (each (suc x) d (omega arith))) h in
      let first : j + 0 ≡ j = omega arith in
      record { hulls = (subst (λ t. HoldsEvery (plant i) samples k t e) first (each 0 e (omega arith)), more.hulls); exclusions = more.exclusions }

  -- the lines of one live model
  module _ (k i : ℕ) (before : k < n) where
    abbrev answer : Option Certificate → Answer
    answer c = answer_with o (plant i) samples k c

    hulls-hold : (x : ℕ) (d : ℤ × ℤ) → x < length (hulls (plant i) (o.corrected (plant i) samples k)) → HoldsEvery (plant i) samples k (0 + x) (get_or (hulls (plant i) (o.corrected (plant i) samples k)) x d)
    hulls-hold x d l t obeys =
        let z = o.corrected (plant i) samples k in
        let here : x < (plant i).states = subst (λ m. x < m) (length-tabulate (plant i).states (hull_of z)) l in
        let start : x ≡ 0 + x = omega arith in
        subst (λ y. IsBetween (get_or (hulls (plant i) z) x d) (get_or (get_or t.states k []) y (pos 0)) t.denominator) start
        (subst (λ e. IsBetween e (get_or (get_or t.states k []) x (pos 0)) t.denominator) (sym (get_or-tabulate (plant i).states (hull_of z) x d here)) (sound.hulls_hold (plant i) k before x here t obeys))

    -- what is allowed excludes rightly
    excluded-has_none : (cert : Certificate) → allows_at any_justified o (plant i) samples k (Some cert) ≡ true → ¬ Consistent (plant i) samples k
    excluded-has_none cert allowed = by (due_at o (plant i) samples k) cert refl allowed
      where
        by : (output : Option ℕ) (cert : Certificate) → due_at o (plant i) samples k ≡ output → is_justified output (o.refutes (plant i) samples k) (Some cert) ≡ true → ¬ Consistent (plant i) samples k
        by (Some output) cert e allowed = sound.due_has_none (plant i) k before output e
        by None (by_out other) e allowed = absurd cc
        by None (by_rows ls) e allowed = sound.refuted_has_none (plant i) k before ls (first-true (o.refutes (plant i) samples k ls) (are_multipliers ls) allowed)

    past-outcome : (c : Option Certificate) (ys : List Line) → allows_at any_justified o (plant i) samples k c ≡ true → Holds k ys → Holds k (outcome_lines i c (answer c).hulls (answer c).is_widened ++ ys)
    past-outcome (Some cert) ys allowed h = record { hulls = h.hulls; exclusions = (excluded-has_none cert allowed, h.exclusions) }
    past-outcome None ys allowed h =
        subst (λ t. Holds k t) (sym (append_assoc (hull_lines i (hulls (plant i) (o.corrected (plant i) samples k))) (status i (not (answer None).is_widened) ∷ []) ys))
        (past-hulls k i 0 (hulls (plant i) (o.corrected (plant i) samples k)) (status i (not (answer None).is_widened) ∷ ys) hulls-hold (record { hulls = h.hulls; exclusions = h.exclusions }))

    past-model : (c : Option Certificate) (ys : List Line) → allows_at any_justified o (plant i) samples k c ≡ true → Holds k ys → Holds k (model_lines (record { index = i; answer = answer c }) ++ ys)
    past-model c ys allowed h =
        let outcome = outcome_lines i c (answer c).hulls (answer c).is_widened in
        subst (λ t. Holds k t) (sym (append_assoc (pred_lines i (answer c).predicted) outcome ys))
        (past-preds k i 0 (answer c).predicted (outcome ++ ys) (past-outcome c ys allowed h))

  past-models : (k i : ℕ) → k < n → (ps : List Plant) (lives : List Bool) (cs : List (Option Certificate)) (ys : List Line) → ((j : ℕ) → j < length ps → plant (i + j) ≡ get_or ps j no_plant)
      → all_allowed any_justified o ps lives cs samples k ≡ true → Holds k ys → Holds k (flat_map model_lines (answers_from o i ps lives cs samples k) ++ ys)
  past-models k i before [] lives cs ys is allowed h = h
  past-models k i before (p ∷ ps) [] cs ys is allowed h = h
  past-models k i before (p ∷ ps) (live ∷ lives) [] ys is allowed h = h
  past-models k i before (p ∷ ps) (live ∷ lives) (c ∷ cs) ys is allowed h =
      by (λ rest. past-models k (i + 1) before ps lives cs ys (λ j l. (let e : i + 1 + j ≡ i + suc j = omega arith in ap plant e) ∙ is (suc j) (omega arith)) rest h)
      live (allows_at any_justified o p samples k c) refl allowed
    where
      first : plant i ≡ p
      first = (let e : i ≡ i + 0 = omega arith in ap plant e) ∙ is 0 (omega arith)

      by : (all_allowed any_justified o ps lives cs samples k ≡ true → Holds k (flat_map model_lines (answers_from o (i + 1) ps lives cs samples k) ++ ys))
          → (b allows : Bool) → allows_at any_justified o p samples k c ≡ allows → (not b || allows) && all_allowed any_justified o ps lives cs samples k ≡ true
          → Holds k (flat_map model_lines (answer_if b i (answer_with o p samples k c) (answers_from o (i + 1) ps lives cs samples k)) ++ ys)
      by others true true e allowed =
          let lines = model_lines (record { index = i; answer = answer_with o p samples k c }) in
          let rest = flat_map model_lines (answers_from o (i + 1) ps lives cs samples k) in
          subst (λ t. Holds k t) (sym (append_assoc lines rest ys))
          (subst (λ p. Holds k (model_lines (record { index = i; answer = answer_with o p samples k c }) ++ (rest ++ ys))) first
          (past-model k i before c (rest ++ ys) (ap (λ p. allows_at any_justified o p samples k c) first ∙ e) (others allowed)))
      by others true false e allowed = absurd cc
      by others false allows e allowed = others allowed

  module _ (ps : List Plant) (is : (j : ℕ) → j < length ps → plant j ≡ get_or ps j no_plant) where
    past-sample : (k before : ℕ) → k < n → (lives : List Bool) (cs : List (Option Certificate)) (ys : List Line) → all_allowed any_justified o ps lives cs samples k ≡ true → Holds k ys
        → Holds before (sample_lines (sample_answer o ps lives cs samples k) ++ ys)
    past-sample k before l lives cs ys allowed h =
        let s = sample_answer o ps lives cs samples k in
        let models = flat_map model_lines s.models in
        let closed : Holds k (models ++ (possible (possible_models s.possible) ∷ verdict s.verdict ∷ [] ++ ys)) =
        past-models k 0 l ps lives cs (possible (possible_models s.possible) ∷ verdict s.verdict ∷ [] ++ ys) (λ j m. (let e : 0 + j ≡ j = omega arith in ap plant e) ∙ is j m) allowed (record { hulls = h.hulls; exclusions = h.exclusions }) in
        let whole = subst (λ t. Holds k t) (sym (append_assoc models (possible (possible_models s.possible) ∷ verdict s.verdict ∷ []) ys)) closed in
        record { hulls = whole.hulls; exclusions = whole.exclusions }

    module _ (c : Choice) (allowed : (k : ℕ) → k < n → all_allowed any_justified o ps (lives_before c (length ps) k) (c k) samples k ≡ true) where
      past-samples : (m before : ℕ) → m ≤ n → (ys : List Line) → ((k : ℕ) → Holds k ys) → Holds before (samples_lines o ps samples c m ++ ys)
      unfolding samples_lines
      past-samples zero before l ys h = h before
      past-samples (suc m) before l ys h =
          let lines = sample_lines (sample_answer o ps (lives_before c (length ps) m) (c m) samples m) in
          subst (λ t. Holds before t) (sym (append_assoc (samples_lines o ps samples c m) lines ys))
          (past-samples m before (omega arith) (lines ++ ys) (λ k. past-sample m k (omega arith) (lives_before c (length ps) m) (c m) ys (allowed m (omega arith)) (h m)))

    past-names : (j before : ℕ) (names : List (List ℕ)) (ys : List Line) → Holds before ys → Holds before (map (λ m. model m.0 m.1) (enumerate_from j names) ++ ys)
    past-names j before [] ys h = h
    past-names j before (name ∷ names) ys h = let more = past-names (j + 1) before names ys h in record { hulls = more.hulls; exclusions = more.exclusions }

    last-hold : (m : ℕ) (b : Bool) (k : ℕ) → Holds k (last_lines m b)
    last-hold m true k = record { hulls = tt; exclusions = tt }
    last-hold m false k = record { hulls = tt; exclusions = tt }

    report-holds : (names : List (List ℕ)) (is_whole : Bool) (c : Choice) → length samples ≤ n → ((k : ℕ) → k < n → all_allowed any_justified o ps (lives_before c (length ps) k) (c k) samples k ≡ true)
        → Holds 0 (report o (record { names = names; plants = ps; samples = samples; is_whole = is_whole }) c)
    report-holds names is_whole c few allowed =
        let last = last_lines (length samples) is_whole in
        let rest = past-samples c allowed (length samples) 0 few last (last-hold (length samples) is_whole) in
        let named = past-names 0 0 names (samples_lines o ps samples c (length samples) ++ last) rest in
        subst (λ t. Holds 0 t) (sym (append_assoc (head_lines names) (samples_lines o ps samples c (length samples)) last))
        (record { hulls = named.hulls; exclusions = named.exclusions })

accepted-holds : (o : Observer) (w : Watch) (lines : List Line) (sound : IsSoundBefore o w.samples (length w.samples)) → IsReport any_justified o w lines
    → Holds o (plant_at w.plants) w.samples (length w.samples) sound 0 lines
accepted-holds o w lines sound r = subst (Holds o (plant_at w.plants) w.samples (length w.samples) sound 0) (sym r.is)
    (report-holds o (plant_at w.plants) w.samples (length w.samples) sound w.plants (λ j l. refl) w.names w.is_whole r.choice (omega arith) r.allowed)

-- each hull of an accepted report holds every trajectory
pub hulls-sound : HullsAreSound
hulls-sound o w lines sound r = (accepted-holds o w lines sound r).hulls

-- each model that an accepted report excludes has none
pub exclusions-sound : ExclusionsAreSound
exclusions-sound o w lines sound r = (accepted-holds o w lines sound r).exclusions

-- an estimate is sound at every sample
pub estimate-sound : EstimateIsSound
estimate-sound samples n = record {
  hulls_hold = λ p k l x m t obeys. sets-hull p samples k t obeys x m;
  due_has_none = λ p k l output e. missed-has_none p samples k output e;
  refuted_has_none = λ p k l ls e. refuted-has_none p samples k ls e;
}
