-- After the intervals of a model of which a reading misses one, the line that excludes it by the least such output.
use Rattle.std.proofs.Common.{◌≡◌, ℕ, zero, suc, ◌+◌, ◌<◌, ◌==◌, ℤ, List, [], ◌∷◌, ◌++◌, length, map, flat_map, get_or, Option, Some, None, option_map, if◌then◌else◌, Bool, true, false, not, ◌||◌, ◌&&◌, refl, sym, ap, ◌∙◌, arith, subst, append_assoc}
use Rattle.std.specs.List.{enumerate_from}
use Rattle.std.proofs.lemmas.Bool.Decides.{nat_tests}
use Rattle.set_rules.specs.Tests.{first_below, last_passing, or_else}
use Rattle.set_rules.proofs.ImageSets.{length-tabulate, get_or-tabulate}
use Rattle.farkas_check.specs.Certificate.{Certificate, by_out, by_rows}
use Rattle.isolate_core.specs.Verdict.{possible_models}
use Rattle.plant_model.specs.Plant.{Plant, Sample, sample_at, reading_at}
use Rattle.observer_step.specs.Predicted.{hulls, due, out_of, reading_misses}
use Rattle.observer_step.specs.Answers.{Answer, Observer, answer_with, is_justified, any_justified, allows_at}
use Rattle.model_bank.specs.Answers.{answer_if, answers_from, sample_answer, all_allowed}
use Rattle.report_text.specs.Line.{Line, model, pred, exclude, hull, status, possible, verdict}
use Rattle.report_rules.specs.Lines.{head_lines, pred_lines, hull_lines, outcome_lines, model_lines, sample_lines, last_lines}
use Rattle.report_rules.specs.Claims.{MissesTold, first_missed}
use Rattle.report_rules.specs.Report.{Choice, lives_before, samples_lines}
use Rattle.report_rules.specs.Laws.{MissesAreTold}

same-output : (q o : ℕ) → (q == o) ≡ true → q ≡ o
same-output q o h = grind (arith, nat_tests)

module _ (obs : Observer) (samples : List Sample) where
  -- nothing is left to be told
  abbrev Told : ℕ → List Line → Type 0
  Told k lines = MissesTold samples k None lines

  past-hulls : (k i j : ℕ) (hs : List (ℤ × ℤ)) (ys : List Line) → Told k ys → Told k (map (λ h. hull i h.0 h.1.0 h.1.1) (enumerate_from j hs) ++ ys)
  past-hulls k i j [] ys h = h
  past-hulls k i j (e ∷ hs) ys h = past-hulls k i (j + 1) hs ys h

  -- the lines of one live model
  module _ (p : Plant) (k i : ℕ) where
    abbrev s : Sample
    s = sample_at samples k

    abbrev ends : ℕ → ℤ × ℤ
    ends = out_of p s.inputs (obs.predicted p samples k)

    abbrev test : ℕ → Bool
    test o = reading_misses (ends o) (reading_at s o)

    -- model i and the output
    abbrev of_model : Option ℕ → Option (ℕ × ℕ)
    of_model o = option_map (λ o. (i, o)) o

    next-missed : (m : ℕ) (e : ℤ × ℤ) → e ≡ ends m → first_missed s (of_model (first_below m test)) i m e ≡ of_model (first_below (suc m) test)
    unfolding first_below
    next-missed m e is = ap (λ e. first_missed s (of_model (first_below m test)) i m e) is ∙ by (first_below m test)
      where
        only : (b : Bool) → (if b then Some (i, m) else None) ≡ of_model (last_passing m b)
        only true = refl
        only false = refl

        by : (o : Option ℕ) → first_missed s (of_model o) i m (ends m) ≡ of_model (or_else o (last_passing m (test m)))
        by (Some x) = refl
        by None = only (test m)

    past-preds : (m : ℕ) (ps : List (ℤ × ℤ)) (ys : List Line) → ((x : ℕ) (d : ℤ × ℤ) → x < length ps → get_or ps x d ≡ ends (m + x))
        → MissesTold samples k (of_model (first_below (m + length ps) test)) ys → MissesTold samples k (of_model (first_below m test)) (map (λ p. pred i p.0 p.1.0 p.1.1) (enumerate_from m ps) ++ ys)
    past-preds m [] ys is h = let e : m + 0 ≡ m = omega arith in subst (λ n. MissesTold samples k (of_model (first_below n test)) ys) e h
    past-preds m (e ∷ ps) ys is h =
        let first : m + 0 ≡ m = omega arith in
        let next : m + 1 ≡ suc m = omega arith in
        let long : m + suc (length ps) ≡ m + 1 + length ps = omega arith in
        let more = past-preds (m + 1) ps ys (λ x d l. is (suc x) d (omega arith) ∙ ap ends (omega arith)) (subst (λ n. MissesTold samples k (of_model (first_below n test)) ys) long h) in
        subst (λ o. MissesTold samples k o (map (λ p. pred i p.0 p.1.0 p.1.1) (enumerate_from (m + 1) ps) ++ ys))
        (ap (λ n. of_model (first_below n test)) next ∙ sym (next-missed m e (is 0 e (omega arith) ∙ ap ends first))) more

    abbrev answer : Option Certificate → Answer
    answer c = answer_with obs p samples k c

    -- where an output is due, only its certificate is allowed; where none is, nothing is left to be told
    past-outcome : (c : Option Certificate) (ys : List Line) → allows_at any_justified obs p samples k c ≡ true → Told k ys
        → MissesTold samples k (of_model (due p s (obs.predicted p samples k))) (outcome_lines i c (answer c).hulls (answer c).is_widened ++ ys)
    past-outcome c ys allowed h = by (due p s (obs.predicted p samples k)) c allowed
      where
        staying : MissesTold samples k None ((hull_lines i (hulls p (obs.corrected p samples k)) ++ status i (not (answer None).is_widened) ∷ []) ++ ys)
        staying = subst (λ t. Told k t) (sym (append_assoc (hull_lines i (hulls p (obs.corrected p samples k))) (status i (not (answer None).is_widened) ∷ []) ys))
            (past-hulls k i 0 (hulls p (obs.corrected p samples k)) (status i (not (answer None).is_widened) ∷ ys) h)

        by : (o : Option ℕ) (c : Option Certificate) → is_justified o (obs.refutes p samples k) c ≡ true → MissesTold samples k (of_model o) (outcome_lines i c (answer c).hulls (answer c).is_widened ++ ys)
        by (Some o) (Some (by_out q)) allowed = (ap (λ x. exclude i (by_out x)) (same-output q o allowed), h)
        by (Some o) (Some (by_rows ls)) allowed = absurd cc
        by (Some o) None allowed = absurd cc
        by None (Some cert) allowed = h
        by None None allowed = staying

    past-model : (c : Option Certificate) (ys : List Line) → allows_at any_justified obs p samples k c ≡ true → Told k ys → Told k (model_lines (record { index = i; answer = answer c }) ++ ys)
    unfolding due first_below
    past-model c ys allowed h =
        let outcome = outcome_lines i c (answer c).hulls (answer c).is_widened in
        let outs = (answer c).predicted in
        let many : length outs ≡ p.outputs = length-tabulate p.outputs ends in
        let whole : p.outputs ≡ 0 + length outs = omega arith in
        let told = subst (λ n. MissesTold samples k (of_model (first_below n test)) (outcome ++ ys)) whole (past-outcome c ys allowed h) in
        subst (λ t. Told k t) (sym (append_assoc (pred_lines i outs) outcome ys))
        (past-preds 0 outs (outcome ++ ys)
        (λ x d l. get_or-tabulate p.outputs ends x d (subst (λ m. x < m) many l) ∙ ap ends (omega arith)) told)

  past-models : (k i : ℕ) (ps : List Plant) (lives : List Bool) (cs : List (Option Certificate)) (ys : List Line) → all_allowed any_justified obs ps lives cs samples k ≡ true
      → Told k ys → Told k (flat_map model_lines (answers_from obs i ps lives cs samples k) ++ ys)
  past-models k i [] lives cs ys allowed h = h
  past-models k i (p ∷ ps) [] cs ys allowed h = h
  past-models k i (p ∷ ps) (live ∷ lives) [] ys allowed h = h
  past-models k i (p ∷ ps) (live ∷ lives) (c ∷ cs) ys allowed h =
      by (λ rest. past-models k (i + 1) ps lives cs ys rest h) live (allows_at any_justified obs p samples k c) refl allowed
    where
      by : (all_allowed any_justified obs ps lives cs samples k ≡ true → Told k (flat_map model_lines (answers_from obs (i + 1) ps lives cs samples k) ++ ys))
          → (b allows : Bool) → allows_at any_justified obs p samples k c ≡ allows → (not b || allows) && all_allowed any_justified obs ps lives cs samples k ≡ true
          → Told k (flat_map model_lines (answer_if b i (answer_with obs p samples k c) (answers_from obs (i + 1) ps lives cs samples k)) ++ ys)
      by others true true e allowed =
          let lines = model_lines (record { index = i; answer = answer_with obs p samples k c }) in
          let rest = flat_map model_lines (answers_from obs (i + 1) ps lives cs samples k) in
          subst (λ t. Told k t) (sym (append_assoc lines rest ys)) (past-model p k i c (rest ++ ys) e (others allowed))
      by others true false e allowed = absurd cc
      by others false allows e allowed = others allowed

  module _ (ps : List Plant) where
    past-sample : (k before : ℕ) (lives : List Bool) (cs : List (Option Certificate)) (ys : List Line) → all_allowed any_justified obs ps lives cs samples k ≡ true → Told k ys
        → Told before (sample_lines (sample_answer obs ps lives cs samples k) ++ ys)
    past-sample k before lives cs ys allowed h =
        let s = sample_answer obs ps lives cs samples k in
        let models = flat_map model_lines s.models in
        let closing = possible (possible_models s.possible) ∷ verdict s.verdict ∷ [] in
        let closed : Told k (models ++ (closing ++ ys)) = past-models k 0 ps lives cs (closing ++ ys) allowed h in
        subst (λ t. Told k t) (sym (append_assoc models closing ys)) closed

    module _ (c : Choice) where
      past-samples : (n before : ℕ) (ys : List Line) → ((k : ℕ) → k < n → all_allowed any_justified obs ps (lives_before c (length ps) k) (c k) samples k ≡ true) → ((k : ℕ) → Told k ys)
          → Told before (samples_lines obs ps samples c n ++ ys)
      unfolding samples_lines
      past-samples zero before ys allowed h = h before
      past-samples (suc n) before ys allowed h =
          let lines = sample_lines (sample_answer obs ps (lives_before c (length ps) n) (c n) samples n) in
          subst (λ t. Told before t) (sym (append_assoc (samples_lines obs ps samples c n) lines ys))
          (past-samples n before (lines ++ ys) (λ k l. allowed k (omega arith)) (λ k. past-sample n k (lives_before c (length ps) n) (c n) ys (allowed n (omega arith)) (h n)))

    past-names : (j before : ℕ) (names : List (List ℕ)) (ys : List Line) → Told before ys → Told before (map (λ m. model m.0 m.1) (enumerate_from j names) ++ ys)
    past-names j before [] ys h = h
    past-names j before (name ∷ names) ys h = past-names (j + 1) before names ys h

    last-told : (n : ℕ) (b : Bool) (k : ℕ) → Told k (last_lines n b)
    last-told n true k = tt
    last-told n false k = tt

-- each miss of a printed interval is told in an accepted report
pub misses-told : MissesAreTold
misses-told o w lines r =
    let n = length w.samples in
    let last = last_lines n w.is_whole in
    let rest = past-samples o w.samples w.plants r.choice n 0 last r.allowed (last-told o w.samples w.plants n w.is_whole) in
    subst (MissesTold w.samples 0 None) (sym r.is)
    (subst (MissesTold w.samples 0 None) (sym (append_assoc (head_lines w.names) (samples_lines o w.plants w.samples r.choice n) last))
    (past-names o w.samples w.plants 0 0 w.names (samples_lines o w.plants w.samples r.choice n ++ last) rest))
