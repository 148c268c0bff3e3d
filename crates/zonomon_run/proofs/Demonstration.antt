-- The lines of the report of a demonstration: each is told, and none excludes the model that made the telemetry.
use Rattle.std.proofs.Common.{◌≡◌, ℕ, zero, suc, ◌+◌, ◌<◌, ◌≤◌, ◌==◌, ◌^◌, nat_lt, ℤ, Bool, true, false, not, List, [], ◌∷◌, ◌++◌, length, map, flat_map, Option, Some, None, refl, arith}
use Rattle.std.specs.List.{All, enumerate_from}
use Rattle.std.proofs.lemmas.Bool.Decides.{nat_tests}
use Rattle.std.proofs.lemmas.List.Elements.{All-head, All-tail, All-cons, All-append}
use Rattle.farkas_check.specs.Certificate.{Certificate}
use Rattle.isolate_core.specs.Verdict.{possible_models}
use Rattle.plant_model.specs.Plant.{Plant, Sample, Consistent}
use Rattle.observer_step.specs.Answers.{any_justified, allows_at}
use Rattle.observer_step.specs.SetsAnswers.{sets_observer}
use Rattle.model_bank.specs.Answers.{answers_from, sample_answer, all_allowed}
use Rattle.report_text.specs.Line.{Line, title, model, sample, pred, exclude, hull, status, possible, verdict, end}
use Rattle.report_text.specs.Ranges.{is_model_index, is_certificate}
use Rattle.report_rules.specs.Claims.{ExclusionsHold}
use Rattle.report_rules.specs.Lines.{pred_lines, hull_lines, outcome_lines, model_lines, sample_lines, last_lines}
use Rattle.report_rules.specs.Report.{Choice, samples_lines, lives_before}
use Rattle.report_rules.proofs.Placed.{both, and-true, answer_at}
use Rattle.report_rules.proofs.Alike.{allowed-fits}
use Rattle.report_summary.specs.Told.{IsTold, AreTold}
use Rattle.report_summary.specs.Sums.{excluded_in}

below-test : (n m : ℕ) → n < m → nat_lt n m ≡ true
below-test n m h = grind (arith, nat_tests)

-- a told line; the number of a sample is one of the first n
abbrev pub IsTimely : ℕ → Line → Type 0
IsTimely n (sample k) = k < n
IsTimely n (model i name) = IsTold (model i name)
IsTimely n (exclude i c) = IsTold (exclude i c)
IsTimely n (status i fits) = IsTold (status i fits)
IsTimely n line = Unit

pub all-none : (P : Line → Type 0) → All P []
all-none P k d h = absurd (omega arith)

-- ---- the lines of a sample

module _ (n : ℕ) where
  preds-timely : (i j : ℕ) (es : List (ℤ × ℤ)) → All (IsTimely n) (map (λ p. pred i p.0 p.1.0 p.1.1) (enumerate_from j es))
  preds-timely i j [] = all-none (IsTimely n)
  preds-timely i j (e ∷ es) = All-cons (IsTimely n) (pred i j e.0 e.1) (map (λ p. pred i p.0 p.1.0 p.1.1) (enumerate_from (j + 1) es)) tt (preds-timely i (j + 1) es)

  hulls-timely : (i j : ℕ) (es : List (ℤ × ℤ)) → All (IsTimely n) (map (λ h. hull i h.0 h.1.0 h.1.1) (enumerate_from j es))
  hulls-timely i j [] = all-none (IsTimely n)
  hulls-timely i j (e ∷ es) = All-cons (IsTimely n) (hull i j e.0 e.1) (map (λ h. hull i h.0 h.1.0 h.1.1) (enumerate_from (j + 1) es)) tt (hulls-timely i (j + 1) es)

  module _ (samples : List Sample) (k : ℕ) where
    outcome-timely : (i : ℕ) (p : Plant) (c : Option Certificate) → i < 16 → p.outputs ≤ 6 → allows_at any_justified sets_observer p samples k c ≡ true
        → All (IsTimely n) (outcome_lines i c (answer_at sets_observer samples k p c).hulls (answer_at sets_observer samples k p c).is_widened)
    outcome-timely i p (Some cert) h outs allowed =
        let named = allowed-fits sets_observer samples k p (Some cert) outs allowed in
        All-cons (IsTimely n) (exclude i cert) [] (and-true (is_model_index i) (is_certificate cert) (below-test i 16 h) named) (all-none (IsTimely n))
    outcome-timely i p None h outs allowed =
        let a = answer_at sets_observer samples k p None in
        let last = status i (not a.is_widened) in
        All-append (IsTimely n) (hull_lines i a.hulls) (last ∷ []) (hulls-timely i 0 a.hulls) (All-cons (IsTimely n) last [] (below-test i 16 h) (all-none (IsTimely n)))

    models-timely : (i : ℕ) (ps : List Plant) (lives : List Bool) (cs : List (Option Certificate)) → i + length ps ≤ 16
        → All (λ (p : Plant). p.outputs ≤ 6) ps → all_allowed any_justified sets_observer ps lives cs samples k ≡ true
        → All (IsTimely n) (flat_map model_lines (answers_from sets_observer i ps lives cs samples k))
    models-timely i [] lives cs few outs allowed = all-none (IsTimely n)
    models-timely i (p ∷ ps) [] cs few outs allowed = all-none (IsTimely n)
    models-timely i (p ∷ ps) (live ∷ lives) [] few outs allowed = all-none (IsTimely n)
    models-timely i (p ∷ ps) (true ∷ lives) (c ∷ cs) few outs allowed =
        let a = answer_at sets_observer samples k p c in
        let others = answers_from sets_observer (i + 1) ps lives cs samples k in
        let parts = both (allows_at any_justified sets_observer p samples k c) (all_allowed any_justified sets_observer ps lives cs samples k) allowed in
        All-append (IsTimely n) (model_lines (record { index = i; answer = a })) (flat_map model_lines others)
        (All-append (IsTimely n) (pred_lines i a.predicted) (outcome_lines i c a.hulls a.is_widened) (preds-timely i 0 a.predicted)
        (outcome-timely i p c (omega arith) (All-head (λ (p : Plant). p.outputs ≤ 6) p ps outs) parts.0))
        (models-timely (i + 1) ps lives cs (omega arith) (All-tail (λ (p : Plant). p.outputs ≤ 6) p ps outs) parts.1)
    models-timely i (p ∷ ps) (false ∷ lives) (c ∷ cs) few outs allowed =
        models-timely (i + 1) ps lives cs (omega arith) (All-tail (λ (p : Plant). p.outputs ≤ 6) p ps outs) allowed

  -- ---- the lines of a report

  module _ (ps : List Plant) (samples : List Sample) (c : Choice) (few : length ps ≤ 16) (outs : All (λ (p : Plant). p.outputs ≤ 6) ps)
      (allowed : (k : ℕ) → k < n → all_allowed any_justified sets_observer ps (lives_before c (length ps) k) (c k) samples k ≡ true) where
    pub samples-timely : (m : ℕ) → m ≤ n → All (IsTimely n) (samples_lines sets_observer ps samples c m)
    unfolding samples_lines
    samples-timely zero h = all-none (IsTimely n)
    samples-timely (suc m) h =
        let s = sample_answer sets_observer ps (lives_before c (length ps) m) (c m) samples m in
        let last = verdict s.verdict ∷ [] in
        let closing = possible (possible_models s.possible) ∷ last in
        let models = flat_map model_lines s.models in
        All-append (IsTimely n) (samples_lines sets_observer ps samples c m) (sample_lines s) (samples-timely m (omega (arith, h)))
        (All-cons (IsTimely n) (sample s.k) (models ++ closing) (omega (arith, h))
        (All-append (IsTimely n) models closing (models-timely samples m 0 ps (lives_before c (length ps) m) (c m) (omega (arith, few)) outs (allowed m (omega (arith, h))))
        (All-cons (IsTimely n) (possible (possible_models s.possible)) last tt (All-cons (IsTimely n) (verdict s.verdict) [] tt (all-none (IsTimely n))))))

  pub last-timely : (count : ℕ) (is_whole : Bool) → All (IsTimely n) (last_lines count is_whole)
  last-timely count true = All-cons (IsTimely n) (end count) [] tt (all-none (IsTimely n))
  last-timely count false = all-none (IsTimely n)

-- a timely line is told, where there are few samples
timely-told : (n : ℕ) → n ≤ 2 ^ 63 → (l : Line) → IsTimely n l → IsTold l
timely-told n h title t = tt
timely-told n h (model i name) t = t
timely-told n h (sample k) t = below-test k (2 ^ 63) (omega arith)
timely-told n h (pred i o lo hi) t = tt
timely-told n h (exclude i c) t = t
timely-told n h (hull i x lo hi) t = tt
timely-told n h (status i fits) t = t
timely-told n h (possible is) t = tt
timely-told n h (verdict v) t = tt
timely-told n h (end k) t = tt

pub all-told : (n : ℕ) → n ≤ 2 ^ 63 → (lines : List Line) → All (IsTimely n) lines → AreTold lines
all-told n h [] t = all-none IsTold
all-told n h (l ∷ lines) t = All-cons IsTold l lines (timely-told n h l (All-head (IsTimely n) l lines t)) (all-told n h lines (All-tail (IsTimely n) l lines t))

-- ---- the model that made the telemetry

other : (i : ℕ) → (suc i == 0) ≡ false
other i = grind (arith, nat_tests)

module _ (n : ℕ) (plant : ℕ → Plant) (samples : List Sample) (made : (k : ℕ) → k < n → Consistent (plant 0) samples k) where
  -- lines whose exclusions hold do not exclude it
  pub stays : (k : ℕ) → k < n → (lines : List Line) → All (IsTimely n) lines → ExclusionsHold plant samples k lines → excluded_in 0 k lines ≡ None
  stays k h [] t holds = refl
  stays k h (title ∷ lines) t holds = stays k h lines (All-tail (IsTimely n) title lines t) holds
  stays k h (model i name ∷ lines) t holds = stays k h lines (All-tail (IsTimely n) (model i name) lines t) holds
  stays k h (sample j ∷ lines) t holds = stays j (All-head (IsTimely n) (sample j) lines t) lines (All-tail (IsTimely n) (sample j) lines t) holds
  stays k h (pred i o lo hi ∷ lines) t holds = stays k h lines (All-tail (IsTimely n) (pred i o lo hi) lines t) holds
  stays k h (exclude zero c ∷ lines) t holds = absurd (holds.0 (made k h))
  stays k h (exclude (suc i) c ∷ lines) t holds = rw (other i) (stays k h lines (All-tail (IsTimely n) (exclude (suc i) c) lines t) holds.1)
  stays k h (hull i x lo hi ∷ lines) t holds = stays k h lines (All-tail (IsTimely n) (hull i x lo hi) lines t) holds
  stays k h (status i fits ∷ lines) t holds = stays k h lines (All-tail (IsTimely n) (status i fits) lines t) holds
  stays k h (possible is ∷ lines) t holds = stays k h lines (All-tail (IsTimely n) (possible is) lines t) holds
  stays k h (verdict v ∷ lines) t holds = stays k h lines (All-tail (IsTimely n) (verdict v) lines t) holds
  stays k h (end m ∷ lines) t holds = stays k h lines (All-tail (IsTimely n) (end m) lines t) holds
