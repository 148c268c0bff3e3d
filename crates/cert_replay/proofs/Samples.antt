-- The lines of a sample: how many there are, and that they are in range.
use Rattle.std.proofs.Common.{◌≡◌, ℕ, ◌+◌, ◌^◌, ◌<◌, ◌≤◌, ◌==◌, nat_lt, nat_le, Bool, true, false, ◌&&◌, List, [], ◌∷◌, ◌++◌, length, flat_map, Option, Some, None, if◌then◌else◌, refl, ap, ◌∙◌, arith, length-append}
use Rattle.std.specs.List.{All, list_all}
use Rattle.std.proofs.lemmas.Bool.Decides.{nat_tests}
use Rattle.std.proofs.lemmas.List.Folds.{list_all-append}
use Rattle.farkas_check.specs.Certificate.{Certificate}
use Rattle.isolate_core.specs.Verdict.{possible_from, possible_models, verdict_of}
use Rattle.isolate_core.specs.declared.verdict.Verdict.TheVariants.{Several, Fault}
use Rattle.plant_model.specs.Plant.{Plant, Sample}
use Rattle.observer_step.specs.Answers.{any_justified}
use Rattle.observer_step.specs.SetsAnswers.{sets_observer}
use Rattle.model_bank.specs.Answers.{answers_from, all_allowed, live_after, sample_answer}
use Rattle.report_text.specs.Line.{possible, verdict}
use Rattle.report_text.specs.Ranges.{is_in_range, is_model_index, is_sample_number, is_verdict, rise_from}
use Rattle.report_rules.specs.Lines.{model_lines, sample_lines}
use Rattle.report_rules.specs.Replay.{AreFew, count_of}
use Rattle.report_rules.proofs.Placed.{both, and-true, length-model, answer_at}
use Rattle.report_rules.proofs.Ranged.{CanBePrinted, models-ranged}
use Rattle.cert_replay.specs.Offers.{lines_of}

-- ---- how many

module _ (samples : List Sample) (k : ℕ) where
  pub length-models : (i : ℕ) (ps : List Plant) (lives : List Bool) (cs : List (Option Certificate))
      → length (flat_map model_lines (answers_from sets_observer i ps lives cs samples k)) ≡ lines_of ps lives cs
  length-models i [] lives cs = refl
  length-models i (p ∷ ps) [] cs = refl
  length-models i (p ∷ ps) (live ∷ lives) [] = refl
  length-models i (p ∷ ps) (true ∷ lives) (c ∷ cs) =
      length-append (model_lines (record { index = i; answer = answer_at sets_observer samples k p c })) (flat_map model_lines (answers_from sets_observer (i + 1) ps lives cs samples k))
      ∙ ap (λ n. n + length (flat_map model_lines (answers_from sets_observer (i + 1) ps lives cs samples k))) (length-model sets_observer samples k i p c)
      ∙ ap (λ n. count_of p c + n) (length-models (i + 1) ps lives cs)
  length-models i (p ∷ ps) (false ∷ lives) (c ∷ cs) = length-models (i + 1) ps lives cs ∙ omega arith

  pub length-sample : (ps : List Plant) (lives : List Bool) (cs : List (Option Certificate))
      → length (sample_lines (sample_answer sets_observer ps lives cs samples k)) ≡ lines_of ps lives cs + 3
  length-sample ps lives cs =
      let closing = possible (possible_models (live_after lives cs)) ∷ verdict (verdict_of (possible_models (live_after lives cs))) ∷ [] in
      let models = flat_map model_lines (answers_from sets_observer 0 ps lives cs samples k) in
      omega (arith, length-append models closing, length-models 0 ps lives cs)

-- the lines of the models in front of others
pub lines_of-front : (ps : List Plant) (lives : List Bool) (cs : List (Option Certificate)) (p : Plant) (ps' : List Plant) (lives' : List Bool) (c : Option Certificate) (cs' : List (Option Certificate))
    → length lives ≡ length ps → length cs ≡ length ps → lines_of ps lives cs + p.outputs + 1 ≤ lines_of (ps ++ p ∷ ps') (lives ++ true ∷ lives') (cs ++ c ∷ cs')
lines_of-front [] [] [] p ps' lives' c cs' h g = by c
  where
    by : (c : Option Certificate) → 0 + p.outputs + 1 ≤ count_of p c + lines_of ps' lives' cs'
    by None = omega arith
    by (Some x) = omega arith
lines_of-front [] (b ∷ bs) cs p ps' lives' c cs' h g = absurd (omega (arith, h))
lines_of-front [] [] (x ∷ xs) p ps' lives' c cs' h g = absurd (omega (arith, g))
lines_of-front (q ∷ qs) [] cs p ps' lives' c cs' h g = absurd (omega (arith, h))
lines_of-front (q ∷ qs) (b ∷ bs) [] p ps' lives' c cs' h g = absurd (omega (arith, g))
lines_of-front (q ∷ qs) (b ∷ bs) (x ∷ xs) p ps' lives' c cs' h g =
    let more = lines_of-front qs bs xs p ps' lives' c cs' (omega (arith, h)) (omega (arith, g)) in
    omega (arith, more)

-- ---- in range

below-test : (m n : ℕ) → m < n → nat_lt m n ≡ true
below-test m n h = grind (arith, nat_tests)

at-most-test : (m n : ℕ) → m ≤ n → nat_le m n ≡ true
at-most-test m n h = grind (arith, nat_tests)

rises : (least i : ℕ) (bs : List Bool) → least ≤ i → i + length bs ≤ 16 → rise_from least (possible_from i bs) ≡ true
rises least i [] h few = refl
rises least i (true ∷ bs) h few =
    and-true (nat_le least i && is_model_index i) (rise_from (i + 1) (possible_from (i + 1) bs))
    (and-true (nat_le least i) (is_model_index i) (at-most-test least i h) (below-test i 16 (omega (arith, few)))) (rises (i + 1) (i + 1) bs (omega arith) (omega (arith, few)))
rises least i (false ∷ bs) h few = rises least (i + 1) bs (omega (arith, h)) (omega (arith, few))

verdict-ranged : (least : ℕ) (is : List ℕ) → rise_from least is ≡ true → is_verdict (verdict_of is) ≡ true
verdict-ranged least [] h = refl
verdict-ranged least (i ∷ []) h = (both (nat_le least i) (is_model_index i) (both (nat_le least i && is_model_index i) true h).0).1
verdict-ranged least (i ∷ j ∷ more) h = by (i == 0)
  where
    by : (b : Bool) → is_verdict (if b then Several else Fault) ≡ true
    by true = refl
    by false = refl

length-live : (lives : List Bool) (cs : List (Option Certificate)) → length (live_after lives cs) ≤ length lives
length-live [] cs = omega arith
length-live (b ∷ bs) [] = omega arith
length-live (b ∷ bs) (c ∷ cs) = omega (arith, length-live bs cs)

pub sample-ranged : (samples : List Sample) (k : ℕ) (ps : List Plant) (lives : List Bool) (cs : List (Option Certificate)) → AreFew ps → All (λ (p : Plant). p.states ≤ 8) ps
    → length lives ≡ length ps → k < 2 ^ 63 → all_allowed any_justified sets_observer ps lives cs samples k ≡ true
    → All CanBePrinted (answers_from sets_observer 0 ps lives cs samples k)
    → list_all is_in_range (sample_lines (sample_answer sets_observer ps lives cs samples k)) ≡ true
sample-ranged samples k ps lives cs few states as_many number allowed printed =
    let models = flat_map model_lines (answers_from sets_observer 0 ps lives cs samples k) in
    let stay = live_after lives cs in
    let closing = possible (possible_models stay) ∷ verdict (verdict_of (possible_models stay)) ∷ [] in
    let rise = rises 0 0 stay (omega arith) (omega (arith, length-live lives cs, as_many, few.few_models)) in
    and-true (is_sample_number k) (list_all is_in_range (models ++ closing)) (below-test k (2 ^ 63) number)
    (list_all-append is_in_range models closing
    ∙ and-true (list_all is_in_range models) (list_all is_in_range closing) (models-ranged samples k 0 ps lives cs (omega (arith, few.few_models)) few.few_outputs states allowed printed)
    (and-true (rise_from 0 (possible_models stay)) (is_verdict (verdict_of (possible_models stay)) && true) rise
    (and-true (is_verdict (verdict_of (possible_models stay))) true (verdict-ranged 0 (possible_models stay) rise) refl)))
