-- The lines of a sample up to a refused model are in range where the intervals that they have can be printed.
use Rattle.std.proofs.Common.{◌≡◌, ℕ, ◌+◌, ◌^◌, ◌<◌, ◌≤◌, nat_lt, ℤ, Bool, true, false, not, ◌&&◌, List, [], ◌∷◌, ◌++◌, length, map, flat_map, Option, Some, None, refl, ap, ◌∙◌, arith, subst}
use Rattle.std.specs.List.{All, list_all, enumerate_from}
use Rattle.std.proofs.lemmas.Bool.Decides.{nat_tests}
use Rattle.std.proofs.lemmas.List.Elements.{All-head, All-tail}
use Rattle.std.proofs.lemmas.List.Folds.{list_all-append}
use Rattle.set_rules.specs.Box.{hull as hull_of}
use Rattle.set_rules.proofs.ImageSets.{length-tabulate}
use Rattle.farkas_check.specs.Certificate.{Certificate}
use Rattle.plant_model.specs.Plant.{Plant, Sample, sample_at}
use Rattle.observer_step.specs.Predicted.{out_of, hulls}
use Rattle.observer_step.specs.Seen.{is_printable_interval}
use Rattle.observer_step.specs.Answers.{any_justified, allows_at}
use Rattle.observer_step.specs.SetsAnswers.{sets_observer}
use Rattle.model_bank.specs.Answers.{ModelAnswer, answers_from, all_allowed}
use Rattle.model_bank.specs.Stepping.{Refusal, RefusesOffer}
use Rattle.report_text.specs.Line.{pred, exclude, hull, status}
use Rattle.report_text.specs.Ranges.{is_in_range, is_model_index, is_output_index, is_state_index, is_sample_number, is_certificate}
use Rattle.report_rules.specs.Lines.{pred_lines, hull_lines, outcome_lines, model_lines}
use Rattle.report_rules.specs.Report.{Choice, lives_before}
use Rattle.report_rules.specs.Replay.{AreFew, Replayed}
use Rattle.report_rules.proofs.Placed.{both, and-true, answer_at}
use Rattle.report_rules.proofs.Alike.{allowed-fits}
use Rattle.report_rules.proofs.Offered.{All-front, refused_lines, below-all, few-outputs, few-models}

below-test : (n m : ℕ) → n < m → nat_lt n m ≡ true
below-test n m h = grind (arith, nat_tests)

-- the predicted intervals and the hulls of a model can be printed
abbrev pub CanBePrinted : ModelAnswer → Type 0
CanBePrinted m = (list_all is_printable_interval m.answer.predicted ≡ true) × (list_all is_printable_interval m.answer.hulls ≡ true)

preds-ranged : (i j : ℕ) (es : List (ℤ × ℤ)) → i < 16 → j + length es ≤ 6 → list_all is_printable_interval es ≡ true
    → list_all is_in_range (map (λ p. pred i p.0 p.1.0 p.1.1) (enumerate_from j es)) ≡ true
preds-ranged i j [] h few printed = refl
preds-ranged i j (e ∷ es) h few printed =
    let parts = both (is_printable_interval e) (list_all is_printable_interval es) printed in
    let indices = and-true (is_model_index i) (is_output_index j) (below-test i 16 h) (below-test j 6 (omega arith)) in
    and-true (is_in_range (pred i j e.0 e.1)) (list_all is_in_range (map (λ p. pred i p.0 p.1.0 p.1.1) (enumerate_from (j + 1) es)))
    (and-true (is_model_index i && is_output_index j) (is_printable_interval e) indices parts.0) (preds-ranged i (j + 1) es h (omega arith) parts.1)

hulls-ranged : (i j : ℕ) (es : List (ℤ × ℤ)) → i < 16 → j + length es ≤ 8 → list_all is_printable_interval es ≡ true
    → list_all is_in_range (map (λ h. hull i h.0 h.1.0 h.1.1) (enumerate_from j es)) ≡ true
hulls-ranged i j [] h few printed = refl
hulls-ranged i j (e ∷ es) h few printed =
    let parts = both (is_printable_interval e) (list_all is_printable_interval es) printed in
    let indices = and-true (is_model_index i) (is_state_index j) (below-test i 16 h) (below-test j 8 (omega arith)) in
    and-true (is_in_range (hull i j e.0 e.1)) (list_all is_in_range (map (λ h. hull i h.0 h.1.0 h.1.1) (enumerate_from (j + 1) es)))
    (and-true (is_model_index i && is_state_index j) (is_printable_interval e) indices parts.0) (hulls-ranged i (j + 1) es h (omega arith) parts.1)

module _ (samples : List Sample) (k : ℕ) where
  outcome-ranged : (i : ℕ) (p : Plant) (c : Option Certificate) → i < 16 → p.outputs ≤ 6 → p.states ≤ 8
      → allows_at any_justified sets_observer p samples k c ≡ true
      → list_all is_printable_interval (answer_at sets_observer samples k p c).hulls ≡ true
      → list_all is_in_range (outcome_lines i c (answer_at sets_observer samples k p c).hulls (answer_at sets_observer samples k p c).is_widened) ≡ true
  outcome-ranged i p (Some cert) h outs states allowed printed =
      let named = allowed-fits sets_observer samples k p (Some cert) outs allowed in
      and-true (is_in_range (exclude i cert)) true (and-true (is_model_index i) (is_certificate cert) (below-test i 16 h) named) refl
  outcome-ranged i p None h outs states allowed printed =
      let z = sets_observer.corrected p samples k in
      let hs = hulls p z in
      let few : 0 + length hs ≤ 8 = omega (arith, length-tabulate p.states (hull_of z), states) in
      let last = status i (not (answer_at sets_observer samples k p None).is_widened) in
      list_all-append is_in_range (hull_lines i hs) (last ∷ [])
      ∙ and-true (list_all is_in_range (hull_lines i hs)) (list_all is_in_range (last ∷ [])) (hulls-ranged i 0 hs h few printed) (and-true (is_in_range last) true (below-test i 16 h) refl)

  model-ranged : (i : ℕ) (p : Plant) (c : Option Certificate) → i < 16 → p.outputs ≤ 6 → p.states ≤ 8
      → allows_at any_justified sets_observer p samples k c ≡ true
      → CanBePrinted (record { index = i; answer = answer_at sets_observer samples k p c })
      → list_all is_in_range (model_lines (record { index = i; answer = answer_at sets_observer samples k p c })) ≡ true
  model-ranged i p c h outs states allowed printed =
      let a = answer_at sets_observer samples k p c in
      let few : 0 + length a.predicted ≤ 6 = omega (arith, length-tabulate p.outputs (out_of p (sample_at samples k).inputs (sets_observer.predicted p samples k)), outs) in
      list_all-append is_in_range (pred_lines i a.predicted) (outcome_lines i c a.hulls a.is_widened)
      ∙ and-true (list_all is_in_range (pred_lines i a.predicted)) (list_all is_in_range (outcome_lines i c a.hulls a.is_widened)) (preds-ranged i 0 a.predicted h few printed.0)
      (outcome-ranged i p c h outs states allowed printed.1)

  -- the lines of all models
  pub models-ranged : (i : ℕ) (ps : List Plant) (lives : List Bool) (cs : List (Option Certificate)) → i + length ps ≤ 16
      → All (λ (p : Plant). p.outputs ≤ 6) ps → All (λ (p : Plant). p.states ≤ 8) ps
      → all_allowed any_justified sets_observer ps lives cs samples k ≡ true
      → All CanBePrinted (answers_from sets_observer i ps lives cs samples k)
      → list_all is_in_range (flat_map model_lines (answers_from sets_observer i ps lives cs samples k)) ≡ true
  models-ranged i [] lives cs few outs states allowed printed = refl
  models-ranged i (p ∷ ps) [] cs few outs states allowed printed = refl
  models-ranged i (p ∷ ps) (live ∷ lives) [] few outs states allowed printed = refl
  models-ranged i (p ∷ ps) (true ∷ lives) (c ∷ cs) few outs states allowed printed =
      let m : ModelAnswer = record { index = i; answer = answer_at sets_observer samples k p c } in
      let others = answers_from sets_observer (i + 1) ps lives cs samples k in
      let parts = both (allows_at any_justified sets_observer p samples k c) (all_allowed any_justified sets_observer ps lives cs samples k) allowed in
      list_all-append is_in_range (model_lines m) (flat_map model_lines others)
      ∙ and-true (list_all is_in_range (model_lines m)) (list_all is_in_range (flat_map model_lines others))
      (model-ranged i p c (omega arith) (All-head (λ (p : Plant). p.outputs ≤ 6) p ps outs) (All-head (λ (p : Plant). p.states ≤ 8) p ps states) parts.0 (All-head CanBePrinted m others printed))
      (models-ranged (i + 1) ps lives cs (omega arith) (All-tail (λ (p : Plant). p.outputs ≤ 6) p ps outs) (All-tail (λ (p : Plant). p.states ≤ 8) p ps states) parts.1 (All-tail CanBePrinted m others printed))
  models-ranged i (p ∷ ps) (false ∷ lives) (c ∷ cs) few outs states allowed printed =
      models-ranged (i + 1) ps lives cs (omega arith) (All-tail (λ (p : Plant). p.outputs ≤ 6) p ps outs) (All-tail (λ (p : Plant). p.states ≤ 8) p ps states) allowed printed

-- the lines of the sample up to the predictions of the refused model
pub refused_lines-ranged : (names : List (List ℕ)) (ps : List Plant) (taken : List Sample) (c : Choice) (bytes left : List ℕ)
    → Replayed names ps taken c bytes left → (s : Sample)
    (os : List (Option Certificate)) (refusal : Refusal) → RefusesOffer s os ps taken (lives_before c (length ps) (length taken)) refusal
    → AreFew ps → All (λ (p : Plant). p.states ≤ 8) ps → length taken < 2 ^ 63 → All CanBePrinted refusal.before
    → list_all is_printable_interval refusal.predicted ≡ true
    → list_all is_in_range (refused_lines (length taken) refusal) ≡ true
refused_lines-ranged names ps taken c bytes left replayed s os refusal refuses few few_states number printed last =
    let k = length taken in
    let all = taken ++ s ∷ [] in
    let model = few-models names ps taken c bytes left replayed s os refusal refuses few in
    let outs = few-outputs names ps taken c bytes left replayed s os refusal refuses few in
    let fewer = below-all names ps taken c bytes left replayed s os refusal refuses few in
    let many = few.few_models in
    let below : list_all is_in_range (flat_map model_lines refusal.before) ≡ true =
    ap (λ rs. list_all is_in_range (flat_map model_lines rs)) refuses.before_are
    ∙ models-ranged all k 0 refuses.plants_below refuses.lives_below refuses.offers_below (omega arith)
    (All-front (λ (p : Plant). p.outputs ≤ 6) refuses.plants_below (refuses.plant ∷ refuses.plants_above) (subst (All (λ (p : Plant). p.outputs ≤ 6)) refuses.plants_are few.few_outputs))
    (All-front (λ (p : Plant). p.states ≤ 8) refuses.plants_below (refuses.plant ∷ refuses.plants_above) (subst (All (λ (p : Plant). p.states ≤ 8)) refuses.plants_are few_states))
    refuses.justified_below (subst (All CanBePrinted) refuses.before_are printed) in
    let there = refuses.predicted_are in
    let size : length refusal.predicted ≡ refuses.plant.outputs =
    ap length there ∙ length-tabulate refuses.plant.outputs (out_of refuses.plant (sample_at all k).inputs (sets_observer.predicted refuses.plant all k)) in
    and-true (is_sample_number k) (list_all is_in_range (flat_map model_lines refusal.before ++ pred_lines refusal.model refusal.predicted)) (below-test k (2 ^ 63) number)
    (list_all-append is_in_range (flat_map model_lines refusal.before) (pred_lines refusal.model refusal.predicted)
    ∙ and-true (list_all is_in_range (flat_map model_lines refusal.before)) (list_all is_in_range (pred_lines refusal.model refusal.predicted)) below
    (preds-ranged refusal.model 0 refusal.predicted model (omega (arith, size, outs)) last))
