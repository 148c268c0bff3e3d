-- The lines of two justified lists of certificates are the same, or they part at the outcome of a model.
use Rattle.std.proofs.Common.{◌≡◌, ◌≢◌, ◌⊎◌, inl, inr, ℕ, zero, suc, ◌+◌, ◌<◌, ◌≤◌, ◌==◌, nat_lt, ℤ, Bool, true, false, ◌&&◌, List, [], ◌∷◌, ◌++◌, length, drop, flat_map, Option, Some, None, is_none, refl, sym, ap, ◌∙◌, arith, subst, append_assoc}
use Rattle.std.specs.List.{All}
use Rattle.std.proofs.lemmas.Bool.Decides.{nat_tests}
use Rattle.std.proofs.lemmas.List.Elements.{All-head, All-tail}
use Rattle.set_rules.specs.Tests.{first_below, last_passing, or_else}
use Rattle.set_rules.specs.Box.{hull as hull_of}
use Rattle.set_rules.proofs.ImageSets.{length-tabulate}
use Rattle.farkas_check.specs.Certificate.{Certificate, by_out, by_rows}
use Rattle.farkas_check.specs.Multipliers.{are_multipliers}
use Rattle.isolate_core.specs.Verdict.{verdict_of, possible_models}
use Rattle.plant_model.specs.Plant.{Plant, Sample, sample_at, reading_at}
use Rattle.observer_step.specs.Predicted.{out_of, reading_misses, due}
use Rattle.observer_step.specs.Answers.{Observer, due_at, is_justified, any_justified, allows_at}
use Rattle.model_bank.specs.Answers.{ModelAnswer, answers_from, sample_answer, live_after, all_allowed}
use Rattle.report_text.specs.Line.{Line, sample, possible, verdict}
use Rattle.report_text.specs.Ranges.{is_certificate}
use Rattle.report_rules.specs.Lines.{pred_lines, model_lines, sample_lines}
use Rattle.report_rules.specs.Report.{Choice, lives_before, samples_lines}
use Rattle.report_rules.specs.Replay.{AreFew, IsOffer, OffersAre}
use Rattle.report_rules.proofs.Placed.{both, answer_at, length-preds, length-model}
use Rattle.report_rules.proofs.Refused.{outcome-begins, Fits}
use Rattle.report_rules.proofs.Parting.{PartsAt, NoneTaken, parts-behind, parts-before, parts-like, parted-no-front, same-or-other}

-- ---- a justified certificate is in range

-- an output that is due is one of the plant's
first-below : (n : ℕ) (test : ℕ → Bool) (q : ℕ) → first_below n test ≡ Some q → q < n
unfolding first_below
first-below zero test q e = absurd cc
first-below (suc n) test q e = by (first_below n test) (first-below n test q) (test n) e
  where
    by : (before : Option ℕ) → (before ≡ Some q → q < n) → (b : Bool) → or_else before (last_passing n b) ≡ Some q → q < suc n
    by (Some p) less b e = omega (arith, less e)
    by None less true e = let same : n ≡ q = cc in omega (arith, same)
    by None less false e = absurd cc

-- a certificate names an output that is due, or has multipliers
certificate-ranged : (due : Option ℕ) (refutes : List ℤ → Bool) (c : Certificate) → ((q : ℕ) → due ≡ Some q → q < 6)
    → is_justified due refutes (Some c) ≡ true → is_certificate c ≡ true
certificate-ranged (Some o) refutes (by_out q) below h = within q o (below o refl) h
  where
    within : (q o : ℕ) → o < 6 → (q == o) ≡ true → nat_lt q 6 ≡ true
    within q o l h = grind (arith, nat_tests)
certificate-ranged (Some o) refutes (by_rows ls) below h = absurd cc
certificate-ranged None refutes (by_out q) below h = absurd cc
certificate-ranged None refutes (by_rows ls) below h = (both (refutes ls) (are_multipliers ls) h).1

module _ (o : Observer) (samples : List Sample) (k : ℕ) where
  due-below : (p : Plant) (q : ℕ) → due_at o p samples k ≡ Some q → q < p.outputs
  unfolding due
  due-below p q e =
      first-below p.outputs (λ out. reading_misses (out_of p (sample_at samples k).inputs (o.predicted p samples k) out)
      (reading_at (sample_at samples k) out)) q e

  pub allowed-fits : (p : Plant) (c : Option Certificate) → p.outputs ≤ 6 → allows_at any_justified o p samples k c ≡ true → Fits c
  allowed-fits p None few allowed = tt
  allowed-fits p (Some c) few allowed =
      certificate-ranged (due_at o p samples k) (o.refutes p samples k) c (λ q e. omega (arith, due-below p q e, few)) allowed

  -- ---- the lines of models with two justified lists of certificates

  pub some-hull : (p : Plant) → 1 ≤ p.states → (c : Option Certificate) → c ≡ None → 1 ≤ length (answer_at o samples k p c).hulls
  some-hull p some None e = omega (arith, length-tabulate p.states (hull_of (o.corrected p samples k)), some)
  some-hull p some (Some x) e = absurd cc

  abbrev pub lines_from : ℕ → List Plant → List Bool → List (Option Certificate) → List Line
  lines_from i ps lives cs = flat_map model_lines (answers_from o i ps lives cs samples k)

  abbrev pub IsAllowed : List Plant → List Bool → List (Option Certificate) → Type 0
  IsAllowed ps lives cs = all_allowed any_justified o ps lives cs samples k ≡ true

  -- they are the same, or they part
  abbrev pub ModelsAlike : ℕ → List Plant → List Bool → List (Option Certificate) → List (Option Certificate) → Type 0
  ModelsAlike i ps lives os cs =
      ((answers_from o i ps lives os samples k ≡ answers_from o i ps lives cs samples k) × (live_after lives os ≡ live_after lives cs))
      ⊎ PartsAt (λ ts. OffersAre i ps lives ts os) (lines_from i ps lives os) (lines_from i ps lives cs)

  -- the first model parts them
  models-part : (i : ℕ) (p : Plant) (ps : List Plant) (lives : List Bool) (x c : Option Certificate) (os cs : List (Option Certificate))
      → i < 16 → 1 ≤ p.states → Fits x → Fits c → x ≢ c
      → PartsAt (λ ts. OffersAre i (p ∷ ps) (true ∷ lives) ts (x ∷ os)) (lines_from i (p ∷ ps) (true ∷ lives) (x ∷ os))
      (lines_from i (p ∷ ps) (true ∷ lives) (c ∷ cs))
  models-part i p ps lives x c os cs few some fits fits' other =
      let answer = answer_at o samples k p in
      let preds = pred_lines i (answer x).predicted in
      let first = outcome-begins i x (answer x).hulls (answer x).is_widened (some-hull p some x) in
      let second = outcome-begins i c (answer c).hulls (answer c).is_widened (some-hull p some c) in
      let above = lines_from (i + 1) ps lives os in
      let above' = lines_from (i + 1) ps lives cs in
      record {
        i = i;
        offer = x;
        certificate = c;
        common = preds;
        l = first.0;
        l' = second.0;
        tail = first.1 ++ above;
        tail' = second.1 ++ above';
        few = few;
        fits = fits;
        fits' = fits';
        other = other;
        outcome = first.3;
        outcome' = second.3;
        is = ap (λ ls. (preds ++ ls) ++ above) first.2 ∙ append_assoc preds (first.0 ∷ first.1) above;
        is' = ap (λ ls. (preds ++ ls) ++ above') second.2 ∙ append_assoc preds (second.0 ∷ second.1) above';
        offered = λ ts t. subst (λ n. IsOffer i (drop n ts) x) (sym (length-preds o samples k i p x)) t.0;
      }

  pub models-alike : (i : ℕ) (ps : List Plant) (lives : List Bool) (os cs : List (Option Certificate)) → i + length ps ≤ 16
      → All (λ (p : Plant). p.outputs ≤ 6) ps → All (λ (p : Plant). 1 ≤ p.states) ps → IsAllowed ps lives os → IsAllowed ps lives cs
      → ModelsAlike i ps lives os cs
  models-alike i [] [] [] [] few outs states h g = inl (refl, refl)
  models-alike i [] [] [] (c ∷ cs) few outs states h g = absurd cc
  models-alike i [] [] (x ∷ os) cs few outs states h g = absurd cc
  models-alike i [] (live ∷ lives) os cs few outs states h g = absurd cc
  models-alike i (p ∷ ps) [] os cs few outs states h g = absurd cc
  models-alike i (p ∷ ps) (live ∷ lives) [] cs few outs states h g = absurd cc
  models-alike i (p ∷ ps) (live ∷ lives) (x ∷ os) [] few outs states h g = absurd cc
  models-alike i (p ∷ ps) (false ∷ lives) (x ∷ os) (c ∷ cs) few outs states h g =
      by (models-alike (i + 1) ps lives os cs (omega (arith, few)) (All-tail (λ (p : Plant). p.outputs ≤ 6) p ps outs)
      (All-tail (λ (p : Plant). 1 ≤ p.states) p ps states) h g)
    where
      by : ModelsAlike (i + 1) ps lives os cs → ModelsAlike i (p ∷ ps) (false ∷ lives) (x ∷ os) (c ∷ cs)
      by (inl same) = inl (same.0, ap (λ ls. false ∷ ls) same.1)
      by (inr parts) = inr parts
  models-alike i (p ∷ ps) (true ∷ lives) (x ∷ os) (c ∷ cs) few outs states h g =
      let first = both (allows_at any_justified o p samples k x) (all_allowed any_justified o ps lives os samples k) h in
      let second = both (allows_at any_justified o p samples k c) (all_allowed any_justified o ps lives cs samples k) g in
      let few-outs = All-head (λ (p : Plant). p.outputs ≤ 6) p ps outs in
      by (allowed-fits p x few-outs first.0) (allowed-fits p c few-outs second.0)
      (models-alike (i + 1) ps lives os cs (omega (arith, few)) (All-tail (λ (p : Plant). p.outputs ≤ 6) p ps outs)
      (All-tail (λ (p : Plant). 1 ≤ p.states) p ps states) first.1 second.1)
      (same-or-other x c)
    where
      later : ModelsAlike (i + 1) ps lives os cs → ModelsAlike i (p ∷ ps) (true ∷ lives) (x ∷ os) (x ∷ cs)
      later (inl same) =
          inl (ap (λ ms. record { index = i; answer = answer_at o samples k p x } ∷ ms) same.0, ap (λ ls. (true && is_none x) ∷ ls) same.1)
      later (inr parts) =
          inr (parts-behind (model_lines (record { index = i; answer = answer_at o samples k p x }))
          (λ ts t. subst (λ n. OffersAre (i + 1) ps lives (drop n ts) os) (sym (length-model o samples k i p x)) t.1) parts)

      by : Fits x → Fits c → ModelsAlike (i + 1) ps lives os cs → (x ≡ c) ⊎ (x ≢ c) → ModelsAlike i (p ∷ ps) (true ∷ lives) (x ∷ os) (c ∷ cs)
      by fits fits' more (inl same) = subst (λ c. ModelsAlike i (p ∷ ps) (true ∷ lives) (x ∷ os) (c ∷ cs)) same (later more)
      by fits fits' more (inr other) =
          inr (models-part i p ps lives x c os cs (omega (arith, few)) (All-head (λ (p : Plant). 1 ≤ p.states) p ps states) fits fits' other)

  -- ---- the lines of a sample

  abbrev pub lines_with : List Plant → List Bool → List (Option Certificate) → List Line
  lines_with ps lives cs = sample_lines (sample_answer o ps lives cs samples k)

  abbrev pub SampleAlike : List Plant → List Bool → List (Option Certificate) → List (Option Certificate) → Type 0
  SampleAlike ps lives os cs =
      ((lines_with ps lives os ≡ lines_with ps lives cs) × (live_after lives os ≡ live_after lives cs))
      ⊎ PartsAt (λ ts. OffersAre 0 ps lives (drop 1 ts) os) (lines_with ps lives os) (lines_with ps lives cs)

  pub sample-alike : (ps : List Plant) (lives : List Bool) (os cs : List (Option Certificate)) → AreFew ps → IsAllowed ps lives os
      → IsAllowed ps lives cs
      → SampleAlike ps lives os cs
  sample-alike ps lives os cs few h g = by (models-alike 0 ps lives os cs (omega (arith, few.few_models)) few.few_outputs few.some_state h g)
    where
      closing : List (Option Certificate) → List Line
      closing cs = possible (possible_models (live_after lives cs)) ∷ verdict (verdict_of (possible_models (live_after lives cs))) ∷ []

      by : ModelsAlike 0 ps lives os cs → SampleAlike ps lives os cs
      by (inl same) = inl (same-lines same.0 same.1, same.1)
        where
          same-lines : {ms ms' : List ModelAnswer} {ls ls' : List Bool} → ms ≡ ms' → ls ≡ ls'
              → sample k ∷ (flat_map model_lines ms ++ (possible (possible_models ls) ∷ verdict (verdict_of (possible_models ls)) ∷ []))
              ≡ sample k ∷ (flat_map model_lines ms' ++ (possible (possible_models ls') ∷ verdict (verdict_of (possible_models ls')) ∷ []))
          same-lines e f = cc
      by (inr parts) = inr (parts-behind (sample k ∷ []) (λ ts t. t) (parts-before (closing os) (closing cs) parts))

-- ---- the lines of some samples

module _ (o : Observer) (ps : List Plant) (samples : List Sample) where
  abbrev m : ℕ
  m = length ps

  -- what is said at each sample before n is justified
  abbrev pub IsAllowedTo : Choice → ℕ → Type 0
  IsAllowedTo c n = (k : ℕ) → k < n → all_allowed any_justified o ps (lives_before c (length ps) k) (c k) samples k ≡ true

  pub lines-more : (c : Choice) (n : ℕ) → samples_lines o ps samples c (suc n) ≡ samples_lines o ps samples c n ++ lines_with o samples n ps
      (lives_before c m n) (c n)
  unfolding samples_lines
  lines-more c n = refl

  lives-more : (c : Choice) (n : ℕ) → lives_before c m (suc n) ≡ live_after (lives_before c m n) (c n)
  unfolding lives_before
  lives-more c n = refl

  none-before : (c d : Choice) → (samples_lines o ps samples c zero ≡ samples_lines o ps samples d zero) × (lives_before c m zero ≡ lives_before d m zero)
  unfolding samples_lines lives_before
  none-before c d = (refl, refl)

  module _ (few : AreFew ps) (c d : Choice) where
    abbrev pub SamplesAlike : ℕ → Type 0
    SamplesAlike n =
        ((samples_lines o ps samples c n ≡ samples_lines o ps samples d n) × (lives_before c m n ≡ lives_before d m n))
        ⊎ PartsAt NoneTaken (samples_lines o ps samples c n) (samples_lines o ps samples d n)

    -- one sample more, of the same live models behind the same lines
    alike-more : (n : ℕ) → samples_lines o ps samples c n ≡ samples_lines o ps samples d n → lives_before c m n ≡ lives_before d m n
        → SampleAlike o samples n ps (lives_before c m n) (c n) (d n) → SamplesAlike (suc n)
    alike-more n same live alike = by alike
      where
        d-lines : samples_lines o ps samples d (suc n) ≡ samples_lines o ps samples c n ++ lines_with o samples n ps (lives_before c m n) (d n)
        d-lines =
            lines-more d n ∙ ap (λ ls. ls ++ lines_with o samples n ps (lives_before d m n) (d n)) (sym same)
            ∙ ap (λ lives. samples_lines o ps samples c n ++ lines_with o samples n ps lives (d n)) (sym live)

        by : SampleAlike o samples n ps (lives_before c m n) (c n) (d n) → SamplesAlike (suc n)
        by (inl one) =
            inl (
              lines-more c n ∙ ap (λ ls. samples_lines o ps samples c n ++ ls) one.0 ∙ sym d-lines,
              lives-more c n ∙ one.1 ∙ ap (λ lives. live_after lives (d n)) live ∙ sym (lives-more d n),
            )
        by (inr parts) = inr (parts-like (lines-more c n) d-lines (parts-behind (samples_lines o ps samples c n) (λ ts t. absurd t) parts))

    pub samples-alike : (n : ℕ) → IsAllowedTo c n → IsAllowedTo d n → SamplesAlike n
    samples-alike zero h g = inl (none-before c d)
    samples-alike (suc n) h g = by (samples-alike n (λ k l. h k (omega arith)) (λ k l. g k (omega arith)))
      where
        by : SamplesAlike n → SamplesAlike (suc n)
        by (inl same) =
            alike-more n same.0 same.1
            (sample-alike o samples n ps (lives_before c m n) (c n) (d n) few (h n (omega arith))
            (ap (λ lives. all_allowed any_justified o ps lives (d n) samples n) same.1 ∙ g n (omega arith)))
        by (inr parts) =
            inr (parts-like (lines-more c n) (lines-more d n)
            (parts-before (lines_with o samples n ps (lives_before c m n) (c n)) (lines_with o samples n ps (lives_before d m n) (d n)) parts))

    -- where the one's lines go on from the other's, they are the same, and so are the live models
    pub front-alike : (n : ℕ) → IsAllowedTo c n → IsAllowedTo d n → (x y : List Line)
        → samples_lines o ps samples d n ++ x ≡ samples_lines o ps samples c n ++ y
        → (samples_lines o ps samples c n ≡ samples_lines o ps samples d n) × (lives_before c m n ≡ lives_before d m n)
    front-alike n h g x y e = by (samples-alike n h g)
      where
        by : SamplesAlike n → (samples_lines o ps samples c n ≡ samples_lines o ps samples d n) × (lives_before c m n ≡ lives_before d m n)
        by (inl same) = same
        by (inr parts) = absurd (parted-no-front parts x y e)
