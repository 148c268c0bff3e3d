-- The models below one, and that one: where its lines and its offer stand among those of all.
use Rattle.std.proofs.Common.{◌≡◌, ℕ, suc, ◌+◌, Bool, true, false, not, ◌||◌, ◌&&◌, List, [], ◌∷◌, ◌++◌, length, drop, map, flat_map, get_or, Option, Some, None, is_some, if◌then◌else◌, refl, ap, ◌∙◌, arith, subst, length-append}
use Rattle.std.specs.List.{enumerate_from}
use Rattle.std.proofs.lemmas.List.{length-map, drop-drop}
use Rattle.std.proofs.lemmas.List.FromFn.{length-enumerate_from}
use Rattle.set_rules.proofs.ImageSets.{length-tabulate}
use Rattle.farkas_check.specs.Certificate.{Certificate}
use Rattle.plant_model.specs.Plant.{Plant, Sample, sample_at}
use Rattle.observer_step.specs.Predicted.{out_of, hulls}
use Rattle.set_rules.specs.Box.{hull as hull_of}
use Rattle.observer_step.specs.Answers.{Answer, Observer, answer_with, any_justified, allows_at}
use Rattle.model_bank.specs.Answers.{ModelAnswer, answer_if, answers_from, all_allowed}
use Rattle.report_text.specs.Line.{Line, pred, hull, status}
use Rattle.report_rules.specs.Lines.{pred_lines, hull_lines, outcome_lines, model_lines}
use Rattle.report_rules.specs.Replay.{IsOffer, OffersAre, count_of}

-- ---- lists and tests

pub both : (a b : Bool) → (a && b) ≡ true → (a ≡ true) × (b ≡ true)
both true b h = (refl, h)
both false b h = absurd cc

pub and-true : (a b : Bool) → a ≡ true → b ≡ true → a && b ≡ true
and-true true b h k = k
and-true false b h k = absurd cc

pub at-length : {A : Type 0} (xs : List A) (y : A) (ys : List A) (d : A) → get_or (xs ++ y ∷ ys) (length xs) d ≡ y
at-length [] y ys d = refl
at-length (x ∷ xs) y ys d = at-length xs y ys d

if-append : (live : Bool) (i : ℕ) (a : Answer) (xs ys : List ModelAnswer) → answer_if live i a (xs ++ ys) ≡ answer_if live i a xs ++ ys
if-append true i a xs ys = refl
if-append false i a xs ys = refl

-- ---- how many lines a model has

length-numbered : {A : Type 0} (f : ℕ × A → Line) (j : ℕ) (xs : List A) → length (map f (enumerate_from j xs)) ≡ length xs
length-numbered f j xs = length-map (enumerate_from j xs) f ∙ length-enumerate_from j xs

module _ (o : Observer) (samples : List Sample) (k : ℕ) where
  -- the answer on a model with a certificate, or none
  abbrev pub answer_at : Plant → Option Certificate → Answer
  answer_at p c = answer_with o p samples k c

  pub length-preds : (i : ℕ) (p : Plant) (c : Option Certificate) → length (pred_lines i (answer_at p c).predicted) ≡ p.outputs
  length-preds i p c =
      length-numbered (λ p. pred i p.0 p.1.0 p.1.1) 0 (answer_at p c).predicted
      ∙ length-tabulate p.outputs (out_of p (sample_at samples k).inputs (o.predicted p samples k))

  length-outcome : (i : ℕ) (p : Plant) (c : Option Certificate)
      → length (outcome_lines i c (answer_at p c).hulls (answer_at p c).is_widened) ≡ (if is_some c then 1 else p.states + 1)
  length-outcome i p (Some cert) = refl
  length-outcome i p None =
      let hs = hulls p (o.corrected p samples k) in
      let many : length (hull_lines i hs) ≡ p.states =
      length-numbered (λ h. hull i h.0 h.1.0 h.1.1) 0 hs ∙ length-tabulate p.states (hull_of (o.corrected p samples k)) in
      length-append (hull_lines i hs) (status i (not (answer_at p None).is_widened) ∷ []) ∙ ap (λ n. n + 1) many

  pub length-model : (i : ℕ) (p : Plant) (c : Option Certificate) → length (model_lines (record { index = i; answer = answer_at p c })) ≡ count_of p c
  length-model i p c =
      length-append (pred_lines i (answer_at p c).predicted) (outcome_lines i c (answer_at p c).hulls (answer_at p c).is_widened)
      ∙ ap (λ n. n + length (outcome_lines i c (answer_at p c).hulls (answer_at p c).is_widened)) (length-preds i p c)
      ∙ ap (λ n. p.outputs + n) (length-outcome i p c)

  -- ---- as many certificates as models

  pub length-allowed : (ps : List Plant) (lives : List Bool) (cs : List (Option Certificate))
      → all_allowed any_justified o ps lives cs samples k ≡ true
      → (length lives ≡ length ps) × (length cs ≡ length ps)
  length-allowed [] [] [] h = (refl, refl)
  length-allowed [] [] (c ∷ cs) h = absurd cc
  length-allowed [] (live ∷ lives) cs h = absurd cc
  length-allowed (p ∷ ps) [] cs h = absurd cc
  length-allowed (p ∷ ps) (live ∷ lives) [] h = absurd cc
  length-allowed (p ∷ ps) (live ∷ lives) (c ∷ cs) h =
      let more = length-allowed ps lives cs (both (not live || allows_at any_justified o p samples k c) (all_allowed any_justified o ps lives cs samples k) h).1 in
      (ap suc more.0, ap suc more.1)

-- ---- a model among others

module _ (o : Observer) (samples : List Sample) (k : ℕ) where
  module _ (p : Plant) (above : List Plant) (lives_above : List Bool) (c : Option Certificate) (cs_above : List (Option Certificate)) where
    -- the answers on those below, on it, and on those above
    pub answers-placed : (i : ℕ) (below : List Plant) (lives : List Bool) (cs : List (Option Certificate)) → length lives ≡ length below
        → length cs ≡ length below
        → answers_from o i (below ++ p ∷ above) (lives ++ true ∷ lives_above) (cs ++ c ∷ cs_above) samples k
        ≡ answers_from o i below lives cs samples k
        ++ record { index = i + length below; answer = answer_at o samples k p c } ∷ answers_from o (i + length below + 1) above lives_above cs_above samples k
    answers-placed i [] [] [] e f =
        let here : i ≡ i + 0 = omega arith in
        ap (λ j. record { index = j; answer = answer_at o samples k p c } ∷ answers_from o (j + 1) above lives_above cs_above samples k) here
    answers-placed i [] [] (d ∷ cs) e f = absurd cc
    answers-placed i [] (live ∷ lives) cs e f = absurd cc
    answers-placed i (q ∷ below) [] cs e f = absurd cc
    answers-placed i (q ∷ below) (live ∷ lives) [] e f = absurd cc
    answers-placed i (q ∷ below) (live ∷ lives) (d ∷ cs) e f =
        let next : i + 1 + length below ≡ i + suc (length below) = omega arith in
        let behind = λ (j : ℕ). record { index = j; answer = answer_at o samples k p c } ∷ answers_from o (j + 1) above lives_above cs_above samples k in
        ap (answer_if live i (answer_at o samples k q d))
        (answers-placed (i + 1) below lives cs (cc) (cc) ∙ ap (λ j. answers_from o (i + 1) below lives cs samples k ++ behind j) next)
        ∙ if-append live i (answer_at o samples k q d) (answers_from o (i + 1) below lives cs samples k) (behind (i + suc (length below)))

    -- what is justified for each
    pub allowed-placed : (below : List Plant) (lives : List Bool) (cs : List (Option Certificate))
        → all_allowed any_justified o below lives cs samples k ≡ true
        → allows_at any_justified o p samples k c ≡ true
        → all_allowed any_justified o above lives_above cs_above samples k ≡ true
        → all_allowed any_justified o (below ++ p ∷ above) (lives ++ true ∷ lives_above) (cs ++ c ∷ cs_above) samples k ≡ true
    allowed-placed [] [] [] h here over = and-true (allows_at any_justified o p samples k c) (all_allowed any_justified o above lives_above cs_above samples k) here over
    allowed-placed [] [] (d ∷ cs) h here over = absurd cc
    allowed-placed [] (live ∷ lives) cs h here over = absurd cc
    allowed-placed (q ∷ below) [] cs h here over = absurd cc
    allowed-placed (q ∷ below) (live ∷ lives) [] h here over = absurd cc
    allowed-placed (q ∷ below) (live ∷ lives) (d ∷ cs) h here over =
        let first = not live || allows_at any_justified o q samples k d in
        let parts = both first (all_allowed any_justified o below lives cs samples k) h in
        and-true first (all_allowed any_justified o (below ++ p ∷ above) (lives ++ true ∷ lives_above) (cs ++ c ∷ cs_above) samples k) parts.0
        (allowed-placed below lives cs parts.1 here over)

    -- its offer stands behind the lines of those below and its own predictions
    pub offer-placed : (i : ℕ) (below : List Plant) (lives : List Bool) (cs : List (Option Certificate)) (ts : List (List ℕ)) → length lives ≡ length below
        → length cs ≡ length below
        → OffersAre i (below ++ p ∷ above) (lives ++ true ∷ lives_above) ts (cs ++ c ∷ cs_above)
        → IsOffer (i + length below) (drop (length (flat_map model_lines (answers_from o i below lives cs samples k)) + p.outputs) ts) c
    offer-placed i [] [] [] ts e f h =
        let here : i ≡ i + 0 = omega arith in
        let many : p.outputs ≡ 0 + p.outputs = omega arith in
        subst (λ n. IsOffer (i + 0) (drop n ts) c) many (subst (λ j. IsOffer j (drop p.outputs ts) c) here h.0)
    offer-placed i [] [] (d ∷ cs) ts e f h = absurd cc
    offer-placed i [] (live ∷ lives) cs ts e f h = absurd cc
    offer-placed i (q ∷ below) [] cs ts e f h = absurd cc
    offer-placed i (q ∷ below) (live ∷ lives) [] ts e f h = absurd cc
    offer-placed i (q ∷ below) (true ∷ lives) (d ∷ cs) ts e f h =
        let rest = flat_map model_lines (answers_from o (i + 1) below lives cs samples k) in
        let lines = model_lines (record { index = i; answer = answer_at o samples k q d }) in
        let next : i + 1 + length below ≡ i + suc (length below) = omega arith in
        let more = offer-placed (i + 1) below lives cs (drop (count_of q d) ts) (cc) (cc) h.1 in
        let many : count_of q d + (length rest + p.outputs) ≡ length (lines ++ rest) + p.outputs = omega (arith, length-append lines rest, length-model o samples k i q d) in
        let cut : drop (length rest + p.outputs) (drop (count_of q d) ts) ≡ drop (length (lines ++ rest) + p.outputs) ts =
        drop-drop (length rest + p.outputs) (count_of q d) ts ∙ ap (λ n. drop n ts) many in
        subst (λ us. IsOffer (i + suc (length below)) us c) cut (subst (λ j. IsOffer j (drop (length rest + p.outputs) (drop (count_of q d) ts)) c) next more)
    offer-placed i (q ∷ below) (false ∷ lives) (d ∷ cs) ts e f h =
        let rest = flat_map model_lines (answers_from o (i + 1) below lives cs samples k) in
        let next : i + 1 + length below ≡ i + suc (length below) = omega arith in
        subst (λ j. IsOffer j (drop (length rest + p.outputs) ts) c) next (offer-placed (i + 1) below lives cs ts (cc) (cc) h)

    -- the offers of those below
    pub offers-front : (i : ℕ) (below : List Plant) (lives : List Bool) (cs : List (Option Certificate)) (ts : List (List ℕ)) → length lives ≡ length below
        → length cs ≡ length below
        → OffersAre i (below ++ p ∷ above) (lives ++ true ∷ lives_above) ts (cs ++ c ∷ cs_above) → OffersAre i below lives ts cs
    offers-front i [] [] [] ts e f h = tt
    offers-front i [] [] (d ∷ cs) ts e f h = absurd cc
    offers-front i [] (live ∷ lives) cs ts e f h = absurd cc
    offers-front i (q ∷ below) [] cs ts e f h = absurd cc
    offers-front i (q ∷ below) (live ∷ lives) [] ts e f h = absurd cc
    offers-front i (q ∷ below) (true ∷ lives) (d ∷ cs) ts e f h = (h.0, offers-front (i + 1) below lives cs (drop (count_of q d) ts) (cc) (cc) h.1)
    offers-front i (q ∷ below) (false ∷ lives) (d ∷ cs) ts e f h = offers-front (i + 1) below lives cs ts (cc) (cc) h

  -- justified certificates by those below, the one of the model, and those above
  pub record AllowedParts (p : Plant) (below : List Plant) (lives : List Bool) (cs : List (Option Certificate)) : Type 0 where
    pub cs_below : List (Option Certificate)
    pub certificate : Option Certificate
    pub cs_above : List (Option Certificate)
    pub are : cs ≡ cs_below ++ certificate ∷ cs_above
    pub below_allowed : all_allowed any_justified o below lives cs_below samples k ≡ true
    pub allowed : allows_at any_justified o p samples k certificate ≡ true

  pub allowed-parts : (p : Plant) (above : List Plant) (lives_above : List Bool) (below : List Plant) (lives : List Bool) (cs : List (Option Certificate)) → length lives ≡ length below
      → all_allowed any_justified o (below ++ p ∷ above) (lives ++ true ∷ lives_above) cs samples k ≡ true → AllowedParts p below lives cs
  allowed-parts p above lives_above [] [] [] e h = absurd cc
  allowed-parts p above lives_above [] [] (c ∷ cs) e h =
      record {
        cs_below = [];
        certificate = c;
        cs_above = cs;
        are = refl;
        below_allowed = refl;
        allowed = (both (allows_at any_justified o p samples k c) (all_allowed any_justified o above lives_above cs samples k) h).0;
      }
  allowed-parts p above lives_above [] (live ∷ lives) cs e h = absurd cc
  allowed-parts p above lives_above (q ∷ below) [] cs e h = absurd cc
  allowed-parts p above lives_above (q ∷ below) (live ∷ lives) [] e h = absurd cc
  allowed-parts p above lives_above (q ∷ below) (live ∷ lives) (d ∷ cs) e h =
      let first = not live || allows_at any_justified o q samples k d in
      let parts = both first (all_allowed any_justified o (below ++ p ∷ above) (lives ++ true ∷ lives_above) cs samples k) h in
      one-more parts.0 (allowed-parts p above lives_above below lives cs (cc) parts.1)
    where
      one-more : (not live || allows_at any_justified o q samples k d) ≡ true → AllowedParts p below lives cs → AllowedParts p (q ∷ below) (live ∷ lives) (d ∷ cs)
      one-more first more = record {
        cs_below = d ∷ more.cs_below;
        certificate = more.certificate;
        cs_above = more.cs_above;
        are = ap (λ ds. d ∷ ds) more.are;
        below_allowed = and-true (not live || allows_at any_justified o q samples k d) (all_allowed any_justified o below lives more.cs_below samples k) first more.below_allowed;
        allowed = more.allowed;
      }
