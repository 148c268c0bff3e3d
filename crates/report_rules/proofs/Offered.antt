-- Where the bytes depart at a model whose offer is not justified.
use Rattle.std.proofs.Common.{◌≡◌, ◌≢◌, ◌⊎◌, inl, inr, ℕ, ◌+◌, ◌<◌, ◌≤◌, Bool, true, List, [], ◌∷◌, ◌++◌, length, take, drop, flat_map, get_or, Option, sym, ap, ◌∙◌, arith, subst, append_assoc, length-append}
use Rattle.std.specs.List.{All, list_all}
use Rattle.std.proofs.lemmas.List.{append-nil, append_cancel_left, drop-drop, get_or_append_left}
use Rattle.std.proofs.lemmas.Grind.{flat_map-append}
use Rattle.farkas_check.specs.Certificate.{Certificate}
use Rattle.isolate_core.specs.Verdict.{verdict_of, possible_models}
use Rattle.plant_model.specs.Plant.{Plant, Sample}
use Rattle.observer_step.specs.Answers.{certificate_at, any_justified, allows_at}
use Rattle.observer_step.specs.SetsAnswers.{sets_observer}
use Rattle.model_bank.specs.Answers.{ModelAnswer, answers_from, sample_answer, live_after, certificates_at, all_allowed}
use Rattle.model_bank.specs.Stepping.{Refusal, RefusesOffer}
use Rattle.report_text.specs.Line.{Line, sample, possible, verdict, put_text, lines_text}
use Rattle.report_text.specs.Ranges.{is_in_range}
use Rattle.report_rules.specs.Lines.{pred_lines, outcome_lines, model_lines, sample_lines}
use Rattle.report_rules.specs.Report.{Choice, lives_before}
use Rattle.report_rules.specs.Replay.{AreFew, watch, lines_so_far, Replayed, IsOffer, OffersAre, Takes, TakesEnough, DepartsAt}
use Rattle.report_rules.proofs.Chosen.{length-lives_before}
use Rattle.observer_step.proofs.Later.{certificate-allowed}
use Rattle.model_bank.proofs.Allowed.{dues-allowed}
use Rattle.report_rules.proofs.Placed.{at-length, answer_at, length-preds, length-allowed, answers-placed, allowed-placed, offer-placed, offers-front, AllowedParts, allowed-parts}
use Rattle.report_rules.proofs.Refused.{IsOutcome, outcome-begins, offer-read}
use Rattle.report_rules.proofs.Parting.{PartsAt, BeginsOrParts, parts-behind, parts-before, parts-like, parted-no-front}
use Rattle.report_rules.proofs.Alike.{allowed-fits, some-hull, ModelsAlike, models-alike}
use Rattle.report_rules.proofs.Replays.{line-departs, begin-departs}

-- the lines of the sample up to the predictions of the refused model
abbrev pub refused_lines : ℕ → Refusal → List Line
refused_lines k refusal = sample k ∷ (flat_map model_lines refusal.before ++ pred_lines refusal.model refusal.predicted)

pub All-front : {A : Type 0} (P : A → Type 0) (xs ys : List A) → All P (xs ++ ys) → All P xs
All-front P xs ys all k d l = subst P (get_or_append_left xs ys d k l) (all k d (omega (arith, l, length-append xs ys)))

module _ (names : List (List ℕ)) (ps : List Plant) (taken : List Sample) (c : Choice) (bytes left : List ℕ)
    (replayed : Replayed names ps taken c bytes left) (s : Sample)
    (os : List (Option Certificate)) (refusal : Refusal)
    (refuses : RefusesOffer s os ps taken (lives_before c (length ps) (length taken)) refusal) where
  abbrev k : ℕ
  k = length taken

  abbrev lives : List Bool
  lives = lives_before c (length ps) k

  abbrev all : List Sample
  all = taken ++ s ∷ []

  abbrev plant : Plant
  plant = refuses.plant

  abbrev front : List Line
  front = refused_lines k refusal

  -- certificates for the sample are justified
  abbrev IsAllowedHere : List (Option Certificate) → Type 0
  IsAllowedHere cs = all_allowed any_justified sets_observer ps lives cs all k ≡ true

  -- its lines with some certificates
  abbrev lines_by : List (Option Certificate) → List Line
  lines_by cs = sample_lines (sample_answer sets_observer ps lives cs all k)

  -- the answers on the models below, and their lines
  abbrev answers_below : List (Option Certificate) → List ModelAnswer
  answers_below cs = answers_from sets_observer 0 refuses.plants_below refuses.lives_below cs all k

  abbrev lines_below : List (Option Certificate) → List Line
  lines_below cs = flat_map model_lines (answers_below cs)

  -- the outcome of the refused model with a certificate, or none
  abbrev outcome : Option Certificate → List Line
  outcome cert = outcome_lines refusal.model cert (answer_at sets_observer all k plant cert).hulls
      (answer_at sets_observer all k plant cert).is_widened

  many-offers : length refuses.offers_below ≡ length refuses.plants_below
  many-offers = (length-allowed sets_observer all k refuses.plants_below refuses.lives_below refuses.offers_below refuses.justified_below).1

  model-place : 0 + length refuses.plants_below ≡ refusal.model
  model-place = omega (arith, refuses.model_is)

  -- ---- the lines of the sample with some certificates for the models below, one for the refused one, and others above

  module _ (cs : List (Option Certificate)) (many : length cs ≡ length refuses.plants_below) (cert : Option Certificate)
      (above : List (Option Certificate)) where
    abbrev here : ModelAnswer
    here = record { index = refusal.model; answer = answer_at sets_observer all k plant cert }

    abbrev answers_above : List ModelAnswer
    answers_above = answers_from sets_observer (refusal.model + 1) refuses.plants_above refuses.lives_above above all k

    answers-are : answers_from sets_observer 0 ps lives (cs ++ cert ∷ above) all k
        ≡ answers_below cs ++ here ∷ answers_above
    answers-are =
        let behind = λ (j : ℕ). record { index = j; answer = answer_at sets_observer all k plant cert }
        ∷ answers_from sets_observer (j + 1) refuses.plants_above refuses.lives_above above all k in
        ap (λ qs. answers_from sets_observer 0 qs lives (cs ++ cert ∷ above) all k) refuses.plants_are
        ∙ ap (λ ls. answers_from sets_observer 0 (refuses.plants_below ++ plant ∷ refuses.plants_above) ls
        (cs ++ cert ∷ above) all k) refuses.lives_are
        ∙ answers-placed sets_observer all k plant refuses.plants_above refuses.lives_above cert above
        0 refuses.plants_below refuses.lives_below cs refuses.as_many_lives many
        ∙ ap (λ j. answers_below cs ++ behind j) model-place

    abbrev stay : List Bool
    stay = live_after lives (cs ++ cert ∷ above)

    abbrev closing : List Line
    closing = possible (possible_models stay) ∷ verdict (verdict_of (possible_models stay)) ∷ []

    -- by the lines of those below
    lines-by : (tail : List Line) × (lines_by (cs ++ cert ∷ above)
        ≡ sample k ∷ (lines_below cs ++ (pred_lines refusal.model refusal.predicted ++ (outcome cert ++ tail))))
    lines-by =
        let below = answers_below cs in
        let lines_above = flat_map model_lines answers_above in (
          lines_above ++ closing,
          ap (λ rs. sample k ∷ (flat_map model_lines rs ++ closing)) answers-are
              ∙ ap (λ ls. sample k ∷ (ls ++ closing)) (flat_map-append model_lines below (here ∷ answers_above))
              ∙ ap (λ outs. sample k ∷ ((lines_below cs ++ ((pred_lines refusal.model outs ++ outcome cert) ++ lines_above)) ++ closing))
              (sym refuses.predicted_are)
              ∙ ap (λ ls. sample k ∷ ls) (grouped (lines_below cs) (pred_lines refusal.model refusal.predicted) (outcome cert) lines_above closing),
        )
      where
        grouped : (a b e f g : List Line) → (a ++ ((b ++ e) ++ f)) ++ g ≡ a ++ (b ++ (e ++ (f ++ g)))
        grouped a b e f g = simp append_assoc

    -- where the answers below are those told, they go on from the lines told with the outcome
    lines-placed : answers_below cs ≡ refusal.before
        → (tail : List Line) × (lines_by (cs ++ cert ∷ above) ≡ front ++ (outcome cert ++ tail))
    lines-placed same =
        let preds = pred_lines refusal.model refusal.predicted in (
          lines-by.0,
          lines-by.1 ∙ ap (λ rs. sample k ∷ (flat_map model_lines rs ++ (preds ++ (outcome cert ++ lines-by.0)))) same
              ∙ ap (λ ls. sample k ∷ ls) (sym (append_assoc (flat_map model_lines refusal.before) preds (outcome cert ++ lines-by.0))),
        )

  -- ---- what is due from the refused model on

  abbrev due_offers : List (Option Certificate)
  due_offers = refuses.offers_below ++ certificate_at sets_observer plant all k ∷ certificates_at sets_observer refuses.plants_above all k

  many-above : length refuses.lives_above ≡ length refuses.plants_above
  many-above =
      let same : length lives ≡ length ps =
      length-lives_before c (length ps) k
      (λ j l. (length-allowed sets_observer taken j ps (lives_before c (length ps) j) (c j) (replayed.allowed j l)).1) in
      let lives_are = ap length refuses.lives_are in
      let plants_are = ap length refuses.plants_are in
      let below = refuses.as_many_lives in
      let lives_split = length-append refuses.lives_below (true ∷ refuses.lives_above) in
      let plants_split = length-append refuses.plants_below (plant ∷ refuses.plants_above) in
      omega (arith, same, lives_are, plants_are, below, lives_split, plants_split)

  -- the offers below and what is due from it on are justified
  due_offers-allowed : IsAllowedHere due_offers
  due_offers-allowed =
      ap (λ qs. all_allowed any_justified sets_observer qs lives due_offers all k) refuses.plants_are
      ∙ ap (λ ls. all_allowed any_justified sets_observer (refuses.plants_below ++ plant ∷ refuses.plants_above) ls due_offers all k)
      refuses.lives_are
      ∙ allowed-placed sets_observer all k plant refuses.plants_above refuses.lives_above (certificate_at sets_observer plant all k)
      (certificates_at sets_observer refuses.plants_above all k)
      refuses.plants_below refuses.lives_below refuses.offers_below refuses.justified_below (certificate-allowed any_justified plant all k)
      (dues-allowed any_justified refuses.plants_above refuses.lives_above all k many-above)

  -- ---- its offer

  module _ (few : AreFew ps) where
    pub below-all : length refuses.plants_below < length ps
    below-all = omega (arith, ap length refuses.plants_are, length-append refuses.plants_below (plant ∷ refuses.plants_above))

    plant-placed : get_or ps (length refuses.plants_below) plant ≡ plant
    plant-placed = ap (λ qs. get_or qs (length refuses.plants_below) plant) refuses.plants_are
        ∙ at-length refuses.plants_below plant refuses.plants_above plant

    pub few-outputs : plant.outputs ≤ 6
    few-outputs = subst (λ (p : Plant). p.outputs ≤ 6) plant-placed (few.few_outputs (length refuses.plants_below) plant below-all)

    some-state : 1 ≤ plant.states
    some-state = subst (λ (p : Plant). 1 ≤ p.states) plant-placed (few.some_state (length refuses.plants_below) plant below-all)

    pub few-models : refusal.model < 16
    few-models = omega (arith, few.few_models, below-all, refuses.model_is)

    module _ (ts : List (List ℕ)) (rest : List ℕ) (takes : Takes ps lives left ts rest os) where
      offers-are : OffersAre 0 (refuses.plants_below ++ plant ∷ refuses.plants_above) (refuses.lives_below ++ true ∷ refuses.lives_above)
          (drop 1 ts) (refuses.offers_below ++ refusal.offered ∷ refuses.offers_above)
      offers-are =
          subst (λ cs. OffersAre 0 (refuses.plants_below ++ plant ∷ refuses.plants_above)
          (refuses.lives_below ++ true ∷ refuses.lives_above) (drop 1 ts) cs) refuses.offers_are
          (subst (λ ls. OffersAre 0 (refuses.plants_below ++ plant ∷ refuses.plants_above) ls (drop 1 ts) os) refuses.lives_are
          (subst (λ qs. OffersAre 0 qs lives (drop 1 ts) os) refuses.plants_are takes.offers))

      -- the offer stands behind these lines
      offer-behind : IsOffer refusal.model (drop (length front) ts) refusal.offered
      offer-behind =
          let below = lines_below refuses.offers_below in
          let placed = offer-placed sets_observer all k plant refuses.plants_above refuses.lives_above refusal.offered refuses.offers_above
          0 refuses.plants_below refuses.lives_below refuses.offers_below (drop 1 ts) refuses.as_many_lives many-offers offers-are in
          let same : length below ≡ length (flat_map model_lines refusal.before) =
          ap (λ rs. length (flat_map model_lines rs)) (sym refuses.before_are) in
          let outs : length (pred_lines refusal.model refusal.predicted) ≡ plant.outputs =
          ap (λ ps. length (pred_lines refusal.model ps)) refuses.predicted_are
          ∙ length-preds sets_observer all k refusal.model plant refusal.offered in
          let many : 1 + (length below + plant.outputs) ≡ length front =
          omega (arith, same, outs, length-append (flat_map model_lines refusal.before) (pred_lines refusal.model refusal.predicted)) in
          subst (λ us. IsOffer refusal.model us refusal.offered) (drop-drop (length below + plant.outputs) 1 ts ∙ ap (λ n. drop n ts) many)
          (subst (λ j. IsOffer j (drop (length below + plant.outputs) (drop 1 ts)) refusal.offered) model-place placed)

      -- ---- other certificates

      abbrev BelowTaken : List (List ℕ) → Type 0
      BelowTaken ts = OffersAre 0 refuses.plants_below refuses.lives_below (drop 1 ts) refuses.offers_below

      -- the lines told, and the outcome of the refused model with a certificate that is justified for it, or none
      record GoesOn (lines : List Line) : Type 0 where
        certificate : Option Certificate
        allowed : allows_at any_justified sets_observer plant all k certificate ≡ true
        tail : List Line
        are : lines ≡ front ++ (outcome certificate ++ tail)

      -- the lines with justified certificates go on so from the lines told, or they part from these at an offer
      others-alike : (cs : List (Option Certificate)) → IsAllowedHere cs → (others : List Line)
          → GoesOn (lines_by cs ++ others)
          ⊎ PartsAt BelowTaken front (lines_by cs ++ others)
      others-alike cs allowed others =
          by (models-alike sets_observer all k 0 refuses.plants_below refuses.lives_below refuses.offers_below parts.cs_below
          (omega (arith, few.few_models, below-all))
          (All-front (λ (p : Plant). p.outputs ≤ 6) refuses.plants_below (plant ∷ refuses.plants_above)
          (subst (All (λ (p : Plant). p.outputs ≤ 6)) refuses.plants_are few.few_outputs))
          (All-front (λ (p : Plant). 1 ≤ p.states) refuses.plants_below (plant ∷ refuses.plants_above)
          (subst (All (λ (p : Plant). 1 ≤ p.states)) refuses.plants_are few.some_state))
          refuses.justified_below parts.below_allowed)
        where
          parts : AllowedParts sets_observer all k plant refuses.plants_below refuses.lives_below cs
          parts = allowed-parts sets_observer all k plant refuses.plants_above refuses.lives_above
              refuses.plants_below refuses.lives_below cs refuses.as_many_lives
              (sym (ap (λ qs. all_allowed any_justified sets_observer qs lives cs all k) refuses.plants_are
              ∙ ap (λ ls. all_allowed any_justified sets_observer (refuses.plants_below ++ plant ∷ refuses.plants_above) ls cs all k)
              refuses.lives_are) ∙ allowed)

          many : length parts.cs_below ≡ length refuses.plants_below
          many = (length-allowed sets_observer all k refuses.plants_below refuses.lives_below parts.cs_below parts.below_allowed).1

          as-parts : lines_by cs ≡ lines_by (parts.cs_below ++ parts.certificate ∷ parts.cs_above)
          as-parts = ap (λ cs. lines_by cs) parts.are

          by : ModelsAlike sets_observer all k 0 refuses.plants_below refuses.lives_below refuses.offers_below parts.cs_below
              → GoesOn (lines_by cs ++ others)
              ⊎ PartsAt BelowTaken front (lines_by cs ++ others)
          by (inl same) =
              let lines = lines-placed parts.cs_below many parts.certificate parts.cs_above (sym (refuses.before_are ∙ same.0)) in
              inl (record {
                certificate = parts.certificate;
                allowed = parts.allowed;
                tail = lines.0 ++ others;
                are = ap (λ ls. ls ++ others) (as-parts ∙ lines.1) ∙ grouped front (outcome parts.certificate) lines.0 others;
              })
            where
              grouped : (a b e f : List Line) → (a ++ (b ++ e)) ++ f ≡ a ++ (b ++ (e ++ f))
              grouped a b e f = simp append_assoc
          by (inr p) =
              let lines = lines-by parts.cs_below many parts.certificate parts.cs_above in
              let preds = pred_lines refusal.model refusal.predicted in
              let below = lines_below parts.cs_below in
              let behind = preds ++ (outcome parts.certificate ++ lines.0) in
              inr (parts-like (ap (λ rs. sample k ∷ (flat_map model_lines rs ++ preds)) refuses.before_are)
              (ap (λ ls. ls ++ others) (as-parts ∙ lines.1) ∙ ap (λ ls. sample k ∷ ls) (append_assoc below behind others))
              (parts-behind (sample k ∷ []) (λ ts t. t) (parts-before preds (behind ++ others) p)))

      -- ---- where the bytes depart

      module _ (ranges : list_all is_in_range (refused_lines k refusal) ≡ true) (more : List Sample) (is_whole : Bool) where
        abbrev due : Option Certificate
        due = certificate_at sets_observer plant all k

        due-lines : (tail : List Line) × (lines_by due_offers ≡ front ++ (outcome due ++ tail))
        due-lines = lines-placed refuses.offers_below many-offers due (certificates_at sets_observer refuses.plants_above all k)
            (sym refuses.before_are)

        -- line j of these does not stand behind those before it
        pub refused_lines-depart : TakesEnough (length (refused_lines k refusal)) ts rest → (j : ℕ) (d : Line) (v : List ℕ)
            → j < length (refused_lines k refusal) → left ≡ lines_text (take j (refused_lines k refusal)) ++ v → ((r : List ℕ) → v ≢ put_text (get_or (refused_lines k refusal) j d) ++ r)
            → DepartsAt (watch names ps (all ++ more) is_whole) (length (lines_so_far names ps taken c) + j + 1) bytes
        refused_lines-depart enough j d v l e differs =
            begin-departs names ps taken c bytes left replayed s more is_whole few due_offers due_offers-allowed front
            (outcome due ++ due-lines.0) due-lines.1 ranges ts rest
            takes.short takes.are enough below-taken alike j d v l e differs
          where
            below-taken : BelowTaken ts
            below-taken = offers-front sets_observer all k plant refuses.plants_above refuses.lives_above refusal.offered refuses.offers_above
                0 refuses.plants_below refuses.lives_below refuses.offers_below (drop 1 ts) refuses.as_many_lives many-offers offers-are

            alike : (cs : List (Option Certificate)) → IsAllowedHere cs → (others : List Line)
                → BeginsOrParts BelowTaken front (lines_by cs ++ others)
            alike cs allowed others = by (others-alike cs allowed others)
              where
                by : GoesOn (lines_by cs ++ others) ⊎ PartsAt BelowTaken front (lines_by cs ++ others)
                    → BeginsOrParts BelowTaken front (lines_by cs ++ others)
                by (inl goes) = inl (outcome goes.certificate ++ goes.tail, goes.are)
                by (inr p) = inr p

        -- the bytes have these lines, and go on by the outcome of no certificate that is justified
        offer-alone : (v : List ℕ) → left ≡ lines_text front ++ v → TakesEnough (length front + 1) ts rest → (cs : List (Option Certificate))
            → IsAllowedHere cs → (others : List Line) (l' : Line) (b' : List Line)
            → lines_by cs ++ others ≡ front ++ l' ∷ b' → (r : List ℕ) → v ≢ put_text l' ++ r
        offer-alone v e enough cs allowed others l' b' is r goes = by (others-alike cs allowed others)
          where
            by : GoesOn (lines_by cs ++ others) ⊎ PartsAt BelowTaken front (lines_by cs ++ others) → ⊥
            by (inr p) = parted-no-front p [] (l' ∷ b') (append-nil (lines_by cs ++ others) ∙ is)
            by (inl on) =
                let cert = on.certificate in
                let answer = answer_at sets_observer all k plant cert in
                let first = outcome-begins refusal.model cert answer.hulls answer.is_widened
                (some-hull sets_observer all k plant some-state cert) in
                let behind = append_cancel_left front (first.0 ∷ (first.1 ++ on.tail)) (l' ∷ b')
                (sym (on.are ∙ ap (λ ls. front ++ (ls ++ on.tail)) first.2) ∙ is) in
                let same : first.0 ≡ l' = cc in
                let read : refusal.offered ≡ cert =
                offer-read refusal.model few-models cert (allowed-fits sets_observer all k plant cert few-outputs on.allowed) l'
                (subst (IsOutcome refusal.model cert) same first.3) r refusal.offered
                front ts rest v ranges takes.short (sym takes.are ∙ e) offer-behind enough goes in
                let justified = ap (allows_at any_justified sets_observer plant all k) read ∙ on.allowed in
                absurd (cc (sym justified ∙ refuses.not_justified))

        -- so they depart there
        pub refused-departs : (v : List ℕ) → left ≡ lines_text (refused_lines k refusal) ++ v → TakesEnough
            (length (refused_lines k refusal) + 1) ts rest
            → DepartsAt (watch names ps (all ++ more) is_whole) (length (lines_so_far names ps taken c) + length (refused_lines k refusal) + 1) bytes
        refused-departs v e enough =
            let answer = answer_at sets_observer all k plant due in
            let first = outcome-begins refusal.model due answer.hulls answer.is_widened (some-hull sets_observer all k plant some-state due) in
            line-departs names ps taken c bytes left replayed s more is_whole few due_offers due_offers-allowed front first.0
            (first.1 ++ due-lines.0) v
            (due-lines.1 ∙ ap (λ ls. front ++ (ls ++ due-lines.0)) first.2) e (offer-alone v e enough)
