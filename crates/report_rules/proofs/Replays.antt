-- What is known in the middle of a check goes on from sample to sample, and where the bytes depart in a sample.
use Rattle.std.proofs.Common.{◌≡◌, ◌≢◌, inl, inr, ℕ, suc, ◌+◌, ◌<◌, Bool, true, List, [], ◌∷◌, ◌++◌, length, get_or, take, drop, Option, refl, sym, ap, ◌∙◌, arith, subst, append_assoc, length-append}
use Rattle.std.specs.List.{list_all}
use Rattle.std.proofs.lemmas.List.{append-nil, append_cancel_left, length-take-le}
use Rattle.farkas_check.specs.Certificate.{Certificate}
use Rattle.plant_model.specs.Plant.{Plant, Sample}
use Rattle.observer_step.specs.Answers.{any_justified}
use Rattle.observer_step.specs.SetsAnswers.{sets_observer}
use Rattle.model_bank.specs.Answers.{all_allowed, sample_answer}
use Rattle.report_text.specs.Line.{Line, put_text, lines_text}
use Rattle.report_text.specs.Ranges.{is_in_range}
use Rattle.report_rules.specs.Lines.{head_lines, sample_lines, last_lines}
use Rattle.report_rules.specs.Report.{Watch, Choice, lives_before, samples_lines}
use Rattle.report_rules.specs.Replay.{AreFew, watch, lines_so_far, Replayed, chosen_at, DepartsAt, with_feeds, is_short_line, OffersAre, Takes, TakesEnough}
use Rattle.report_rules.proofs.Later.{all_allowed-same, lines-same, samples_lines-begin, sample_answer-same}
use Rattle.report_rules.proofs.Parting.{BeginsOrParts, parts-like, parts-before, cut-at, next-line}
use Rattle.report_rules.proofs.Alike.{IsAllowedTo, lines-more, SampleAlike, sample-alike, front-alike}
use Rattle.report_rules.proofs.Longer.{longer-lines, longer-allowed, extended, extended-lines, extended-allowed}
use Rattle.report_rules.proofs.Departs.{IsJustified, report_of, lines_text-append, departs}

-- ---- the first sample

-- the lines of the head stand at the front
pub replayed-begin : (names : List (List ℕ)) (ps : List Plant) (bytes left : List ℕ) → bytes ≡ lines_text (head_lines names) ++ left → (c : Choice)
    → Replayed names ps [] c bytes left
unfolding samples_lines
replayed-begin names ps bytes left e c = record {
  allowed = λ k l. absurd (omega (arith, l));
  text = e ∙ ap (λ ls. lines_text ls ++ left) (sym (append-nil (head_lines names)));
}

-- ---- one sample more

module _ (names : List (List ℕ)) (ps : List Plant) (taken : List Sample) (c : Choice) (bytes left : List ℕ)
    (replayed : Replayed names ps taken c bytes left) (s : Sample) where
  abbrev k : ℕ
  k = length taken

  abbrev m : ℕ
  m = length ps

  abbrev lives : List Bool
  lives = lives_before c m k

  abbrev all : List Sample
  all = taken ++ s ∷ []

  one-more : length all ≡ suc k
  one-more = omega (arith, length-append taken (s ∷ []))

  -- the lines so far
  abbrev front : List Line
  front = lines_so_far names ps taken c

  module _ (os : List (Option Certificate)) where
    abbrev longer : Choice
    longer = chosen_at k os c

    module _ (allowed : all_allowed any_justified sets_observer ps lives os all k ≡ true) where
      allowed-then : (j : ℕ) → j < length all → all_allowed any_justified sets_observer ps (lives_before longer m j) (longer j) all j ≡ true
      allowed-then = longer-allowed ps taken c any_justified replayed.allowed s os allowed

      -- what is known goes on behind the sample's lines
      pub replayed-more : (left' : List ℕ) → left ≡ lines_text (sample_lines (sample_answer sets_observer ps lives os all k)) ++ left'
          → Replayed names ps all (chosen_at k os c) bytes left'
      replayed-more left' e =
          let lines = sample_lines (sample_answer sets_observer ps lives os all k) in
          record {
            allowed = allowed-then;
            text =
                replayed.text ∙ ap (λ t. lines_text front ++ t) e ∙ sym (append_assoc (lines_text front) (lines_text lines) left')
                ∙ ap (λ t. t ++ left') (sym (lines_text-append front lines))
                ∙ ap (λ ls. lines_text ls ++ left') (append_assoc (head_lines names) (samples_lines sets_observer ps taken c k) lines)
                ∙ ap (λ ls. lines_text (head_lines names ++ ls) ++ left') (sym (longer-lines ps taken c s os));
          }

  -- ---- the report of more samples

  -- the lines of the sample with some certificates, or none, by model
  abbrev lines_by : List (Option Certificate) → List Line
  lines_by cs = sample_lines (sample_answer sets_observer ps lives cs all k)

  -- these are justified
  abbrev IsAllowedHere : List (Option Certificate) → Type 0
  IsAllowedHere cs = all_allowed any_justified sets_observer ps lives cs all k ≡ true

  -- the lines of the first n samples
  abbrev first_lines : List Sample → Choice → ℕ → List Line
  first_lines samples d n = samples_lines sets_observer ps samples d n

  module _ (more : List Sample) where
    abbrev whole : List Sample
    whole = all ++ more

    -- the lines of some samples begin those of more
    lines-begin : (d : Choice) (n extra : ℕ) → (others : List Line) × (first_lines whole d (n + extra) ≡ first_lines whole d n ++ others)
    lines-begin d = samples_lines-begin sets_observer ps whole d

    split-whole : whole ≡ taken ++ s ∷ more
    split-whole = append_assoc taken (s ∷ []) more

    many-samples : length whole ≡ k + 1 + length more
    many-samples = omega (arith, length-append all more, one-more)

    module _ (is_whole : Bool) where
      abbrev w : Watch
      w = watch names ps whole is_whole

      abbrev last : List Line
      last = last_lines (length whole) is_whole

      -- ---- a justified report with certificates for the sample

      module _ (os : List (Option Certificate)) (allowed : IsAllowedHere os) where
        abbrev kept : Choice
        kept = extended ps whole (longer os) (length all)

        allowed-whole : IsAllowedTo sets_observer ps whole (longer os) (length all)
        allowed-whole j l = all_allowed-same all more any_justified ps (lives_before (longer os) m j) (longer os j) j l ∙ allowed-then os allowed j l

        kept-justified : IsJustified w kept
        kept-justified j l = extended-allowed any_justified ps whole (longer os) (length all) allowed-whole j

        kept-lines : first_lines whole kept (length all) ≡ first_lines taken c k ++ lines_by os
        kept-lines =
            extended-lines any_justified ps whole (longer os) (length all) allowed-whole
            ∙ lines-same all more ps (longer os) (length all) (omega arith) ∙ longer-lines ps taken c s os

        -- it has the lines so far, those of the sample, and others
        kept-report : (others : List Line) × (report_of w kept ≡ front ++ (lines_by os ++ others))
        kept-report =
            let rest = lines-begin kept (length all) (length more) in
            let head = head_lines names in
            let lines = first_lines taken c k in
            let many : length whole ≡ length all + length more = length-append all more in (
              rest.0 ++ last,
              ap (λ n. head ++ first_lines whole kept n ++ last) many
                  ∙ ap (λ ls. head ++ ls ++ last) (rest.1 ∙ ap (λ ls. ls ++ rest.0) kept-lines)
                  ∙ grouped head lines (lines_by os) rest.0 last,
            )
          where
            grouped : (a b e f g : List Line) → a ++ ((b ++ e) ++ f) ++ g ≡ (a ++ b) ++ (e ++ (f ++ g))
            grouped a b e f g = simp append_assoc

      -- ---- every justified report that has the lines so far

      module _ (few : AreFew ps) (c' : Choice) (justified : IsJustified w c') (x : List Line) (is : report_of w c' ≡ front ++ x) where
        abbrev others : List Line
        others = (lines-begin c' (k + 1) (length more)).0 ++ last

        abbrev lives' : List Bool
        lives' = lives_before c' m k

        -- its lines, by those of the first samples, of this one, and of the others
        split-lines : first_lines whole c' k ++ (sample_lines (sample_answer sets_observer ps lives' (c' k) whole k) ++ others)
            ≡ first_lines whole c k ++ x
        split-lines =
            let rest = lines-begin c' (k + 1) (length more) in
            let head = head_lines names in
            let lines = first_lines whole c' k in
            let here = sample_lines (sample_answer sets_observer ps lives' (c' k) whole k) in
            let next : k + 1 ≡ suc k = omega arith in
            let all-lines : first_lines whole c' (length whole) ≡ (lines ++ here) ++ rest.0 =
            ap (first_lines whole c') many-samples ∙ rest.1
            ∙ ap (λ ls. ls ++ rest.0) (ap (first_lines whole c') next ∙ lines-more sets_observer ps whole c' k) in
            let same : first_lines taken c k ≡ first_lines whole c k =
            sym (ap (λ t. first_lines t c k) split-whole ∙ lines-same taken (s ∷ more) ps c k (omega arith)) in
            append_cancel_left head (lines ++ (here ++ (rest.0 ++ last))) (first_lines whole c k ++ x)
            (sym (ap (λ ls. head ++ ls ++ last) all-lines ∙ grouped head lines here rest.0 last) ∙ is ∙ append_assoc head
            (first_lines taken c k) x ∙ ap (λ ls. head ++ (ls ++ x)) same)
          where
            grouped : (a b e f g : List Line) → a ++ ((b ++ e) ++ f) ++ g ≡ a ++ (b ++ (e ++ (f ++ g)))
            grouped a b e f g = simp append_assoc

        allowed-first : IsAllowedTo sets_observer ps whole c k
        allowed-first j l =
            ap (λ t. all_allowed any_justified sets_observer ps (lives_before c m j) (c j) t j) split-whole
            ∙ all_allowed-same taken (s ∷ more) any_justified ps (lives_before c m j) (c j) j l ∙ replayed.allowed j l

        -- the same lines come first, so the same models are live
        same-front : (first_lines whole c k ≡ first_lines whole c' k) × (lives ≡ lives')
        same-front =
            front-alike sets_observer ps whole few c c' k allowed-first (λ j l. justified j (omega (arith, l, many-samples)))
            (sample_lines (sample_answer sets_observer ps lives' (c' k) whole k) ++ others) x split-lines

        within-all : k < length all
        within-all = omega (arith, one-more)

        -- so it has a justified list of certificates for the sample, and its lines with them
        pub other-allowed : IsAllowedHere (c' k)
        other-allowed =
            sym (all_allowed-same all more any_justified ps lives (c' k) k within-all)
            ∙ ap (λ lives. all_allowed any_justified sets_observer ps lives (c' k) whole k) same-front.1
            ∙ justified k (omega (arith, many-samples))

        pub other-lines : (others : List Line) × (lines_by (c' k) ++ others ≡ x)
        other-lines =
            let lines = first_lines whole c k in
            let here = sample_lines (sample_answer sets_observer ps lives' (c' k) whole k) in
            let same : lines_by (c' k) ≡ here =
            ap sample_lines (sym (sample_answer-same all more ps lives (c' k) k within-all)
            ∙ ap (λ lives. sample_answer sets_observer ps lives (c' k) whole k) same-front.1) in (
              others,
              append_cancel_left lines (lines_by (c' k) ++ others) x
                  (ap (λ ls. lines ++ (ls ++ others)) same ∙ ap (λ ls. ls ++ (here ++ others)) same-front.0 ∙ split-lines),
            )

      -- ---- where the bytes depart

      module _ (few : AreFew ps) (os : List (Option Certificate)) (allowed : IsAllowedHere os) where
        -- justified certificates have these lines and go on with one; whatever justified ones do, the bytes do not go on by their line
        pub line-departs : (begin : List Line) (l : Line) (tail : List Line) (v : List ℕ)
            → lines_by os ≡ begin ++ l ∷ tail → left ≡ lines_text begin ++ v
            → ((cs : List (Option Certificate)) → IsAllowedHere cs → (others : List Line) (l' : Line) (b' : List Line)
            → lines_by cs ++ others ≡ begin ++ l' ∷ b' → (r : List ℕ) → v ≢ put_text l' ++ r)
            → DepartsAt (watch names ps (all ++ more) is_whole) (length front + length begin + 1) bytes
        line-departs begin l tail v is e differs =
            let report = kept-report os allowed in
            let at : report_of w (kept os allowed) ≡ (front ++ begin) ++ l ∷ (tail ++ report.0) =
            report.1 ∙ ap (λ ls. front ++ (ls ++ report.0)) is ∙ grouped front begin (l ∷ tail) report.0 in
            let text : bytes ≡ lines_text (front ++ begin) ++ v =
            replayed.text ∙ ap (λ t. lines_text front ++ t) e ∙ sym (append_assoc (lines_text front) (lines_text begin) v)
            ∙ ap (λ t. t ++ v) (sym (lines_text-append front begin)) in
            let many : length (front ++ begin) + 1 ≡ length front + length begin + 1 = omega (arith, length-append front begin) in
            subst (λ n. DepartsAt w n bytes) many
            (departs w few (kept os allowed) (kept-justified os allowed) (front ++ begin) l (tail ++ report.0) bytes v at text
            (λ c' justified l' b' is' r goes.
            let there : report_of w c' ≡ front ++ (begin ++ l' ∷ b') = is' ∙ append_assoc front begin (l' ∷ b') in
            let lines = other-lines few c' justified (begin ++ l' ∷ b') there in
            differs (c' k) (other-allowed few c' justified (begin ++ l' ∷ b') there) lines.0 l' b' lines.1 r goes))
          where
            grouped : (a b e f : List Line) → a ++ ((b ++ e) ++ f) ≡ (a ++ b) ++ (e ++ f)
            grouped a b e f = simp append_assoc

        module _ (begin tail : List Line) (is : lines_by os ≡ begin ++ tail) (ranges : list_all is_in_range begin ≡ true)
            (ts : List (List ℕ)) (rest : List ℕ) (short : list_all is_short_line ts ≡ true) (are : left ≡ with_feeds ts ++ rest)
            (enough : TakesEnough (length begin) ts rest) where
          -- lines that begin those of the sample, from which those of others part at an offer that was taken, and line j does not
          -- stand behind those before it
          pub begin-departs : {A : List (List ℕ) → Type 0} → A ts
              → ((cs : List (Option Certificate)) → IsAllowedHere cs → (others : List Line)
              → BeginsOrParts A begin (lines_by cs ++ others))
              → (j : ℕ) (d : Line) (v : List ℕ) → j < length begin → left ≡ lines_text (take j begin) ++ v
              → ((r : List ℕ) → v ≢ put_text (get_or begin j d) ++ r)
              → DepartsAt (watch names ps (all ++ more) is_whole) (length front + j + 1) bytes
          begin-departs was-taken parts j d v l e differs =
              let lines : lines_by os ≡ take j begin ++ get_or begin j d ∷ (drop (suc j) begin ++ tail) =
              is ∙ ap (λ t. t ++ tail) (cut-at begin j d l) ∙ append_assoc (take j begin) (get_or begin j d ∷ drop (suc j) begin) tail in
              subst (λ n. DepartsAt w (length front + n + 1) bytes) (length-take-le j begin (omega (arith, l)))
              (line-departs (take j begin) (get_or begin j d) (drop (suc j) begin ++ tail) v lines e (λ cs allowed' others l' b' is' r goes.
              let same = next-line begin left ts rest ranges short are enough was-taken (lines_by cs ++ others)
              (parts cs allowed' others) j d l v e l' b' is' r goes in
              differs r (goes ∙ ap (λ l. put_text l ++ r) (sym same))))

        -- the lines of the sample with the offers, which are justified, and line j does not stand behind those before it
        pub sample-departs : list_all is_in_range (lines_by os) ≡ true → (ts : List (List ℕ)) (rest : List ℕ)
            → Takes ps lives left ts rest os → TakesEnough (length (lines_by os)) ts rest
            → (j : ℕ) (d : Line) (v : List ℕ) → j < length (lines_by os)
            → left ≡ lines_text (take j (lines_by os)) ++ v
            → ((r : List ℕ) → v ≢ put_text (get_or (lines_by os) j d) ++ r)
            → DepartsAt (watch names ps (all ++ more) is_whole) (length front + j + 1) bytes
        sample-departs ranges ts rest takes enough j d v l e differs =
            begin-departs (lines_by os) []
            (sym (append-nil (lines_by os))) ranges ts rest takes.short takes.are enough takes.offers alike j d v l e differs
          where
            alike : (cs : List (Option Certificate)) → IsAllowedHere cs → (others : List Line)
                → BeginsOrParts (λ ts. OffersAre 0 ps lives (drop 1 ts) os) (lines_by os) (lines_by cs ++ others)
            alike cs allowed' others = by (sample-alike sets_observer all k ps lives os cs few allowed allowed')
              where
                by : SampleAlike sets_observer all k ps lives os cs → BeginsOrParts (λ ts. OffersAre 0 ps lives (drop 1 ts) os)
                    (lines_by os) (lines_by cs ++ others)
                by (inl same) = inl (others, ap (λ ls. ls ++ others) (sym same.0))
                by (inr parts) = inr (parts-like (sym (append-nil (lines_by os))) refl (parts-before [] others parts))
