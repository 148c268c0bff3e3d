-- A choice that a rule allows goes on: with one sample more, with the certificates that are due, and it is one for fewer samples.
use Rattle.std.proofs.Common.{◌≡◌, ◌⊎◌, inl, inr, ℕ, suc, ◌<◌, ◌≤◌, ◌==◌, nat_lt, Bool, true, false, List, [], ◌∷◌, ◌++◌, length, map, Option, if◌then◌else◌, refl, sym, ap, ◌∙◌, arith, length-append}
use Rattle.std.proofs.lemmas.Bool.Decides.{nat_tests}
use Rattle.std.proofs.Math.Nat.{eq-or-lt_of_le}
use Rattle.std.proofs.lemmas.List.{length-map}
use Rattle.farkas_check.specs.Certificate.{Certificate}
use Rattle.plant_model.specs.Plant.{Plant, Sample}
use Rattle.observer_step.specs.Answers.{Rule}
use Rattle.observer_step.specs.SetsAnswers.{sets_observer}
use Rattle.model_bank.specs.Answers.{live_after, certificates_at, all_allowed, sample_answer}
use Rattle.model_bank.proofs.Allowed.{allowed-many, dues-allowed}
use Rattle.report_text.specs.Line.{Line}
use Rattle.report_rules.specs.Lines.{sample_lines}
use Rattle.report_rules.specs.Report.{Choice, lives_before, samples_lines}
use Rattle.report_rules.specs.Replay.{chosen_at}
use Rattle.report_rules.proofs.Chosen.{length-lives_before}
use Rattle.report_rules.proofs.Later.{all_allowed-same, lines-same, samples_lines-begin, lives-alike, lines-alike}

-- ---- a choice that is changed at one sample

test-other : (j k : ℕ) → j < k → (j == k) ≡ false
test-other j k l = grind (arith, nat_tests)

test-here : (k : ℕ) → (k == k) ≡ true
test-here k = grind (arith, nat_tests)

chosen-before : (k : ℕ) (cs : List (Option Certificate)) (c : Choice) (j : ℕ) → j < k → chosen_at k cs c j ≡ c j
chosen-before k cs c j l = ap (λ b. if b then cs else c j) (test-other j k l)

chosen-here : (k : ℕ) (cs : List (Option Certificate)) (c : Choice) → chosen_at k cs c k ≡ cs
chosen-here k cs c = ap (λ b. if b then cs else c k) (test-here k)

module _ (ps : List Plant) (taken : List Sample) (c : Choice) where
  abbrev k : ℕ
  k = length taken

  abbrev m : ℕ
  m = length ps

  -- ---- one sample more

  module _ (s : Sample) (os : List (Option Certificate)) where
    abbrev all : List Sample
    all = taken ++ s ∷ []

    abbrev longer : Choice
    longer = chosen_at k os c

    one-more : length all ≡ suc k
    one-more = omega (arith, length-append taken (s ∷ []))

    lives-longer : (j : ℕ) → j ≤ k → lives_before longer m j ≡ lives_before c m j
    lives-longer j l = lives-alike longer c m j (λ i h. chosen-before k os c i (omega arith))

    -- which models are live then
    pub longer-lives : lives_before longer m (length all) ≡ live_after (lives_before c m k) os
    unfolding lives_before
    longer-lives =
        ap (lives_before longer m) one-more ∙ ap (λ ls. live_after ls (longer k)) (lives-longer k (omega arith)) ∙ ap (live_after (lives_before c m k))
        (chosen-here k os c)

    -- the lines of the sample stand behind the others
    pub longer-lines : samples_lines sets_observer ps all longer (length all)
        ≡ samples_lines sets_observer ps taken c k ++ sample_lines (sample_answer sets_observer ps (lives_before c m k) os all k)
    unfolding samples_lines
    longer-lines =
        ap (samples_lines sets_observer ps all longer) one-more
        ∙ ap (λ ls. ls ++ sample_lines (sample_answer sets_observer ps (lives_before longer m k) (longer k) all k))
        (lines-same taken (s ∷ []) ps longer k (omega arith) ∙ lines-alike ps taken longer c k (λ i h. chosen-before k os c i h))
        ∙ ap (λ ls. samples_lines sets_observer ps taken c k ++ sample_lines (sample_answer sets_observer ps ls (longer k) all k))
        (lives-longer k (omega arith))
        ∙ ap (λ cs. samples_lines sets_observer ps taken c k ++ sample_lines (sample_answer sets_observer ps (lives_before c m k) cs all k))
        (chosen-here k os c)

  module _ (rule : Rule) (allowed : (j : ℕ) → j < k → all_allowed rule sets_observer ps (lives_before c m j) (c j) taken j ≡ true) where
    -- the rule allows it then
    module _ (s : Sample) (os : List (Option Certificate)) (here : all_allowed rule sets_observer ps (lives_before c m k) os (taken ++ s ∷ []) k ≡ true) where
      abbrev next : Choice
      next = chosen_at k os c

      allowed-before : (j : ℕ) → j < k → all_allowed rule sets_observer ps (lives_before next m j) (next j) (taken ++ s ∷ []) j ≡ true
      allowed-before j l =
          ap (λ ls. all_allowed rule sets_observer ps ls (next j) (taken ++ s ∷ []) j) (lives-longer s os j (omega arith))
          ∙ ap (λ cs. all_allowed rule sets_observer ps (lives_before c m j) cs (taken ++ s ∷ []) j) (chosen-before k os c j l)
          ∙ all_allowed-same taken (s ∷ []) rule ps (lives_before c m j) (c j) j l
          ∙ allowed j l

      allowed-here : (j : ℕ) → j ≡ k → all_allowed rule sets_observer ps (lives_before next m j) (next j) (taken ++ s ∷ []) j ≡ true
      allowed-here j e =
          ap (λ j. all_allowed rule sets_observer ps (lives_before next m j) (next j) (taken ++ s ∷ []) j) e
          ∙ ap (λ ls. all_allowed rule sets_observer ps ls (next k) (taken ++ s ∷ []) k) (lives-longer s os k (omega arith))
          ∙ ap (λ cs. all_allowed rule sets_observer ps (lives_before c m k) cs (taken ++ s ∷ []) k) (chosen-here k os c)
          ∙ here

      pub longer-allowed : (j : ℕ) → j < length (taken ++ s ∷ [])
          → all_allowed rule sets_observer ps (lives_before (chosen_at (length taken) os c) (length ps) j) (chosen_at (length taken) os c j) (taken ++ s ∷ []) j ≡ true
      longer-allowed j l = by (eq-or-lt_of_le (omega (arith, l, one-more s os)))
        where
          by : (j ≡ k) ⊎ (j < k) → all_allowed rule sets_observer ps (lives_before next m j) (next j) (taken ++ s ∷ []) j ≡ true
          by (inl here) = allowed-here j here
          by (inr before) = allowed-before j before

-- ---- a choice for the first n samples goes on with the certificates that are due

abbrev pub extended : List Plant → List Sample → Choice → ℕ → Choice
extended ps samples c n j = if nat_lt j n then c j else certificates_at sets_observer ps samples j

module _ (rule : Rule) (ps : List Plant) (samples : List Sample) (c : Choice) (n : ℕ)
    (allowed : (j : ℕ) → j < n → all_allowed rule sets_observer ps (lives_before c (length ps) j) (c j) samples j ≡ true) where
  abbrev due_then : Choice
  due_then = extended ps samples c n

  before-n : (j : ℕ) → j < n → due_then j ≡ c j
  before-n j l = ap (λ b. if b then c j else certificates_at sets_observer ps samples j) within
    where
      within : nat_lt j n ≡ true
      within = grind (arith, nat_tests)

  lives-before_n : (j : ℕ) → j ≤ n → lives_before due_then (length ps) j ≡ lives_before c (length ps) j
  lives-before_n j l = lives-alike due_then c (length ps) j (λ i h. before-n i (omega (arith, l, h)))

  pub extended-lines : samples_lines sets_observer ps samples (extended ps samples c n) n ≡ samples_lines sets_observer ps samples c n
  extended-lines = lines-alike ps samples due_then c n before-n

  abbrev every : List Bool
  every = map (λ p. true) ps

  -- something is said of each model
  many-said : (j : ℕ) → length (due_then j) ≡ length ps
  many-said j = by (nat_lt j n) refl
    where
      by : (b : Bool) → nat_lt j n ≡ b → length (if b then c j else certificates_at sets_observer ps samples j) ≡ length ps
      by true h = (allowed-many rule sets_observer ps (lives_before c (length ps) j) (c j) samples j (allowed j (grind (arith, nat_tests)))).1
      by false h = (allowed-many rule sets_observer ps every (certificates_at sets_observer ps samples j) samples j
          (dues-allowed rule ps every samples j (length-map ps (λ p. true)))).1

  pub extended-allowed : (j : ℕ) → all_allowed rule sets_observer ps (lives_before (extended ps samples c n) (length ps) j)
      (extended ps samples c n j) samples j ≡ true
  extended-allowed j = by (nat_lt j n) refl
    where
      by : (b : Bool) → nat_lt j n ≡ b
          → all_allowed rule sets_observer ps (lives_before due_then (length ps) j)
          (if b then c j else certificates_at sets_observer ps samples j) samples j ≡ true
      by true h =
          let within : j < n = grind (arith, nat_tests) in
          ap (λ lives. all_allowed rule sets_observer ps lives (c j) samples j) (lives-before_n j (omega (arith, within)))
          ∙ allowed j within
      by false h =
          dues-allowed rule ps (lives_before due_then (length ps) j) samples j (length-lives_before due_then (length ps) j (λ i l. many-said i))

-- ---- a choice for more samples is one for fewer

module _ (rule : Rule) (ps : List Plant) (first more : List Sample) (c : Choice) where
  pub allowed-first : ((j : ℕ) → j < length (first ++ more) → all_allowed rule sets_observer ps (lives_before c (length ps) j) (c j) (first ++ more) j ≡ true)
      → (j : ℕ) → j < length first → all_allowed rule sets_observer ps (lives_before c (length ps) j) (c j) first j ≡ true
  allowed-first allowed j l =
      sym (all_allowed-same first more rule ps (lives_before c (length ps) j) (c j) j l) ∙ allowed j (omega (arith, l, length-append first more))

-- its lines begin those of all
pub lines-first : (ps : List Plant) (first more : List Sample) (c : Choice)
    → (tail : List Line) × (samples_lines sets_observer ps (first ++ more) c (length (first ++ more)) ≡ samples_lines sets_observer ps first c (length first) ++ tail)
lines-first ps first more c =
    let rest = samples_lines-begin sets_observer ps (first ++ more) c (length first) (length more) in (
      rest.0,
      ap (samples_lines sets_observer ps (first ++ more) c) (length-append first more) ∙ rest.1
          ∙ ap (λ ls. ls ++ rest.0) (lines-same first more ps c (length first) (omega arith)),
    )
