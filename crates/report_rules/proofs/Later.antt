-- Later samples change nothing of what is said of earlier ones.
use Rattle.std.proofs.Common.{◌≡◌, ℕ, zero, suc, ◌+◌, ◌<◌, ◌≤◌, Bool, List, [], ◌++◌, length, Option, refl, sym, ap, ◌∙◌, arith, append_assoc, append-nil}
use Rattle.farkas_check.specs.Certificate.{Certificate}
use Rattle.plant_model.specs.Plant.{Plant, Sample}
use Rattle.observer_step.specs.Answers.{Observer, Rule}
use Rattle.observer_step.specs.SetsAnswers.{sets_observer}
use Rattle.model_bank.specs.Answers.{live_after, all_allowed, sample_answer}
use Rattle.model_bank.proofs.Later.{allowed-same, sample_answer-same as answer-same}
use Rattle.report_text.specs.Line.{Line}
use Rattle.report_rules.specs.Lines.{sample_lines}
use Rattle.report_rules.specs.Report.{Choice, lives_before, samples_lines}

module _ (samples more : List Sample) where
  abbrev all : List Sample
  all = samples ++ more

  pub all_allowed-same : (rule : Rule) (ps : List Plant) (lives : List Bool) (cs : List (Option Certificate)) (k : ℕ) → k < length samples
      → all_allowed rule sets_observer ps lives cs all k ≡ all_allowed rule sets_observer ps lives cs samples k
  all_allowed-same rule ps lives cs k h = allowed-same samples more k h rule ps lives cs

  -- what is said of a sample
  pub sample_answer-same : (ps : List Plant) (lives : List Bool) (cs : List (Option Certificate)) (k : ℕ) → k < length samples
      → sample_answer sets_observer ps lives cs all k ≡ sample_answer sets_observer ps lives cs samples k
  sample_answer-same ps lives cs k h = answer-same samples more k h ps lives cs

  -- the lines of the first samples, with any choice
  pub lines-same : (ps : List Plant) (c : Choice) (n : ℕ) → n ≤ length samples → samples_lines sets_observer ps all c n ≡ samples_lines sets_observer ps samples c n
  unfolding samples_lines
  lines-same ps c zero h = refl
  lines-same ps c (suc k) h =
      ap (λ ls. ls ++ sample_lines (sample_answer sets_observer ps (lives_before c (length ps) k) (c k) all k)) (lines-same ps c k (omega arith))
      ∙ ap (λ s. samples_lines sets_observer ps samples c k ++ sample_lines s) (sample_answer-same ps (lives_before c (length ps) k) (c k) k (omega arith))

-- the lines of the first n samples begin those of more, with any choice
pub samples_lines-begin : (o : Observer) (ps : List Plant) (samples : List Sample) (c : Choice) (n extra : ℕ)
    → (others : List Line) × (samples_lines o ps samples c (n + extra) ≡ samples_lines o ps samples c n ++ others)
unfolding samples_lines
samples_lines-begin o ps samples c n zero =
    let e : n + 0 ≡ n = omega arith in
    ([], ap (samples_lines o ps samples c) e ∙ sym (append-nil (samples_lines o ps samples c n)))
samples_lines-begin o ps samples c n (suc extra) =
    let before = samples_lines-begin o ps samples c n extra in
    let lines = sample_lines (sample_answer o ps (lives_before c (length ps) (n + extra)) (c (n + extra)) samples (n + extra)) in
    let e : n + suc extra ≡ suc (n + extra) = omega arith in (
      before.0 ++ lines,
      ap (samples_lines o ps samples c) e ∙ ap (λ ls. ls ++ lines) before.1 ∙ append_assoc (samples_lines o ps samples c n) before.0 lines,
    )

-- ---- choices that are the same before sample n

pub lives-alike : (c d : Choice) (m n : ℕ) → ((k : ℕ) → k < n → c k ≡ d k) → lives_before c m n ≡ lives_before d m n
unfolding lives_before
lives-alike c d m zero same = refl
lives-alike c d m (suc n) same =
    ap (λ lives. live_after lives (c n)) (lives-alike c d m n (λ k l. same k (omega arith))) ∙ ap (live_after (lives_before d m n)) (same n (omega arith))

pub lines-alike : (ps : List Plant) (samples : List Sample) (c d : Choice) (n : ℕ) → ((k : ℕ) → k < n → c k ≡ d k) → samples_lines sets_observer ps samples c n ≡ samples_lines sets_observer ps samples d n
unfolding samples_lines
lines-alike ps samples c d zero same = refl
lines-alike ps samples c d (suc n) same =
    let before : (k : ℕ) → k < n → c k ≡ d k = λ k l. same k (omega arith) in
    ap (λ ls. ls ++ sample_lines (sample_answer sets_observer ps (lives_before c (length ps) n) (c n) samples n)) (lines-alike ps samples c d n before)
    ∙ ap (λ lives. samples_lines sets_observer ps samples d n ++ sample_lines (sample_answer sets_observer ps lives (c n) samples n)) (lives-alike c d (length ps) n before)
    ∙ ap (λ cs. samples_lines sets_observer ps samples d n ++ sample_lines (sample_answer sets_observer ps (lives_before d (length ps) n) cs samples n)) (same n (omega arith))
