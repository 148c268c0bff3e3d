-- What is allowed of the models of a bank, and how many they are.
use Rattle.std.proofs.Common.{◌≡◌, ℕ, Bool, true, false, not, ◌&&◌, ◌||◌, List, [], ◌∷◌, ◌++◌, length, Option, refl, sym, ap, ◌∙◌, arith}
use Rattle.std.proofs.lemmas.List.{length-map}
use Rattle.farkas_check.specs.Certificate.{Certificate}
use Rattle.plant_model.specs.Plant.{Plant, Sample}
use Rattle.observer_step.specs.Answers.{Observer, Rule, any_justified, certificate_at, allows_at}
use Rattle.observer_step.specs.SetsAnswers.{sets_observer}
use Rattle.observer_step.proofs.Later.{certificate-allowed}
use Rattle.model_bank.specs.Answers.{live_after, certificates_at, all_allowed}
use Rattle.model_bank.specs.Bank.{Member, Bank, BankStands}
use Rattle.model_bank.specs.Stepping.{Refusal, RefusesOffer}

-- ---- how many

pub members-many : (plants : List Plant) (samples : List Sample) (lives : List Bool) (b : Bank) → BankStands plants samples lives b → length b.members ≡ length plants
members-many plants samples lives b stands = sym (length-map b.members (λ (m : Member). m.plant)) ∙ ap length stands.plants_are

pub lives-many : (plants : List Plant) (samples : List Sample) (lives : List Bool) (b : Bank) → BankStands plants samples lives b → length lives ≡ length plants
lives-many plants samples lives b stands =
    ap length (sym stands.lives_are) ∙ length-map b.members (λ (m : Member). m.live) ∙ members-many plants samples lives b stands

pub certificates-many : (o : Observer) (ps : List Plant) (samples : List Sample) (k : ℕ) → length (certificates_at o ps samples k) ≡ length ps
certificates-many o ps samples k = length-map ps (λ p. certificate_at o p samples k)

pub lives_after-many : (lives : List Bool) (cs : List (Option Certificate)) → length cs ≡ length lives → length (live_after lives cs) ≡ length lives
lives_after-many [] cs e = refl
lives_after-many (live ∷ lives) [] e = absurd cc
lives_after-many (live ∷ lives) (c ∷ cs) e = let others = lives_after-many lives cs (omega arith) in omega arith

-- something is said of each model
pub allowed-many : (rule : Rule) (o : Observer) (ps : List Plant) (lives : List Bool) (cs : List (Option Certificate)) (samples : List Sample) (k : ℕ) → all_allowed rule o ps lives cs samples k ≡ true
    → (length lives ≡ length ps) × (length cs ≡ length ps)
allowed-many rule o [] [] [] samples k h = (refl, refl)
allowed-many rule o [] [] (c ∷ cs) samples k h = absurd cc
allowed-many rule o [] (live ∷ lives) cs samples k h = absurd cc
allowed-many rule o (p ∷ ps) [] cs samples k h = absurd cc
allowed-many rule o (p ∷ ps) (live ∷ lives) [] samples k h = absurd cc
allowed-many rule o (p ∷ ps) (live ∷ lives) (c ∷ cs) samples k h =
    let others = allowed-many rule o ps lives cs samples k (by (not live || allows_at rule o p samples k c) h) in (omega (arith, others.0), omega (arith, others.1))
  where
    by : (b : Bool) → b && all_allowed rule o ps lives cs samples k ≡ true → all_allowed rule o ps lives cs samples k ≡ true
    by true h = h
    by false h = absurd cc

-- ---- what is given is allowed

pub dues-allowed : (rule : Rule) (ps : List Plant) (lives : List Bool) (samples : List Sample) (k : ℕ) → length lives ≡ length ps
    → all_allowed rule sets_observer ps lives (certificates_at sets_observer ps samples k) samples k ≡ true
dues-allowed rule [] [] samples k e = refl
dues-allowed rule [] (live ∷ lives) samples k e = absurd cc
dues-allowed rule (p ∷ ps) [] samples k e = absurd cc
dues-allowed rule (p ∷ ps) (live ∷ lives) samples k e =
    ap (λ b. (not live || b) && all_allowed rule sets_observer ps lives (certificates_at sets_observer ps samples k) samples k) (certificate-allowed rule p samples k)
    ∙ ap (λ b. b && all_allowed rule sets_observer ps lives (certificates_at sets_observer ps samples k) samples k) (by live)
    ∙ dues-allowed rule ps lives samples k (omega arith)
  where
    by : (b : Bool) → (not b || true) ≡ true
    by true = refl
    by false = refl

-- ---- what is refused is not allowed

module _ (o : Observer) (samples : List Sample) (k : ℕ) (p : Plant) (ps : List Plant) (lives : List Bool) (c : Option Certificate) (cs : List (Option Certificate))
    (refused : allows_at any_justified o p samples k c ≡ false) where
  one-fails : (below : List Plant) (lives_below : List Bool) (cs_below : List (Option Certificate)) → all_allowed any_justified o below lives_below cs_below samples k ≡ true
      → all_allowed any_justified o (below ++ p ∷ ps) (lives_below ++ true ∷ lives) (cs_below ++ c ∷ cs) samples k ≡ false
  one-fails [] [] [] h = ap (λ b. b && all_allowed any_justified o ps lives cs samples k) refused
  one-fails [] [] (d ∷ ds) h = absurd cc
  one-fails [] (l ∷ ls) ds h = absurd cc
  one-fails (q ∷ qs) [] ds h = absurd cc
  one-fails (q ∷ qs) (l ∷ ls) [] h = absurd cc
  one-fails (q ∷ qs) (l ∷ ls) (d ∷ ds) h = by (not l || allows_at any_justified o q samples k d) (one-fails qs ls ds) h
    where
      by : (b : Bool) → (all_allowed any_justified o qs ls ds samples k ≡ true → all_allowed any_justified o (qs ++ p ∷ ps) (ls ++ true ∷ lives) (ds ++ c ∷ cs) samples k ≡ false)
          → b && all_allowed any_justified o qs ls ds samples k ≡ true → b && all_allowed any_justified o (qs ++ p ∷ ps) (ls ++ true ∷ lives) (ds ++ c ∷ cs) samples k ≡ false
      by true more h = more h
      by false more h = refl

-- where a model refuses its offer, the offers are not all allowed
pub refused-not_allowed : (s : Sample) (offers : List (Option Certificate)) (plants : List Plant) (samples : List Sample) (lives : List Bool) (refusal : Refusal) → RefusesOffer s offers plants samples lives refusal
    → all_allowed any_justified sets_observer plants lives offers (samples ++ s ∷ []) (length samples) ≡ false
refused-not_allowed s offers plants samples lives refusal r =
    (λ i. all_allowed any_justified sets_observer (r.plants_are i) (r.lives_are i) (r.offers_are i) (samples ++ s ∷ []) (length samples))
    ∙ one-fails sets_observer (samples ++ s ∷ []) (length samples) r.plant r.plants_above r.lives_above refusal.offered r.offers_above r.not_justified r.plants_below r.lives_below r.offers_below r.justified_below
