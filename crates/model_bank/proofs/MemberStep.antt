-- What a sample makes of a member that stands for the samples before is what the definitions say of all samples.
use Rattle.std.proofs.Common.{◌≡◌, ℕ, zero, suc, ◌-◌, ◌<◌, ◌≤◌, ℤ, List, [], ◌∷◌, ◌++◌, length, Option, Some, None, is_none, if◌then◌else◌, Bool, true, false, not, refl, sym, ap, ◌∙◌, arith, eqb}
use Rattle.std.proofs.lemmas.List.{get_or_append_left, get_or_at, length_push}
use Rattle.std.proofs.lemmas.Bool.Decides.{nat_tests}
use Rattle.plant_model.specs.Plant.{Plant, Sample, no_sample, sample_at}
use Rattle.farkas_check.specs.Certificate.{Certificate}
use Rattle.observer_step.specs.Predicted.{predicted_outs, due}
use Rattle.observer_step.specs.Offers.{offers_output}
use Rattle.observer_step.specs.Sets.{predict_sets, correct_sets, correct_sets_if, predicted_sets, corrected_sets, sets_widened, either_leaves}
use Rattle.observer_step.specs.Answers.{answer_with, due_at, Rule, allows_at}
use Rattle.observer_step.specs.SetsAnswers.{sets_observer, is_allowed_of_sets}
use Rattle.observer_step.proofs.SetsHold.{later-sets, sets-first}
use Rattle.model_bank.specs.Bank.{Member, sets_after, MemberStands}
use Rattle.model_bank.specs.Steps.{sets_ahead, widens, answer_on, answer_of, sets_on, ahead_of, allowed_of, judged_on, member_after}

-- the sample after some samples, and those before
sample-last : (samples : List Sample) (s : Sample) → sample_at (samples ++ s ∷ []) (length samples) ≡ s
sample-last samples s = get_or_at samples s [] no_sample (length samples) refl

sample-before : (samples : List Sample) (s : Sample) (k : ℕ) → k < length samples → sample_at (samples ++ s ∷ []) k ≡ sample_at samples k
sample-before samples s k l = get_or_append_left samples (s ∷ []) no_sample k l

sets-before : (p : Plant) (samples : List Sample) (s : Sample) (k : ℕ) → k ≤ length samples → predicted_sets p (samples ++ s ∷ []) k ≡ predicted_sets p samples k
sets-before p samples s k l = later-sets p samples (s ∷ []) k l

predicted-suc : (p : Plant) (samples : List Sample) (k : ℕ) → predicted_sets p samples (suc k) ≡ predict_sets p (sample_at samples k).inputs (corrected_sets p samples k)
unfolding predicted_sets
predicted-suc p samples k = refl

suc-not_zero : (k : ℕ) → eqb (suc k) 0 ≡ false
suc-not_zero k = grind (arith, nat_tests)

-- what a bank knows of the samples before: whether there are none, and the inputs of the last
pub record Knows (samples : List Sample) (is_first : Bool) (u : List ℤ) : Type 0 where
  pub first_is : is_first ≡ eqb (length samples) 0
  pub inputs_are : u ≡ (sample_at samples (length samples - 1)).inputs

module _ (samples : List Sample) (s : Sample) (u : List ℤ) (m : Member) where
  abbrev pub more : List Sample
  more = samples ++ s ∷ []

  corrected-before : (k : ℕ) → k < length samples → corrected_sets m.plant more k ≡ corrected_sets m.plant samples k
  corrected-before k l = λ i. correct_sets m.plant (sample-before samples s k l i) (sets-before m.plant samples s k (omega arith) i)

  sets-ahead-are : (n : ℕ) → n ≡ length samples → u ≡ (sample_at samples (n - 1)).inputs → m.estimate ≡ sets_after m.plant samples n → sets_ahead (eqb n 0) u m.plant m.estimate ≡ predicted_sets m.plant more n
  unfolding sets_ahead
  sets-ahead-are zero e inputs sets = sets ∙ sym (sets-first m.plant more)
  sets-ahead-are (suc k) e inputs sets =
      let back : suc k - 1 ≡ k = omega arith in
      let here : u ≡ (sample_at more k).inputs = inputs ∙ ap (λ j. (sample_at samples j).inputs) back ∙ sym (ap (λ t. t.inputs) (sample-before samples s k (omega arith))) in
      let there : m.estimate ≡ corrected_sets m.plant more k = sets ∙ sym (corrected-before k (omega arith)) in
      ap (λ b. if b then m.estimate else predict_sets m.plant u m.estimate) (suc-not_zero k) ∙ (λ i. predict_sets m.plant (here i) (there i)) ∙ sym (predicted-suc m.plant more k)

  widens-is : (n : ℕ) → n ≡ length samples → u ≡ (sample_at samples (n - 1)).inputs → m.estimate ≡ sets_after m.plant samples n → widens (eqb n 0) u m.plant m.estimate ≡ sets_widened m.plant more n
  unfolding widens
  widens-is zero e inputs sets = refl
  widens-is (suc k) e inputs sets =
      let back : suc k - 1 ≡ k = omega arith in
      let here : u ≡ (sample_at more k).inputs = inputs ∙ ap (λ j. (sample_at samples j).inputs) back ∙ sym (ap (λ t. t.inputs) (sample-before samples s k (omega arith))) in
      let there : m.estimate ≡ corrected_sets m.plant more k = sets ∙ sym (corrected-before k (omega arith)) in
      ap (λ b. if b then false else either_leaves m.plant u m.estimate) (suc-not_zero k) ∙ (λ i. either_leaves m.plant (here i) (there i))

module _ (samples : List Sample) (s : Sample) (is_first : Bool) (u : List ℤ) (knows : Knows samples is_first u) (m : Member) (stands : MemberStands samples m) where
  abbrev pub n : ℕ
  n = length samples

  abbrev pub whole : List Sample
  whole = samples ++ s ∷ []

  sets-here : m.live ≡ true → ahead_of is_first u m ≡ predicted_sets m.plant whole n
  sets-here l = ap (λ b. sets_ahead b u m.plant m.estimate) knows.first_is ∙ sets-ahead-are samples s u m n refl knows.inputs_are (stands l)

  widens-here : m.live ≡ true → widens is_first u m.plant m.estimate ≡ sets_widened m.plant whole n
  widens-here l = ap (λ b. widens b u m.plant m.estimate) knows.first_is ∙ widens-is samples s u m n refl knows.inputs_are (stands l)

  corrected-here : m.live ≡ true → correct_sets m.plant s (ahead_of is_first u m) ≡ corrected_sets m.plant whole n
  corrected-here l = λ i. correct_sets m.plant (sym (sample-last samples s) i) (sets-here l i)

  -- the answer on a live member is what the definitions say
  pub answer-here : m.live ≡ true → (c : Option Certificate) → answer_of is_first u s m c ≡ answer_with sets_observer m.plant whole n c
  unfolding answer_on
  answer-here l c = λ i. answer_on m.plant (sym (sample-last samples s) i) (sets-here l i) (widens-here l i) c

  pub predicted-here : m.live ≡ true → predicted_outs m.plant s.inputs (ahead_of is_first u m).plain ≡ predicted_outs m.plant (sample_at whole n).inputs (predicted_sets m.plant whole n).plain
  predicted-here l = λ i. predicted_outs m.plant ((sym (sample-last samples s)) i).inputs (sets-here l i).plain

  -- so is the output that is due, and what a rule allows
  pub due-here : m.live ≡ true → due m.plant s (ahead_of is_first u m).plain ≡ due_at sets_observer m.plant whole n
  due-here l = λ i. due m.plant (sym (sample-last samples s) i) (sets-here l i).plain

  pub allowed-here : m.live ≡ true → (rule : Rule) (c : Option Certificate) → allowed_of rule is_first u s m c ≡ allows_at rule sets_observer m.plant whole n c
  allowed-here l rule c = λ i. is_allowed_of_sets rule m.plant (sym (sample-last samples s) i) (sets-here l i) c

  longer : length whole ≡ suc n
  longer = let e = length_push samples s in omega arith

  -- after the sample a member stands for that too
  pub member-stands : (c : Option Certificate) → MemberStands whole (member_after is_first u s m c)
  unfolding sets_on
  member-stands c = by m.live refl
    where
      taken : (c : Option Certificate) → is_none c ≡ true → not (offers_output c) ≡ true
      taken None e = refl
      taken (Some d) e = absurd cc

      by : (b : Bool) → m.live ≡ b → MemberStands whole (if b then judged_on m.plant s (ahead_of is_first u m) c else m)
      by true l fits =
          ap (λ b. correct_sets_if b m.plant s (ahead_of is_first u m)) (taken c fits)
          ∙ corrected-here l ∙ sym (ap (sets_after m.plant whole) longer)
      by false l live = absurd (let e = sym l ∙ live in cc)
