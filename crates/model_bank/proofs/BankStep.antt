-- What a sample makes of all members of a bank is what the definitions say of its plants.
use Rattle.std.proofs.Common.{◌≡◌, ℕ, ◌+◌, ◌-◌, ℤ, List, [], ◌∷◌, ◌++◌, length, map, is_none, Option, if◌then◌else◌, Bool, true, false, not, ◌&&◌, ◌||◌, refl, sym, ap, ◌∙◌, arith, eqb}
use Rattle.std.specs.List.{All}
use Rattle.std.proofs.lemmas.List.{length_push, get_or_at}
use Rattle.std.proofs.lemmas.List.Elements.{All-nil, All-cons, All-head, All-tail}
use Rattle.farkas_check.specs.Certificate.{Certificate}
use Rattle.plant_model.specs.Plant.{Plant, Sample, no_sample, sample_at}
use Rattle.observer_step.specs.SetsAnswers.{sets_observer}
use Rattle.observer_step.specs.Answers.{answer_with, Rule, allows_at}
use Rattle.isolate_core.specs.Verdict.{verdict_of, possible_models}
use Rattle.model_bank.specs.Answers.{ModelAnswer, SampleAnswer, answer_if, answers_from, live_after, all_allowed, sample_answer}
use Rattle.model_bank.specs.Bank.{Member, Bank, MemberStands, BankStands}
use Rattle.model_bank.specs.Steps.{answer_of, allowed_of, ahead_of, judged_on, member_after, members_after, answers_of, all_allowed_of, bank_answer, bank_after}
use Rattle.model_bank.proofs.MemberStep.{Knows, answer-here, allowed-here, member-stands}

module _ (is_first : Bool) (u : List ℤ) (s : Sample) where
  -- the plants stay
  pub plant-stays : (m : Member) (c : Option Certificate) → (member_after is_first u s m c).plant ≡ m.plant
  plant-stays m c = by m.live
    where
      by : (b : Bool) → (if b then judged_on m.plant s (ahead_of is_first u m) c else m).plant ≡ m.plant
      by true = refl
      by false = refl

  pub plants-stay : (ms : List Member) (cs : List (Option Certificate)) → length cs ≡ length ms → map (λ (m : Member). m.plant) (members_after is_first u s ms cs) ≡ map (λ (m : Member). m.plant) ms
  plants-stay [] cs e = refl
  plants-stay (m ∷ ms) [] e = absurd cc
  plants-stay (m ∷ ms) (c ∷ cs) e =
      ap (λ p. p ∷ map (λ (m : Member). m.plant) (members_after is_first u s ms cs)) (plant-stays m c) ∙ ap (λ ps. m.plant ∷ ps) (plants-stay ms cs (omega arith))

  -- which stay live
  live-then : (m : Member) (c : Option Certificate) → (member_after is_first u s m c).live ≡ (m.live && is_none c)
  live-then m c = by m.live refl
    where
      by : (b : Bool) → m.live ≡ b → (if b then judged_on m.plant s (ahead_of is_first u m) c else m).live ≡ (b && is_none c)
      by true l = refl
      by false l = l

  pub lives-then : (ms : List Member) (cs : List (Option Certificate)) → map (λ (m : Member). m.live) (members_after is_first u s ms cs) ≡ live_after (map (λ (m : Member). m.live) ms) cs
  lives-then [] cs = refl
  lives-then (m ∷ ms) [] = refl
  lives-then (m ∷ ms) (c ∷ cs) =
      ap (λ b. b ∷ map (λ (m : Member). m.live) (members_after is_first u s ms cs)) (live-then m c) ∙ ap (λ bs. (m.live && is_none c) ∷ bs) (lives-then ms cs)

module _ (samples : List Sample) (s : Sample) (is_first : Bool) (u : List ℤ) (knows : Knows samples is_first u) where
  abbrev pub n : ℕ
  n = length samples

  abbrev pub whole : List Sample
  whole = samples ++ s ∷ []

  -- all members stand for the sample too
  pub members-stand : (ms : List Member) (cs : List (Option Certificate)) → All (MemberStands samples) ms → All (MemberStands whole) (members_after is_first u s ms cs)
  members-stand [] cs stand = All-nil (MemberStands whole)
  members-stand (m ∷ ms) [] stand = All-nil (MemberStands whole)
  members-stand (m ∷ ms) (c ∷ cs) stand =
      All-cons (MemberStands whole) (member_after is_first u s m c) (members_after is_first u s ms cs) (member-stands samples s is_first u knows m (All-head (MemberStands samples) m ms stand) c)
      (members-stand ms cs (All-tail (MemberStands samples) m ms stand))

  -- the answers on the live members
  pub answers-are : (i : ℕ) (ms : List Member) (cs : List (Option Certificate)) → All (MemberStands samples) ms
      → answers_of is_first u s i ms cs ≡ answers_from sets_observer i (map (λ (m : Member). m.plant) ms) (map (λ (m : Member). m.live) ms) cs whole n
  answers-are i [] cs stand = refl
  answers-are i (m ∷ ms) [] stand = refl
  answers-are i (m ∷ ms) (c ∷ cs) stand =
      ap (answer_if m.live i (answer_of is_first u s m c)) (answers-are (i + 1) ms cs (All-tail (MemberStands samples) m ms stand))
      ∙ by (answers_from sets_observer (i + 1) (map (λ (m : Member). m.plant) ms) (map (λ (m : Member). m.live) ms) cs whole n) m.live refl
    where
      by : (rest : List ModelAnswer) (b : Bool) → m.live ≡ b → answer_if b i (answer_of is_first u s m c) rest ≡ answer_if b i (answer_with sets_observer m.plant whole n c) rest
      by rest true l = ap (λ a. answer_if true i a rest) (answer-here samples s is_first u knows m (All-head (MemberStands samples) m ms stand) l c)
      by rest false l = refl

  -- and what a rule allows
  pub allowed-are : (rule : Rule) (ms : List Member) (cs : List (Option Certificate)) → All (MemberStands samples) ms
      → all_allowed_of rule is_first u s ms cs ≡ all_allowed rule sets_observer (map (λ (m : Member). m.plant) ms) (map (λ (m : Member). m.live) ms) cs whole n
  allowed-are rule [] [] stand = refl
  allowed-are rule [] (c ∷ cs) stand = refl
  allowed-are rule (m ∷ ms) [] stand = refl
  allowed-are rule (m ∷ ms) (c ∷ cs) stand =
      ap (λ b. (not m.live || allowed_of rule is_first u s m c) && b) (allowed-are rule ms cs (All-tail (MemberStands samples) m ms stand))
      ∙ ap (λ b. b && all_allowed rule sets_observer (map (λ (m : Member). m.plant) ms) (map (λ (m : Member). m.live) ms) cs whole n) (by m.live refl)
    where
      by : (b : Bool) → m.live ≡ b → (not b || allowed_of rule is_first u s m c) ≡ (not b || allows_at rule sets_observer m.plant whole n c)
      by true l = allowed-here samples s is_first u knows m (All-head (MemberStands samples) m ms stand) l rule c
      by false l = refl

-- the answer of these parts
abbrev pub answer_by : ℕ → List ModelAnswer → List Bool → SampleAnswer
answer_by k models possible = record { k = k; models = models; possible = possible; verdict = verdict_of (possible_models possible) }

module _ (plants : List Plant) (samples : List Sample) (lives : List Bool) (s : Sample) (b : Bank) (stands : BankStands plants samples lives b) where
  abbrev pub there : List Sample
  there = samples ++ s ∷ []

  pub knows : Knows samples (eqb b.count 0) b.last_inputs
  knows = record { first_is = ap (λ n. eqb n 0) stands.count_is; inputs_are = stands.inputs_are }

  module _ (cs : List (Option Certificate)) where
    -- what the bank says of the sample is what the definitions say
    pub bank-answers : bank_answer s b cs ≡ sample_answer sets_observer plants lives cs there (length samples)
    bank-answers =
        let answers = answers-are samples s (eqb b.count 0) b.last_inputs knows 0 b.members cs stands.members_stand
        ∙ (λ i. answers_from sets_observer 0 (stands.plants_are i) (stands.lives_are i) cs there (length samples)) in
        let possible = lives-then (eqb b.count 0) b.last_inputs s b.members cs ∙ ap (λ bs. live_after bs cs) stands.lives_are in
        λ i. answer_by (stands.count_is i) (answers i) (possible i)

    -- and so is what a rule allows
    pub bank-allows : (rule : Rule) → all_allowed_of rule (eqb b.count 0) b.last_inputs s b.members cs ≡ all_allowed rule sets_observer plants lives cs there (length samples)
    bank-allows rule =
        allowed-are samples s (eqb b.count 0) b.last_inputs knows rule b.members cs stands.members_stand
        ∙ (λ i. all_allowed rule sets_observer (stands.plants_are i) (stands.lives_are i) cs there (length samples))

    -- after the sample the bank stands for that too
    pub bank-stands : length cs ≡ length b.members → BankStands plants there (live_after lives cs) (bank_after s b cs)
    bank-stands long =
        let longer : length samples + 1 ≡ length there = sym (length_push samples s) in
        let last : length there - 1 ≡ length samples = omega (arith, length_push samples s) in
        record {
          plants_are = plants-stay (eqb b.count 0) b.last_inputs s b.members cs long ∙ stands.plants_are;
          lives_are = lives-then (eqb b.count 0) b.last_inputs s b.members cs ∙ ap (λ bs. live_after bs cs) stands.lives_are;
          count_is = ap (λ n. n + 1) stands.count_is ∙ longer;
          inputs_are = sym (ap (λ j. (sample_at there j).inputs) last ∙ ap (λ t. t.inputs) (get_or_at samples s [] no_sample (length samples) refl));
          members_stand = members-stand samples s (eqb b.count 0) b.last_inputs knows b.members cs stands.members_stand;
        }

-- as many members stay
pub members-many : (is_first : Bool) (u : List ℤ) (s : Sample) (ms : List Member) (cs : List (Option Certificate)) → length cs ≡ length ms → length (members_after is_first u s ms cs) ≡ length ms
members-many is_first u s [] cs e = refl
members-many is_first u s (m ∷ ms) [] e = absurd cc
members-many is_first u s (m ∷ ms) (c ∷ cs) e = let others = members-many is_first u s ms cs (omega arith) in omega arith

-- what is allowed says something of each member
pub allowed-long : (rule : Rule) (is_first : Bool) (u : List ℤ) (s : Sample) (ms : List Member) (cs : List (Option Certificate)) → all_allowed_of rule is_first u s ms cs ≡ true → length cs ≡ length ms
allowed-long rule is_first u s [] [] all = refl
allowed-long rule is_first u s [] (c ∷ cs) all = absurd cc
allowed-long rule is_first u s (m ∷ ms) [] all = absurd cc
allowed-long rule is_first u s (m ∷ ms) (c ∷ cs) all =
    let others = by (not m.live || allowed_of rule is_first u s m c) (allowed-long rule is_first u s ms cs) all in omega arith
  where
    by : (b : Bool) → (all_allowed_of rule is_first u s ms cs ≡ true → length cs ≡ length ms) → b && all_allowed_of rule is_first u s ms cs ≡ true → length cs ≡ length ms
    by true more h = more h
    by false more h = absurd cc
