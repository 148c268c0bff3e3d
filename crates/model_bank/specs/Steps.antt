-- What a sample makes of a bank and its members, from what they hold. `u` are the inputs
-- of the sample before, of which the first sample has none.
use Rattle.std.specs.Prelude.{ℕ, ◌+◌, ◌==◌, ℤ, Bool, true, false, not, ◌&&◌, ◌||◌, if◌then◌else◌, List, [], ◌∷◌, map}
use Rattle.std.specs.Prelude.{Option, Some, None, is_none}
use Rattle.farkas_check.specs.Certificate.{Certificate}
use Rattle.plant_model.specs.Plant.{Plant, Sample}
use Rattle.observer_step.specs.Predicted.{predicted_outs, hulls}
use Rattle.observer_step.specs.Offers.{offers_output}
use Rattle.observer_step.specs.Sets.{Sets, either_leaves, predict_sets, correct_sets, correct_sets_if}
use Rattle.observer_step.specs.Answers.{Answer, Rule}
use Rattle.observer_step.specs.SetsAnswers.{is_allowed_of_sets}
use Rattle.isolate_core.specs.Verdict.{verdict_of, possible_models}
use Rattle.model_bank.specs.Answers.{ModelAnswer, answer_if, SampleAnswer}
use Rattle.model_bank.specs.Bank.{Member, Bank}

-- the predicted sets: the given ones at the first sample, and later those one sample on
unfoldable pub sets_ahead : Bool → List ℤ → Plant → Sets → Sets
sets_ahead is_first u p e = if is_first then e else predict_sets p u e

-- the prediction leaves the range; never at the first sample
unfoldable pub widens : Bool → List ℤ → Plant → Sets → Bool
widens is_first u p e = if is_first then false else either_leaves p u e

-- the answer where e are the predicted sets, with this certificate or with none
unfoldable pub answer_on : Plant → Sample → Sets → Bool → Option Certificate → Answer
answer_on p s e is_widened c = record {
  predicted = predicted_outs p s.inputs e.plain;
  is_widened = is_widened;
  certificate = c;
  hulls = if is_none c then hulls p (correct_sets p s e).plain else [];
}

-- the sets after the sample where e are the predicted sets: they take the readings where no output is certified
unfoldable pub sets_on : Plant → Sample → Sets → Option Certificate → Sets
sets_on p s e c = correct_sets_if (not (offers_output c)) p s e

-- the predicted sets of a member
abbrev pub ahead_of : Bool → List ℤ → Member → Sets
ahead_of is_first u m = sets_ahead is_first u m.plant m.estimate

-- the rule allows the certificate, or none, for a member
abbrev pub allowed_of : Rule → Bool → List ℤ → Sample → Member → Option Certificate → Bool
allowed_of rule is_first u s m c = is_allowed_of_sets rule m.plant s (ahead_of is_first u m) c

-- the answer on a live member
abbrev pub answer_of : Bool → List ℤ → Sample → Member → Option Certificate → Answer
answer_of is_first u s m c = answer_on m.plant s (ahead_of is_first u m) (widens is_first u m.plant m.estimate) c

-- what is told of model i where it is live
abbrev pub told_of : Bool → List ℤ → Sample → ℕ → Member → Option Certificate → Option ModelAnswer
told_of is_first u s i m c = if m.live then Some (record { index = i; answer = answer_of is_first u s m c }) else None

-- a member that was live before the sample, where e are the predicted sets: it stays live where there is no certificate
abbrev pub judged_on : Plant → Sample → Sets → Option Certificate → Member
judged_on p s e c = record { plant = p; estimate = sets_on p s e c; live = is_none c }

-- the member after the sample: one that is not live stays as it is
abbrev pub member_after : Bool → List ℤ → Sample → Member → Option Certificate → Member
member_after is_first u s m c = if m.live then judged_on m.plant s (ahead_of is_first u m) c else m

-- the members after the sample
abbrev pub members_after : Bool → List ℤ → Sample → List Member → List (Option Certificate) → List Member
members_after is_first u s (m ∷ ms) (c ∷ cs) = member_after is_first u s m c ∷ members_after is_first u s ms cs
members_after is_first u s _ _ = []

-- the answers on the members that are live, where the first is model i
abbrev pub answers_of : Bool → List ℤ → Sample → ℕ → List Member → List (Option Certificate) → List ModelAnswer
answers_of is_first u s i (m ∷ ms) (c ∷ cs) =
    answer_if m.live i (answer_of is_first u s m c) (answers_of is_first u s (i + 1) ms cs)
answers_of is_first u s i _ _ = []

-- the rule allows what is said of each member that is live, and something is said of each member
abbrev pub all_allowed_of : Rule → Bool → List ℤ → Sample → List Member → List (Option Certificate) → Bool
all_allowed_of rule is_first u s (m ∷ ms) (c ∷ cs) =
    (not m.live || allowed_of rule is_first u s m c) && all_allowed_of rule is_first u s ms cs
all_allowed_of rule is_first u s [] [] = true
all_allowed_of rule is_first u s _ _ = false

-- which members of a bank are live after the sample
abbrev pub lives_after : Sample → Bank → List (Option Certificate) → List Bool
lives_after s b cs = map (λ (m : Member). m.live) (members_after (b.count == 0) b.last_inputs s b.members cs)

-- what a bank says of the sample
abbrev pub bank_answer : Sample → Bank → List (Option Certificate) → SampleAnswer
bank_answer s b cs = record {
  k = b.count;
  models = answers_of (b.count == 0) b.last_inputs s 0 b.members cs;
  possible = lives_after s b cs;
  verdict = verdict_of (possible_models (lives_after s b cs));
}

-- the bank after the sample
abbrev pub bank_after : Sample → Bank → List (Option Certificate) → Bank
bank_after s b cs = record b {
  members = members_after (b.count == 0) b.last_inputs s b.members cs;
  count = b.count + 1;
  last_inputs = s.inputs;
}
