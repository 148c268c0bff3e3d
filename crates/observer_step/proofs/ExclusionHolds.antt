-- Hulls contain every trajectory, a due certificate leaves none, and time changes no earlier set.
use Rattle.std.proofs.Common.{◌≡◌, ℕ, zero, suc, ◌<◌, List, ◌++◌, Option, Some, None, IfSome, Bool, true, false, ◌+ℤ◌, refl, sym, ap, ◌∙◌, arith}
use Rattle.std.proofs.lemmas.List.{get_or_append_left}
use Rattle.set_rules.specs.Columns.{at}
use Rattle.set_rules.specs.Zono.{Zono, Inside}
use Rattle.set_rules.specs.Strip.{Reads}
use Rattle.set_rules.specs.Tests.{first_below, last_passing, or_else}
use Rattle.set_rules.proofs.ReadingsHold.{hull-holds, readings-meet}
use Rattle.plant_model.specs.Plant.{Plant, Present, Sample, no_sample, sample_at, reading_at, output_row, through_of, Trajectory, states_at, Obeys}
use Rattle.observer_step.specs.Predicted.{out_of, due, reading_misses}
use Rattle.observer_step.specs.Estimate.{predict, correct, predicted_set, corrected_set}
use Rattle.observer_step.specs.Laws.{HullContains, DueHasNone, ExcludedStays, LaterChangesNothing}
use Rattle.observer_step.proofs.TrajectoriesHold.{ready-holds_whole, corrected-holds}

-- the hull of the corrected set contains each trajectory
pub hull-contains : HullContains
hull-contains p samples k x obeys i l = hull-holds p.states x.denominator (corrected_set p samples k) (states_at x k) (corrected-holds p samples k x obeys) i l

-- what is found passes, and is below the bound
first-found : (n : ℕ) (test : ℕ → Bool) (o : ℕ) → first_below n test ≡ Some o → (o < n) × (test o ≡ true)
unfolding first_below
first-found zero test o e = absurd cc
first-found (suc n) test o e = by (first_below n test) (test n) refl (λ (f : first_below n test ≡ Some o). let before = first-found n test o f in (omega arith, before.1)) refl e
  where
    by : (f : Option ℕ) (b : Bool) → test n ≡ b → (first_below n test ≡ Some o → (o < suc n) × (test o ≡ true)) → first_below n test ≡ f → or_else f (last_passing n b) ≡ Some o → (o < suc n) × (test o ≡ true)
    by (Some m) b t earlier f e = earlier (f ∙ e)
    by None true t earlier f e = let same : n ≡ o = cc in (omega arith, ap test (sym same) ∙ t)
    by None false t earlier f e = absurd cc

-- no reading of a point of the set misses what the set predicts
module _ (p : Plant) (samples : List Sample) (k : ℕ) (x : Trajectory) (obeys : Obeys p samples k x) (z : Zono) (inside : Inside p.states z (states_at x k) x.denominator) where
  abbrev s : Sample
  s = sample_at samples k

  reading-kept : (o : ℕ) (r : Option Present) → IfSome r (λ r. Reads p.states (output_row p o) (through_of p s.inputs o) x.denominator (states_at x k) r.value (at p.noise o +ℤ r.slack))
      → reading_misses (out_of p s.inputs z o) r ≡ false
  reading-kept o None reads = refl
  reading-kept o (Some r) reads = readings-meet p.states x.denominator (output_row p o) (through_of p s.inputs o) r.value (at p.noise o) r.slack z (states_at x k) obeys.positive inside reads

  pub none-missed : (o : ℕ) → due p s z ≡ Some o → ⊥
  unfolding due
  none-missed o e =
      let found = first-found p.outputs (λ o. reading_misses (out_of p s.inputs z o) (reading_at s o)) o e in
      let kept = reading-kept o (reading_at s o) (obeys.reads k (omega arith) o found.0) in
      cc

-- a model of which a reading misses its predicted interval has no trajectory
pub due-has_none : DueHasNone
due-has_none p samples k o e (x, obeys) = none-missed p samples k x obeys (predicted_set p samples k) (ready-holds_whole p samples k x obeys) o e

-- a trajectory up to a sample is one up to each sample before
pub excluded-stays : ExcludedStays
excluded-stays p samples k j h (x, obeys) = (
  x,
  record {
    positive = obeys.positive;
    starts = obeys.starts;
    moves = λ i l. obeys.moves i (omega arith);
    reads = λ i l. obeys.reads i (omega arith);
    bounded = λ i l. obeys.bounded i (omega arith);
  },
)

ready-suc : (p : Plant) (samples : List Sample) (k : ℕ) → predicted_set p samples (suc k) ≡ predict p (sample_at samples k).inputs (correct p (sample_at samples k) (predicted_set p samples k))
unfolding predicted_set
ready-suc p samples k = refl

ready-zero : (p : Plant) (samples more : List Sample) → predicted_set p (samples ++ more) zero ≡ predicted_set p samples zero
unfolding predicted_set
ready-zero p samples more = refl

-- what comes later changes no earlier set
pub later-nothing : LaterChangesNothing
later-nothing p samples more zero h = ready-zero p samples more
later-nothing p samples more (suc k) h =
    let same : sample_at (samples ++ more) k ≡ sample_at samples k = get_or_append_left samples more no_sample k (omega arith) in
    let before = later-nothing p samples more k (omega arith) in
    ready-suc p (samples ++ more) k
    ∙ ap (λ s. predict p s.inputs (correct p s (predicted_set p (samples ++ more) k))) same
    ∙ ap (λ e. predict p (sample_at samples k).inputs (correct p (sample_at samples k) e)) before
    ∙ sym (ready-suc p samples k)
