-- The laws of both sets: every trajectory stays in them, for all kept rows by one choice of symbols; a reading that misses,
-- or multipliers that refute the kept rows, show that there is none.
use Rattle.std.specs.Prelude.{◌≡◌, ℕ, ◌<◌, ◌≤◌, List, ◌++◌, length, take, Some, IsTrue, ℤ}
use Rattle.set_rules.specs.Columns.{at}
use Rattle.set_rules.specs.Zono.{Inside}
use Rattle.set_rules.specs.Rows.{InsideAll}
use Rattle.set_rules.specs.Box.{hull, IsBetween}
use Rattle.set_rules.specs.Farkas.{passes}
use Rattle.plant_model.specs.Plant.{Plant, Sample, Trajectory, states_at, sample_at, Obeys, Consistent}
use Rattle.observer_step.specs.Predicted.{due}
use Rattle.observer_step.specs.Sets.{Sets, predicted_sets, corrected_sets}

-- the point lies in the plain set, and one choice of symbols gives it in the other and satisfies every kept row
pub record HoldsPoint (p : Plant) (e : Sets) (x : List ℤ) (q : ℕ) : Type 0 where
  pub plain : Inside p.states e.plain x q
  pub constrained : InsideAll p.states e.constrained x q

-- the predicted sets have the state of each trajectory that obeys the samples before
abbrev pub PredictedSetsHold : Type 0
PredictedSetsHold = (p : Plant) (samples : List Sample) (k : ℕ) (x : Trajectory) → Obeys p (take k samples) k x
    → HoldsPoint p (predicted_sets p samples k) (states_at x k) x.denominator

-- the corrected sets have the state of each trajectory that obeys the sample too
abbrev pub CorrectedSetsHold : Type 0
CorrectedSetsHold = (p : Plant) (samples : List Sample) (k : ℕ) (x : Trajectory) → Obeys p samples k x
    → HoldsPoint p (corrected_sets p samples k) (states_at x k) x.denominator

-- the hull of the corrected plain set contains each trajectory
abbrev pub SetsHullContains : Type 0
SetsHullContains = (p : Plant) (samples : List Sample) (k : ℕ) (x : Trajectory) → Obeys p samples k x → (i : ℕ) → i < p.states
    → IsBetween (hull (corrected_sets p samples k).plain i) (at (states_at x k) i) x.denominator

-- a model of which a reading misses the interval that the plain set predicts has no trajectory
abbrev pub MissedHasNone : Type 0
MissedHasNone = (p : Plant) (samples : List Sample) (k o : ℕ)
    → due p (sample_at samples k) (predicted_sets p samples k).plain ≡ Some o → ¬ Consistent p samples k

-- nor has one of which multipliers refute the rows that are kept after the sample
abbrev pub RefutedHasNone : Type 0
RefutedHasNone = (p : Plant) (samples : List Sample) (k : ℕ) (list : List ℤ)
    → (let z = (corrected_sets p samples k).constrained in IsTrue (passes (length z.base.columns) z.rows list)) → ¬ Consistent p samples k

-- later samples change no earlier sets
abbrev pub LaterSetsChangeNothing : Type 0
LaterSetsChangeNothing = (p : Plant) (samples more : List Sample) (k : ℕ) → k ≤ length samples
    → predicted_sets p (samples ++ more) k ≡ predicted_sets p samples k
