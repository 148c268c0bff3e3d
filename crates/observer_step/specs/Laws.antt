-- The laws of the estimate: every trajectory stays inside, and where a certificate is due there is none.
use Rattle.std.specs.Prelude.{◌≡◌, ℕ, ◌<◌, ◌≤◌, List, ◌++◌, length, take, Some, IfSome, ℤ, pos, ◌+ℤ◌, ◌*ℤ◌, ◌≤ℤ◌}
use Rattle.set_rules.specs.Sum.{magnitude}
use Rattle.set_rules.specs.Columns.{at}
use Rattle.set_rules.specs.Zono.{Zono, Inside}
use Rattle.set_rules.specs.Image.{IsStep}
use Rattle.set_rules.specs.Strip.{Reads}
use Rattle.set_rules.specs.Box.{hull, IsBetween}
use Rattle.plant_model.specs.Plant.{Plant, Sample, Trajectory, states_at, sample_at, reading_at, shift_of, through_of, output_row}
use Rattle.plant_model.specs.Plant.{Obeys, Consistent}
use Rattle.observer_step.specs.Predicted.{first_set, due}
use Rattle.observer_step.specs.Estimate.{predict, correct, predicted_set, corrected_set}

-- ---- one operation

-- the first set has the state in which each trajectory begins
abbrev pub BeginHolds : Type 0
BeginHolds = (p : Plant) (samples : List Sample) (k : ℕ) (x : Trajectory) → Obeys p samples k x
    → Inside p.states (first_set p) (states_at x 0) x.denominator

-- x' / q keeps the bounds of the plant
abbrev pub IsBounded : Plant → ℕ → List ℤ → Type 0
IsBounded p q x' = (i : ℕ) → i < p.states → magnitude (at x' i) ≤ℤ (pos q *ℤ at p.state_max i)

-- a step from a point inside that keeps the bounds ends inside the predicted set
abbrev pub PredictKeeps : Type 0
PredictKeeps = (p : Plant) (u : List ℤ) (z : Zono) (q : ℕ) (x x' v : List ℤ) → 1 ≤ q
    → IsStep p.states p.disturbances p.a (shift_of p u) p.e q x x' v → IsBounded p q x' → Inside p.states z x q
    → Inside p.states (predict p u z) x' q

-- the readings of a sample are readings of the point x / q
abbrev pub ReadsSample : Plant → Sample → ℕ → List ℤ → Type 0
ReadsSample p s q x = (o : ℕ) → o < p.outputs → IfSome (reading_at s o)
    (λ r. Reads p.states (output_row p o) (through_of p s.inputs o) q x r.value (at p.noise o +ℤ r.slack))

-- a point inside of which a sample has readings stays inside the corrected set
abbrev pub CorrectKeeps : Type 0
CorrectKeeps = (p : Plant) (s : Sample) (z : Zono) (q : ℕ) (x : List ℤ) → 1 ≤ q → ReadsSample p s q x → Inside p.states z x q
    → Inside p.states (correct p s z) x q

-- ---- all samples

-- the predicted set has the state of each trajectory that obeys the samples before
abbrev pub ReadyHolds : Type 0
ReadyHolds = (p : Plant) (samples : List Sample) (k : ℕ) (x : Trajectory) → Obeys p (take k samples) k x
    → Inside p.states (predicted_set p samples k) (states_at x k) x.denominator

-- the corrected set has the state of each trajectory that obeys the sample too
abbrev pub CorrectedHolds : Type 0
CorrectedHolds = (p : Plant) (samples : List Sample) (k : ℕ) (x : Trajectory) → Obeys p samples k x
    → Inside p.states (corrected_set p samples k) (states_at x k) x.denominator

-- the hull of the corrected set contains each trajectory
abbrev pub HullContains : Type 0
HullContains = (p : Plant) (samples : List Sample) (k : ℕ) (x : Trajectory) → Obeys p samples k x → (i : ℕ) → i < p.states
    → IsBetween (hull (corrected_set p samples k) i) (at (states_at x k) i) x.denominator

-- a model of which a reading misses its predicted interval has no trajectory
abbrev pub DueHasNone : Type 0
DueHasNone = (p : Plant) (samples : List Sample) (k o : ℕ)
    → due p (sample_at samples k) (predicted_set p samples k) ≡ Some o → ¬ Consistent p samples k

-- a model that has none has none at any later sample
abbrev pub ExcludedStays : Type 0
ExcludedStays = (p : Plant) (samples : List Sample) (k j : ℕ) → k ≤ j → Consistent p samples j → Consistent p samples k

-- later samples change no earlier set
abbrev pub LaterChangesNothing : Type 0
LaterChangesNothing = (p : Plant) (samples more : List Sample) (k : ℕ) → k ≤ length samples
    → predicted_set p (samples ++ more) k ≡ predicted_set p samples k
