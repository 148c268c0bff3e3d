-- What the lines of a report claim. The lines after `sample k`, up to the next such line, speak of sample k; `plant i` is model i.
use Rattle.std.specs.Prelude.{◌≡◌, ℕ, ◌<◌, ℤ, true, ◌&&◌, List, [], ◌∷◌, Option, Some, None, if◌then◌else◌, slice_index_or}
use Rattle.set_rules.specs.Columns.{at}
use Rattle.set_rules.specs.Box.{IsBetween, hull as hull_of}
use Rattle.plant_model.specs.Plant.{Plant, Sample, sample_at, reading_at, Trajectory, states_at, Obeys, Consistent}
use Rattle.observer_step.specs.Predicted.{reading_misses}
use Rattle.observer_step.specs.Answers.{Observer, due_at}
use Rattle.farkas_check.specs.Certificate.{by_out}
use Rattle.farkas_check.specs.Multipliers.{are_multipliers}
use Rattle.report_text.specs.Line.{Line, sample, pred, exclude, hull}

-- a plant of no state, past the last
abbrev pub no_plant : Plant
no_plant = record {
  states = 0;
  inputs = 0;
  outputs = 0;
  disturbances = 0;
  a = [];
  b = [];
  c = [];
  d = [];
  e = [];
  noise = [];
  centre = [];
  radius = [];
  state_max = [];
}

-- the plant of model i
abbrev pub plant_at : List Plant → ℕ → Plant
plant_at ps i = slice_index_or ps i no_plant

-- the interval holds state x of every trajectory that obeys the plant up to sample k
abbrev pub HoldsEvery : Plant → List Sample → ℕ → ℕ → ℤ × ℤ → Type 0
HoldsEvery p samples k x ends = (t : Trajectory) → Obeys p samples k t → IsBetween ends (at (states_at t k) x) t.denominator

-- each hull holds every trajectory of its model
abbrev pub HullsHold : (ℕ → Plant) → List Sample → ℕ → List Line → Type 0
HullsHold plant samples k [] = Unit
HullsHold plant samples k (sample j ∷ lines) = HullsHold plant samples j lines
HullsHold plant samples k (hull i x lo hi ∷ lines) = HoldsEvery (plant i) samples k x (lo, hi) × HullsHold plant samples k lines
HullsHold plant samples k (line ∷ lines) = HullsHold plant samples k lines

-- each model that is excluded has no trajectory
abbrev pub ExclusionsHold : (ℕ → Plant) → List Sample → ℕ → List Line → Type 0
ExclusionsHold plant samples k [] = Unit
ExclusionsHold plant samples k (sample j ∷ lines) = ExclusionsHold plant samples j lines
ExclusionsHold plant samples k (exclude i c ∷ lines) = (¬ Consistent (plant i) samples k) × ExclusionsHold plant samples k lines
ExclusionsHold plant samples k (line ∷ lines) = ExclusionsHold plant samples k lines

-- the first model and output whose reading misses its printed interval by more than its slack
abbrev pub first_missed : Sample → Option (ℕ × ℕ) → ℕ → ℕ → ℤ × ℤ → Option (ℕ × ℕ)
first_missed s (Some missed) i o ends = Some missed
first_missed s None i o ends = if reading_misses ends (reading_at s o) then Some (i, o) else None

-- after the intervals of a model of which a reading misses one, the line that excludes it by the least such output
abbrev pub MissesTold : List Sample → ℕ → Option (ℕ × ℕ) → List Line → Type 0
MissesTold samples k missed [] = Unit
MissesTold samples k missed (pred i o lo hi ∷ lines) = MissesTold samples k (first_missed (sample_at samples k) missed i o (lo, hi)) lines
MissesTold samples k (Some (i, o)) (line ∷ lines) = (line ≡ exclude i (by_out o)) × MissesTold samples k None lines
MissesTold samples k None (sample j ∷ lines) = MissesTold samples j None lines
MissesTold samples k None (line ∷ lines) = MissesTold samples k None lines

-- what an observer has to say rightly at the samples before n: its hulls hold every trajectory, and where an output is due,
-- or multipliers refute the kept rows, there is none
pub record IsSoundBefore (o : Observer) (samples : List Sample) (n : ℕ) : Type 0 where
  pub hulls_hold : (p : Plant) (k : ℕ) → k < n → (x : ℕ) → x < p.states → HoldsEvery p samples k x (hull_of (o.corrected p samples k) x)
  pub due_has_none : (p : Plant) (k : ℕ) → k < n → (output : ℕ) → due_at o p samples k ≡ Some output → ¬ Consistent p samples k
  pub refuted_has_none : (p : Plant) (k : ℕ) → k < n → (ls : List ℤ) → o.refutes p samples k ls ≡ true → ¬ Consistent p samples k

-- each candidate is a list of multipliers that refutes the kept rows
abbrev pub CandidatesRefute : Observer → Type 0
CandidatesRefute o = (p : Plant) (samples : List Sample) (k : ℕ) (ls : List ℤ) → o.candidate p samples k ≡ Some ls
    → o.refutes p samples k ls && are_multipliers ls ≡ true
