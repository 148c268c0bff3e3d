-- The set holds each trajectory that obeys the telemetry, sample by sample.
use Rattle.std.proofs.Common.{◌≡◌, ℕ, zero, suc, ◌+◌, ◌<◌, ◌≤◌, List, take, replicate, Option, Some, None, IfSome, Bool, true, false, ℤ, pos, ◌+ℤ◌, ◌-ℤ◌, ◌*ℤ◌, ◌≤ℤ◌, if◌then◌else◌, sym, arith, subst}
use Rattle.std.proofs.lemmas.Int.{ints}
use Rattle.std.proofs.lemmas.List.{get_or-take, get_or-replicate}
use Rattle.set_rules.specs.Sum.{magnitude}
use Rattle.set_rules.specs.Columns.{at}
use Rattle.set_rules.specs.Zono.{Zono, Inside}
use Rattle.set_rules.specs.Image.{IsStep}
use Rattle.set_rules.specs.Strip.{Reads}
use Rattle.plant_model.specs.Plant.{Plant, Present, Sample, no_sample, sample_at, reading_at, shift_of, through_of, output_row, Trajectory, states_at, disturbances_at, Obeys}
use Rattle.observer_step.specs.Estimate.{state_box, trim, image_of, leaves_range, predict, correct_reading, corrected_after, correct, predicted_set}
use Rattle.observer_step.specs.Laws.{BeginHolds, PredictKeeps, CorrectKeeps, ReadyHolds, CorrectedHolds}
use Rattle.set_rules.proofs.ImageSets.{image-encloses}
use Rattle.set_rules.proofs.ReductionHolds.{reduction-keeps}
use Rattle.set_rules.proofs.RowsHold.{box-holds}
use Rattle.observer_step.proofs.CorrectionHolds.{plain-keeps}

-- ---- one sample

module _ (p : Plant) (s : Sample) (x : List ℤ) (q : ℕ) (positive : 1 ≤ q) where
  -- each reading of the first m outputs is one of the point
  abbrev pub ReadsAll : ℕ → Type 0
  ReadsAll m = (o : ℕ) → o < m → IfSome (reading_at s o) (λ r. Reads p.states (output_row p o) (through_of p s.inputs o) q x r.value (at p.noise o +ℤ r.slack))

  reading-keeps : (o : ℕ) (reading : Option Present) (z : Zono) → IfSome reading (λ r. Reads p.states (output_row p o) (through_of p s.inputs o) q x r.value (at p.noise o +ℤ r.slack)) → Inside p.states z x q
      → Inside p.states (correct_reading p s.inputs o reading z) x q
  unfolding correct_reading
  reading-keeps o None z reads inside = inside
  reading-keeps o (Some r) z reads inside = plain-keeps p.states q (output_row p o) (through_of p s.inputs o) r.value (at p.noise o +ℤ r.slack) z x positive inside reads

  pub readings-keep : (m : ℕ) (z : Zono) → ReadsAll m → Inside p.states z x q → Inside p.states (corrected_after p s m z) x q
  unfolding corrected_after
  readings-keep zero z reads inside = inside
  readings-keep (suc m) z reads inside = reading-keeps m (reading_at s m) (corrected_after p s m z) (reads m (omega arith)) (readings-keep m z (λ o l. reads o (omega arith)) inside)

-- ---- one step

module _ (p : Plant) (u : List ℤ) (x x' v : List ℤ) (q : ℕ) (positive : 1 ≤ q) (step : IsStep p.states p.disturbances p.a (shift_of p u) p.e q x x' v)
    (bounded : (i : ℕ) → i < p.states → magnitude (at x' i) ≤ℤ (pos q *ℤ at p.state_max i)) where
  pub in-state_box : Inside p.states (state_box p) x' q
  in-state_box = box-holds p.states q (replicate p.states (pos 0)) p.state_max x' positive
      (λ i l. from_zero q (at x' i) (at (replicate p.states (pos 0)) i) (pos q *ℤ at p.state_max i) (get_or-replicate p.states i (pos 0) (pos 0) l) (bounded i l))
    where
      from_zero : (q : ℕ) (x c m : ℤ) → c ≡ pos 0 → magnitude x ≤ℤ m → magnitude (x -ℤ pos q *ℤ c) ≤ℤ m
      from_zero q x c m e h = let turned : magnitude (x -ℤ pos q *ℤ pos 0) ≤ℤ m = omega (arith, ints) in subst (λ c. magnitude (x -ℤ pos q *ℤ c) ≤ℤ m) (sym e) turned

  predict-keeps : (z : Zono) → Inside p.states z x q → Inside p.states (predict p u z) x' q
  unfolding predict
  predict-keeps z inside = by (leaves_range p u z)
    where
      by : (b : Bool) → Inside p.states (if b then state_box p else image_of p u (trim p.states z)) x' q
      by true = in-state_box
      by false = image-encloses p.states p.disturbances p.a (shift_of p u) p.e (trim p.states z) q x x' v (reduction-keeps p.states 48 q z x inside) step

-- ---- all samples

-- x obeys the samples before k, and its bounds at k
pub record ObeysBefore (p : Plant) (samples : List Sample) (k : ℕ) (x : Trajectory) : Type 0 where
  pub positive : 1 ≤ x.denominator
  pub starts : (i : ℕ) → i < p.states → magnitude (at (states_at x 0) i -ℤ pos x.denominator *ℤ at p.centre i) ≤ℤ (pos x.denominator *ℤ at p.radius i)
  pub moves : (j : ℕ) → j < k → IsStep p.states p.disturbances p.a (shift_of p (sample_at samples j).inputs) p.e x.denominator (states_at x j) (states_at x (j + 1)) (disturbances_at x j)
  pub reads : (j : ℕ) → j < k → ReadsAll p (sample_at samples j) (states_at x j) x.denominator positive p.outputs
  pub bounded : (j : ℕ) → j ≤ k → (i : ℕ) → i < p.states → magnitude (at (states_at x j) i) ≤ℤ (pos x.denominator *ℤ at p.state_max i)

pub taken-before : (p : Plant) (samples : List Sample) (k : ℕ) (x : Trajectory) → Obeys p (take k samples) k x → ObeysBefore p samples k x
taken-before p samples k x obeys =
    let same : (j : ℕ) → j < k → sample_at (take k samples) j ≡ sample_at samples j = λ j l. get_or-take k samples j no_sample l in
    record {
      positive = obeys.positive;
      starts = obeys.starts;
      moves = λ j l. subst (λ (s : Sample). IsStep p.states p.disturbances p.a (shift_of p s.inputs) p.e x.denominator (states_at x j) (states_at x (j + 1)) (disturbances_at x j)) (same j l) (obeys.moves j l);
      reads = λ j l. subst (λ (s : Sample). ReadsAll p s (states_at x j) x.denominator obeys.positive p.outputs) (same j l) (obeys.reads j (omega arith));
      bounded = obeys.bounded;
    }

pub whole-before : (p : Plant) (samples : List Sample) (k : ℕ) (x : Trajectory) → Obeys p samples k x → ObeysBefore p samples k x
whole-before p samples k x obeys = record {
  positive = obeys.positive;
  starts = obeys.starts;
  moves = obeys.moves;
  reads = λ j l. obeys.reads j (omega arith);
  bounded = obeys.bounded;
}

ready-inside : (p : Plant) (samples : List Sample) (k : ℕ) (x : Trajectory) → ObeysBefore p samples k x → Inside p.states (predicted_set p samples k) (states_at x k) x.denominator
unfolding predicted_set
ready-inside p samples zero x obeys = box-holds p.states x.denominator p.centre p.radius (states_at x 0) obeys.positive obeys.starts
ready-inside p samples (suc k) x obeys =
    let s = sample_at samples k in
    let q = x.denominator in
    let before : ObeysBefore p samples k x = record {
      positive = obeys.positive;
      starts = obeys.starts;
      moves = λ j l. obeys.moves j (omega arith);
      reads = λ j l. obeys.reads j (omega arith);
      bounded = λ j l. obeys.bounded j (omega arith);
    } in
    let now = readings-keep p s (states_at x k) q obeys.positive p.outputs (predicted_set p samples k) (obeys.reads k (omega arith)) (ready-inside p samples k x before) in
    let next : k + 1 ≡ suc k = omega arith in
    subst (λ j. Inside p.states (predict p s.inputs (correct p s (predicted_set p samples k))) (states_at x j) q) next
    (predict-keeps p s.inputs (states_at x k) (states_at x (k + 1)) (disturbances_at x k) q obeys.positive (obeys.moves k (omega arith)) (obeys.bounded (k + 1) (omega arith)) (correct p s (predicted_set p samples k)) now)

-- the first set has the state in which each trajectory begins
pub begin-holds : BeginHolds
begin-holds p samples k x obeys = box-holds p.states x.denominator p.centre p.radius (states_at x 0) obeys.positive obeys.starts

-- a step from a point inside ends inside the predicted set
pub predict-holds : PredictKeeps
predict-holds p u z q x x' v positive step bounded inside = predict-keeps p u x x' v q positive step bounded z inside

-- a point of which there are these readings stays inside the corrected set
pub correct-holds : CorrectKeeps
correct-holds p s z q x positive reads inside = readings-keep p s x q positive p.outputs z reads inside

-- the predicted set has the state of each trajectory that obeys the samples before
pub ready-holds : ReadyHolds
ready-holds p samples k x obeys = ready-inside p samples k x (taken-before p samples k x obeys)

-- as it does of one that obeys the sample too
pub ready-holds_whole : (p : Plant) (samples : List Sample) (k : ℕ) (x : Trajectory) → Obeys p samples k x → Inside p.states (predicted_set p samples k) (states_at x k) x.denominator
ready-holds_whole p samples k x obeys = ready-inside p samples k x (whole-before p samples k x obeys)

-- the corrected set has the state of each trajectory that obeys the sample too
pub corrected-holds : CorrectedHolds
corrected-holds p samples k x obeys =
    readings-keep p (sample_at samples k) (states_at x k) x.denominator obeys.positive p.outputs (predicted_set p samples k) (obeys.reads k (omega arith)) (ready-holds_whole p samples k x obeys)
