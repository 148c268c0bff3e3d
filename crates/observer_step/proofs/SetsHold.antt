-- Both sets hold each trajectory that obeys the telemetry, sample by sample.
use Rattle.std.proofs.Common.{◌≡◌, ℕ, zero, suc, ◌+◌, ◌<◌, ◌≤◌, List, ◌++◌, length, Option, Some, None, IfSome, Bool, true, false, ℤ, pos, ◌+ℤ◌, ◌*ℤ◌, ◌≤ℤ◌, if◌then◌else◌, refl, sym, ap, ◌∙◌, arith, subst}
use Rattle.std.proofs.lemmas.List.{get_or_append_left}
use Rattle.set_rules.specs.Sum.{magnitude}
use Rattle.set_rules.specs.Columns.{at}
use Rattle.set_rules.specs.Zono.{Zono, Inside}
use Rattle.set_rules.specs.Rows.{Czono, InsideAll, IsAligned}
use Rattle.set_rules.specs.Image.{IsStep}
use Rattle.set_rules.specs.Strip.{Reads}
use Rattle.set_rules.specs.Keep.{without_rows}
use Rattle.plant_model.specs.Plant.{Plant, Present, Sample, no_sample, sample_at, reading_at, shift_of, through_of, output_row, Trajectory, states_at, disturbances_at}
use Rattle.observer_step.specs.Estimate.{state_box, trim, image_of, row_of}
use Rattle.observer_step.specs.Sets.{Sets, first_sets, settle, with_room, constrained_image, either_leaves, state_boxes, predict_sets, keep_reading, kept_after, correct_sets, predicted_sets, corrected_sets}
use Rattle.observer_step.specs.SetsLaws.{HoldsPoint, PredictedSetsHold, CorrectedSetsHold, SetsHullContains, MissedHasNone, RefutedHasNone, LaterSetsChangeNothing}
use Rattle.set_rules.proofs.ImageSets.{image-encloses, length-image}
use Rattle.set_rules.proofs.ReductionHolds.{reduction-keeps}
use Rattle.set_rules.proofs.ReadingsHold.{hull-holds}
use Rattle.set_rules.proofs.LiftedHolds.{lifted-reduction-keeps}
use Rattle.set_rules.proofs.RowsHold.{image-keeps, box-holds, cut-keeps}
use Rattle.set_rules.proofs.TestsHold.{passing-refutes}
use Rattle.observer_step.proofs.CorrectionHolds.{length-strip}
use Rattle.observer_step.proofs.RowsAligned.{reduce_lifted-aligned, widened-aligned, cut-aligned, with_room-aligned, with_room-keeps}
use Rattle.observer_step.proofs.TrajectoriesHold.{ReadsAll, readings-keep, in-state_box, ObeysBefore, taken-before, whole-before}
use Rattle.observer_step.proofs.ExclusionHolds.{none-missed}

-- the sets hold the point, and the rows are aligned
record Stands (p : Plant) (e : Sets) (x : List ℤ) (q : ℕ) : Type 0 where
  plain : Inside p.states e.plain x q
  constrained : InsideAll p.states e.constrained x q
  aligned : IsAligned e.constrained

-- the set with rows does
record StandsAlone (p : Plant) (z : Czono) (x : List ℤ) (q : ℕ) : Type 0 where
  inside : InsideAll p.states z x q
  aligned : IsAligned z

-- ---- one sample

module _ (p : Plant) (s : Sample) (x : List ℤ) (q : ℕ) (positive : 1 ≤ q) where
  reading-kept : (o : ℕ) (reading : Option Present) (z : Czono) → IfSome reading (λ r. Reads p.states (output_row p o) (through_of p s.inputs o) q x r.value (at p.noise o +ℤ r.slack)) → StandsAlone p z x q
      → StandsAlone p (keep_reading p s.inputs o reading z) x q
  unfolding keep_reading
  reading-kept o None z reads stands = stands
  reading-kept o (Some r) z reads stands =
      let room = with_room p.states z in
      let aligned = with_room-aligned p.states z stands.aligned in
      record {
        inside = cut-keeps p.states q (output_row p o) (through_of p s.inputs o) r.value (at p.noise o +ℤ r.slack) room x positive aligned (with_room-keeps p.states q z x stands.aligned stands.inside) reads;
        aligned = cut-aligned p.states (row_of p s.inputs o r room.base) room (length-strip p.states (output_row p o) (through_of p s.inputs o) r.value (at p.noise o +ℤ r.slack) room.base) aligned;
      }

  readings-kept : (m : ℕ) (z : Czono) → ReadsAll p s x q positive m → StandsAlone p z x q → StandsAlone p (kept_after p s m z) x q
  unfolding kept_after
  readings-kept zero z reads stands = stands
  readings-kept (suc m) z reads stands = reading-kept m (reading_at s m) (kept_after p s m z) (reads m (omega arith)) (readings-kept m z (λ o l. reads o (omega arith)) stands)

  correct-stands : (e : Sets) → ReadsAll p s x q positive p.outputs → Stands p e x q → Stands p (correct_sets p s e) x q
  correct-stands e reads stands =
      let rows = readings-kept p.outputs e.constrained reads (record { inside = stands.constrained; aligned = stands.aligned }) in
      record { plain = readings-keep p s x q positive p.outputs e.plain reads stands.plain; constrained = rows.inside; aligned = rows.aligned }

-- ---- one step

no-rows : (p : Plant) (z : Zono) (x : List ℤ) (q : ℕ) → Inside p.states z x q → StandsAlone p (without_rows z) x q
no-rows p z x q inside = record {
  inside = record { symbols = inside.0; gives = inside.1; meets = λ r h. absurd (omega arith) };
  aligned = λ r h. absurd (omega arith);
}

module _ (p : Plant) (u : List ℤ) (x x' v : List ℤ) (q : ℕ) (positive : 1 ≤ q) (step : IsStep p.states p.disturbances p.a (shift_of p u) p.e q x x' v)
    (bounded : (i : ℕ) → i < p.states → magnitude (at x' i) ≤ℤ (pos q *ℤ at p.state_max i)) where
  predict-stands : (e : Sets) → Stands p e x q → Stands p (predict_sets p u e) x' q
  unfolding predict_sets
  predict-stands e stands = by (either_leaves p u e)
    where
      inside_box : Inside p.states (state_box p) x' q
      inside_box = in-state_box p u x x' v q positive step bounded

      settled : (z : Czono) → StandsAlone p z x' q → StandsAlone p (settle p.states z) x' q
      settled z alone = record { inside = lifted-reduction-keeps p.states 64 q z x' alone.inside; aligned = reduce_lifted-aligned p.states 64 z alone.aligned }

      imaged : StandsAlone p (constrained_image p u e.constrained) x' q
      imaged = record {
        inside = image-keeps p.states p.disturbances q p.a (shift_of p u) p.e x x' v e.constrained stands.aligned stands.constrained step;
        aligned = widened-aligned (length e.constrained.base.columns) (p.disturbances + p.states) (image_of p u e.constrained.base) e.constrained.rows stands.aligned
            (length-image p.states p.disturbances p.a (shift_of p u) p.e e.constrained.base);
      }

      plain_imaged : Inside p.states (image_of p u (trim p.states e.plain)) x' q
      plain_imaged = image-encloses p.states p.disturbances p.a (shift_of p u) p.e (trim p.states e.plain) q x x' v (reduction-keeps p.states 48 q e.plain x stands.plain) step

      by : (b : Bool) → Stands p (if b then state_boxes p else record { plain = image_of p u (trim p.states e.plain); constrained = settle p.states (constrained_image p u e.constrained) }) x' q
      by true = let all = settled (without_rows (state_box p)) (no-rows p (state_box p) x' q inside_box) in record { plain = inside_box; constrained = all.inside; aligned = all.aligned }
      by false = let all = settled (constrained_image p u e.constrained) imaged in record { plain = plain_imaged; constrained = all.inside; aligned = all.aligned }

-- ---- all samples

ready-stands : (p : Plant) (samples : List Sample) (k : ℕ) (x : Trajectory) → ObeysBefore p samples k x → Stands p (predicted_sets p samples k) (states_at x k) x.denominator
unfolding predicted_sets
ready-stands p samples zero x obeys =
    let start = box-holds p.states x.denominator p.centre p.radius (states_at x 0) obeys.positive obeys.starts in
    let alone = no-rows p (let e = predicted_sets p samples zero in e.plain) (states_at x 0) x.denominator start in
    record { plain = start; constrained = alone.inside; aligned = alone.aligned }
ready-stands p samples (suc k) x obeys =
    let s = sample_at samples k in
    let q = x.denominator in
    let before : ObeysBefore p samples k x = record {
      positive = obeys.positive;
      starts = obeys.starts;
      moves = λ j l. obeys.moves j (omega arith);
      reads = λ j l. obeys.reads j (omega arith);
      bounded = λ j l. obeys.bounded j (omega arith);
    } in
    let now = correct-stands p s (states_at x k) q obeys.positive (predicted_sets p samples k) (obeys.reads k (omega arith)) (ready-stands p samples k x before) in
    let next : k + 1 ≡ suc k = omega arith in
    subst (λ j. Stands p (predict_sets p s.inputs (correct_sets p s (predicted_sets p samples k))) (states_at x j) q) next
    (predict-stands p s.inputs (states_at x k) (states_at x (k + 1)) (disturbances_at x k) q obeys.positive (obeys.moves k (omega arith)) (obeys.bounded (k + 1) (omega arith)) (correct_sets p s (predicted_sets p samples k)) now)

held : (p : Plant) (e : Sets) (x : List ℤ) (q : ℕ) → Stands p e x q → HoldsPoint p e x q
held p e x q stands = record { plain = stands.plain; constrained = stands.constrained }

-- the predicted sets have the state of each trajectory that obeys the samples before
pub predicted-hold : PredictedSetsHold
predicted-hold p samples k x obeys = held p (predicted_sets p samples k) (states_at x k) x.denominator (ready-stands p samples k x (taken-before p samples k x obeys))

-- the corrected sets have the state of each trajectory that obeys the sample too
pub corrected-hold : CorrectedSetsHold
corrected-hold p samples k x obeys =
    held p (corrected_sets p samples k) (states_at x k) x.denominator
    (correct-stands p (sample_at samples k) (states_at x k) x.denominator obeys.positive (predicted_sets p samples k) (obeys.reads k (omega arith)) (ready-stands p samples k x (whole-before p samples k x obeys)))

-- so the hull of the plain one contains each trajectory
pub sets-hull : SetsHullContains
sets-hull p samples k x obeys i l = hull-holds p.states x.denominator (corrected_sets p samples k).plain (states_at x k) (corrected-hold p samples k x obeys).plain i l

-- a model of which a reading misses has no trajectory
pub missed-has_none : MissedHasNone
missed-has_none p samples k o e (x, obeys) =
    none-missed p samples k x obeys (predicted_sets p samples k).plain (ready-stands p samples k x (whole-before p samples k x obeys)).plain o e

-- nor has one of which multipliers refute the kept rows
pub refuted-has_none : RefutedHasNone
refuted-has_none p samples k list passing (x, obeys) =
    let z = (corrected_sets p samples k).constrained in
    let inside = (corrected-hold p samples k x obeys).constrained in
    passing-refutes (length z.base.columns) x.denominator z.rows list inside.symbols obeys.positive passing inside.meets

sets-suc : (p : Plant) (samples : List Sample) (k : ℕ) → predicted_sets p samples (suc k) ≡ predict_sets p (sample_at samples k).inputs (correct_sets p (sample_at samples k) (predicted_sets p samples k))
unfolding predicted_sets
sets-suc p samples k = refl

pub sets-first : (p : Plant) (samples : List Sample) → predicted_sets p samples zero ≡ first_sets p
unfolding predicted_sets
sets-first p samples = refl

sets-zero : (p : Plant) (samples more : List Sample) → predicted_sets p (samples ++ more) zero ≡ predicted_sets p samples zero
unfolding predicted_sets
sets-zero p samples more = refl

-- what comes later changes no earlier sets
pub later-sets : LaterSetsChangeNothing
later-sets p samples more zero h = sets-zero p samples more
later-sets p samples more (suc k) h =
    let same : sample_at (samples ++ more) k ≡ sample_at samples k = get_or_append_left samples more no_sample k (omega arith) in
    let before = later-sets p samples more k (omega arith) in
    sets-suc p (samples ++ more) k
    ∙ ap (λ s. predict_sets p s.inputs (correct_sets p s (predicted_sets p (samples ++ more) k))) same
    ∙ ap (λ e. predict_sets p (sample_at samples k).inputs (correct_sets p (sample_at samples k) e)) before
    ∙ sym (sets-suc p samples k)
