-- The two sets that follow a plant through its telemetry: a plain one, and one that keeps its latest readings as rows on
-- its symbols (after Combastel 2003; Scott, Raimondo, Marseglia and Braatz 2016). Where the image of either leaves the
-- range, both become the state box.
use Rattle.std.specs.Prelude.{◌≡◌, ◌≤◌, ◌+◌, ◌-◌, ℕ, zero, suc, nat_lt, List, length, Option, Some, None, ℤ, Bool, false, not, ◌||◌, if◌then◌else◌}
use Rattle.set_rules.specs.Zono.{Zono}
use Rattle.set_rules.specs.Rows.{Czono}
use Rattle.set_rules.specs.Reduce.{reduce_lifted}
use Rattle.set_rules.specs.Gain.{in_range}
use Rattle.set_rules.specs.Keep.{without_rows, cut, drop_oldest, image_with_rows}
use Rattle.set_rules.specs.Limits.{constrained_columns, most_rows}
use Rattle.plant_model.specs.Plant.{Plant, Present, Sample, sample_at, reading_at, shift_of}
use Rattle.observer_step.specs.Predicted.{first_set}
use Rattle.observer_step.specs.Estimate.{state_box, trim, image_of, leaves_range, row_of, correct, image_columns}

-- a plain set, and one with rows
pub record Sets : Type 0 where
  pub plain : Zono
  pub constrained : Czono

-- where the plant starts
abbrev pub first_sets : Plant → Sets
first_sets p = record { plain = first_set p; constrained = without_rows (first_set p) }

-- the set with rows reduced to the columns that it keeps between samples
abbrev pub settle : ℕ → Czono → Czono
settle n z = reduce_lifted n constrained_columns z

-- the image of a set with rows under the plant with the inputs u
abbrev pub constrained_image : Plant → List ℤ → Czono → Czono
constrained_image p u z = image_with_rows p.states p.disturbances p.a (shift_of p u) p.e z

-- the image of one of the sets leaves the range
abbrev pub either_leaves : Plant → List ℤ → Sets → Bool
either_leaves p u s = leaves_range p u s.plain || not (in_range p.states (image_of p u s.constrained.base))

-- both as the state box
abbrev pub state_boxes : Plant → Sets
state_boxes p = record { plain = state_box p; constrained = settle p.states (without_rows (state_box p)) }

-- the sets one sample later: their images, or the state box where one leaves the range
unfoldable pub predict_sets : Plant → List ℤ → Sets → Sets
predict_sets p u s = if either_leaves p u s
    then state_boxes p
    else record { plain = image_of p u (trim p.states s.plain); constrained = settle p.states (constrained_image p u s.constrained) }

-- room for one more row: the oldest of six is taken out, and at most 64 columns are left
abbrev pub with_room : ℕ → Czono → Czono
with_room n z = settle n (if nat_lt (length z.rows) most_rows then z else drop_oldest n z)

-- the set with the reading of output o kept as its newest row, if there is one
unfoldable pub keep_reading : Plant → List ℤ → ℕ → Option Present → Czono → Czono
keep_reading p u o None z = z
keep_reading p u o (Some r) z = cut p.states (row_of p u o r (with_room p.states z).base) (with_room p.states z)

-- the set after the readings of the first m outputs, in order
unfoldable pub kept_after : Plant → Sample → ℕ → Czono → Czono
kept_after p s zero z = z
kept_after p s (suc m) z = keep_reading p s.inputs m (reading_at s m) (kept_after p s m z)

-- both sets after all readings of a sample
abbrev pub correct_sets : Plant → Sample → Sets → Sets
correct_sets p s e = record { plain = correct p s e.plain; constrained = kept_after p s p.outputs e.constrained }

-- both sets with the readings of the sample, where they are taken
abbrev pub correct_sets_if : Bool → Plant → Sample → Sets → Sets
correct_sets_if taken p s e = if taken then correct_sets p s e else e

-- the predicted sets at sample k, before its readings
unfoldable pub predicted_sets : Plant → List Sample → ℕ → Sets
predicted_sets p samples zero = first_sets p
predicted_sets p samples (suc k) = predict_sets p (sample_at samples k).inputs (correct_sets p (sample_at samples k) (predicted_sets p samples k))

-- the corrected sets at sample k
abbrev pub corrected_sets : Plant → List Sample → ℕ → Sets
corrected_sets p samples k = correct_sets p (sample_at samples k) (predicted_sets p samples k)

-- at sample k the sets are the state box
abbrev pub sets_widened : Plant → List Sample → ℕ → Bool
sets_widened p samples zero = false
sets_widened p samples (suc k) = either_leaves p (sample_at samples k).inputs (corrected_sets p samples k)

-- e are the predicted sets of the sample that follows these
abbrev pub SetsReady : Plant → List Sample → Sets → Type 0
SetsReady p samples e = e ≡ predicted_sets p samples (length samples)

-- e are the corrected sets of the last of these samples
pub record SetsCorrected (p : Plant) (samples : List Sample) (e : Sets) : Type 0 where
  pub some : 1 ≤ length samples
  pub is : e ≡ corrected_sets p samples (length samples - 1)

-- room for the row of a reading, and for an image of each set
pub record HaveRoom (e : Sets) : Type 0 where
  pub plain : length e.plain.columns ≤ image_columns
  pub constrained : length e.constrained.base.columns ≤ constrained_columns + 1

-- where e is corrected by samples that end with the inputs u, e' are the sets predicted from there, and the test says whether
-- they are the state box
abbrev pub LeadsOn : Plant → List ℤ → Sets → Sets → Bool → Type 0
LeadsOn p u e e' test = (samples : List Sample) → SetsCorrected p samples e → (sample_at samples (length samples - 1)).inputs ≡ u
    → SetsReady p samples e' × (test ≡ sets_widened p samples (length samples))
