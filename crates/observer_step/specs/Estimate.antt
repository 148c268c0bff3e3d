-- One set that follows a plant through its telemetry by itself, in turns of prediction and correction (after Combastel 2003).
-- It is widened where its own image leaves the range. The plain set of an estimate takes the same steps (`Sets`).
use Rattle.std.specs.Prelude.{◌+◌, ◌*◌, ℕ, zero, suc, List, replicate, Option, Some, None, ℤ, pos, ◌+ℤ◌}
use Rattle.std.specs.Prelude.{Bool, false, not, if◌then◌else◌}
use Rattle.set_rules.specs.Columns.{at}
use Rattle.set_rules.specs.Zono.{Zono}
use Rattle.set_rules.specs.Rows.{Row}
use Rattle.set_rules.specs.Image.{image}
use Rattle.set_rules.specs.Reduce.{reduce_set}
use Rattle.set_rules.specs.Strip.{strip_row}
use Rattle.set_rules.specs.Gain.{gain, substitute, in_range}
use Rattle.set_rules.specs.Box.{box}
use Rattle.set_rules.specs.Limits.{plain_columns, most_states}
use Rattle.plant_model.specs.Plant.{Plant, Present, Sample, sample_at, reading_at, shift_of, through_of, output_row}
use Rattle.observer_step.specs.Predicted.{first_set}

-- all states within the bounds of the plant
abbrev pub state_box : Plant → Zono
state_box p = box p.states (replicate p.states (pos 0)) p.state_max

-- the set reduced to the columns that it keeps between samples
abbrev pub trim : ℕ → Zono → Zono
trim n z = reduce_set n plain_columns z

-- the image of a set under the plant with the inputs u
abbrev pub image_of : Plant → List ℤ → Zono → Zono
image_of p u z = image p.states p.disturbances p.a (shift_of p u) p.e z

-- the image leaves the range
abbrev pub leaves_range : Plant → List ℤ → Zono → Bool
leaves_range p u z = not (in_range p.states (image_of p u (trim p.states z)))

-- the set one sample later: its image, or where that leaves the range the state box
unfoldable pub predict : Plant → List ℤ → Zono → Zono
predict p u z = if leaves_range p u z then state_box p else image_of p u (trim p.states z)

-- the row of a reading of output o
abbrev pub row_of : Plant → List ℤ → ℕ → Present → Zono → Row
row_of p u o r z = strip_row p.states (output_row p o) (through_of p u o) r.value (at p.noise o +ℤ r.slack) z

-- the set after a row: substituted by its gains where that is used, and reduced
abbrev pub take_row : ℕ → Row → Zono → Zono
take_row n row z = trim n (substitute n (gain n z.columns row.coefficients) row z)

-- the set after one reading, if there is one
unfoldable pub correct_reading : Plant → List ℤ → ℕ → Option Present → Zono → Zono
correct_reading p u o None z = z
correct_reading p u o (Some r) z = take_row p.states (row_of p u o r z) z

-- the set after the readings of the first m outputs, in order
unfoldable pub corrected_after : Plant → Sample → ℕ → Zono → Zono
corrected_after p s zero z = z
corrected_after p s (suc m) z = correct_reading p s.inputs m (reading_at s m) (corrected_after p s m z)

-- the set after all readings of a sample
abbrev pub correct : Plant → Sample → Zono → Zono
correct p s z = corrected_after p s p.outputs z

-- the predicted set at sample k, before its readings
unfoldable pub predicted_set : Plant → List Sample → ℕ → Zono
predicted_set p samples zero = first_set p
predicted_set p samples (suc k) = predict p (sample_at samples k).inputs (correct p (sample_at samples k) (predicted_set p samples k))

-- the corrected set at sample k
abbrev pub corrected_set : Plant → List Sample → ℕ → Zono
corrected_set p samples k = correct p (sample_at samples k) (predicted_set p samples k)

-- at sample k the set is the state box
abbrev pub is_widened : Plant → List Sample → ℕ → Bool
is_widened p samples zero = false
is_widened p samples (suc k) = leaves_range p (sample_at samples k).inputs (corrected_set p samples k)

-- the most columns of an image of a set that was reduced
abbrev pub image_columns : ℕ
image_columns = plain_columns + 2 * most_states
