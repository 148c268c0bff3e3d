-- A plant, its telemetry, and the trajectories that obey it. No set stands here.
use Rattle.std.specs.Prelude.{◌≡◌, ℕ, ◌+◌, ◌*◌, ◌<◌, ◌≤◌, List, [], length, take, slice_index_or, Option}
use Rattle.std.specs.Prelude.{Some, None, IfSome, All, unsigned_abs, ℤ, pos, ◌+ℤ◌, ◌-ℤ◌, ◌*ℤ◌, ◌≤ℤ◌}
use Rattle.set_rules.specs.Sum.{total, magnitude}
use Rattle.set_rules.specs.Columns.{at, entry, tabulate}
use Rattle.set_rules.specs.Image.{IsStep}
use Rattle.set_rules.specs.Strip.{Reads}
use Rattle.set_rules.specs.Zono.{range}
use Rattle.set_rules.specs.Limits.{coef, input_limit, most_states}
use Rattle.plant_model.specs.Counts.{most_inputs, most_outputs, most_disturbances}
use Rattle.fixed_mat.specs.declared.reading.Reading.{Reading}
use Rattle.fixed_mat.specs.declared.reading.Reading.TheVariants.{Missing, Value}

-- the counts, the matrices row by row, and the bounds; `b` and `d` have 4 columns, `e` has 8
pub record Plant : Type 0 where
  pub states : ℕ
  pub inputs : ℕ
  pub outputs : ℕ
  pub disturbances : ℕ
  pub a : List ℤ
  pub b : List ℤ
  pub c : List ℤ
  pub d : List ℤ
  pub e : List ℤ
  pub noise : List ℤ
  pub centre : List ℤ
  pub radius : List ℤ
  pub state_max : List ℤ

-- the entries are within the limit
abbrev pub AllWithinLimit : ℕ → List ℤ → Type 0
AllWithinLimit limit xs = All (λ v. unsigned_abs v ≤ limit) xs

-- and not negative
abbrev pub AllSizes : ℕ → List ℤ → Type 0
AllSizes limit xs = All (λ v. (pos 0 ≤ℤ v) × (v ≤ℤ pos limit)) xs

-- what the matrices of a plant keep, whatever its counts are: no entry is past its limit
pub record HasSmallEntries (p : Plant) : Type 0 where
  pub a_small : AllWithinLimit coef p.a
  pub b_small : AllWithinLimit coef p.b
  pub c_small : AllWithinLimit coef p.c
  pub d_small : AllWithinLimit coef p.d
  pub e_small : AllWithinLimit range p.e
  pub noise_small : AllWithinLimit range p.noise
  pub centre_small : AllWithinLimit range p.centre
  pub radius_small : AllWithinLimit range p.radius
  pub bound_small : AllWithinLimit range p.state_max

-- the noise of each output
abbrev pub noises : Plant → List ℤ
noises p = take p.outputs p.noise

-- the limits of a plant
pub record IsPlant (p : Plant) : Type 0 where
  pub some_state : 1 ≤ p.states
  pub few_states : p.states ≤ most_states
  pub few_inputs : p.inputs ≤ most_inputs
  pub some_output : 1 ≤ p.outputs
  pub few_outputs : p.outputs ≤ most_outputs
  pub few_disturbances : p.disturbances ≤ most_disturbances
  pub a_small : AllWithinLimit coef p.a
  pub b_small : AllWithinLimit coef p.b
  pub c_small : AllWithinLimit coef p.c
  pub d_small : AllWithinLimit coef p.d
  pub e_small : AllWithinLimit range p.e
  pub centre_small : AllWithinLimit range p.centre
  pub noise_size : AllSizes range (noises p)
  pub radius_size : AllSizes range p.radius
  pub bound_size : AllSizes range p.state_max
  pub box_small : (i : ℕ) → i < p.states → (magnitude (at p.centre i) +ℤ at p.radius i) ≤ℤ pos range

-- how long the lists of a plant are: those that lie in a wider or a higher matrix are filled up
pub record IsShaped (p : Plant) : Type 0 where
  pub a_size : length p.a ≡ p.states * p.states
  pub b_size : length p.b ≡ p.states * 4
  pub c_size : length p.c ≡ 6 * p.states
  pub d_size : length p.d ≡ 24
  pub e_size : length p.e ≡ p.states * 8
  pub noise_size : length p.noise ≡ 6
  pub centre_size : length p.centre ≡ p.states
  pub radius_size : length p.radius ≡ p.states
  pub bound_size : length p.state_max ≡ p.states

-- a reading that is present: its value, and how far the text may lie from it
pub record Present : Type 0 where
  pub value : ℤ
  pub slack : ℤ

-- the reading, where it is present
abbrev pub known : Reading → Option Present
known Missing = None
known (Value v slack) = Some (record { value = v; slack = slack })

-- one row of telemetry: the inputs, and a reading for each output
pub record Sample : Type 0 where
  pub inputs : List ℤ
  pub readings : List Reading

-- the row of these inputs and readings
abbrev pub row_of : List ℤ → List Reading → Sample
row_of inputs readings = record { inputs = inputs; readings = readings }

-- the limits of a reading
abbrev pub IsReading : Reading → Type 0
IsReading r = IfSome (known r) (λ p. (unsigned_abs p.value ≤ range) × (pos 0 ≤ℤ p.slack) × (p.slack ≤ℤ pos 1))

-- the limits of a sample
pub record IsSample (s : Sample) : Type 0 where
  pub inputs_small : AllWithinLimit input_limit s.inputs
  pub readings_small : All IsReading s.readings

-- the sample past the last: nothing is read
abbrev pub no_sample : Sample
no_sample = record { inputs = []; readings = [] }

-- sample k
abbrev pub sample_at : List Sample → ℕ → Sample
sample_at samples k = slice_index_or samples k no_sample

-- the reading of output o
abbrev pub reading_at : Sample → ℕ → Option Present
reading_at sample o = known (slice_index_or sample.readings o Missing)

-- what the inputs u add to each state, a unit times too large
abbrev pub shift_of : Plant → List ℤ → List ℤ
shift_of p u = tabulate p.states (λ i. total p.inputs (λ l. entry 4 p.b i l *ℤ at u l))

-- what the inputs u add to output o, a unit times too large
abbrev pub through_of : Plant → List ℤ → ℕ → ℤ
through_of p u o = total p.inputs (λ l. entry 4 p.d o l *ℤ at u l)

-- how output o depends on the states
abbrev pub output_row : Plant → ℕ → List ℤ
output_row p o = tabulate p.states (λ l. entry p.states p.c o l)

-- the states X / q and the disturbances W / q, one list for each sample
pub record Trajectory : Type 0 where
  pub denominator : ℕ
  pub states : List (List ℤ)
  pub disturbances : List (List ℤ)

-- the states at sample k, and the disturbances of the step from it
abbrev pub states_at : Trajectory → ℕ → List ℤ
states_at x k = slice_index_or x.states k []

abbrev pub disturbances_at : Trajectory → ℕ → List ℤ
disturbances_at x k = slice_index_or x.disturbances k []

-- x is a trajectory of the plant up to sample k: where it starts, how it moves, what is read, and its bounds
pub record Obeys (p : Plant) (samples : List Sample) (k : ℕ) (x : Trajectory) : Type 0 where
  pub positive : 1 ≤ x.denominator
  pub starts : (i : ℕ) → i < p.states →
      magnitude (at (states_at x 0) i -ℤ pos x.denominator *ℤ at p.centre i) ≤ℤ (pos x.denominator *ℤ at p.radius i)
  pub moves : (j : ℕ) → j < k → IsStep p.states p.disturbances p.a (shift_of p (sample_at samples j).inputs) p.e x.denominator
      (states_at x j) (states_at x (j + 1)) (disturbances_at x j)
  pub reads : (j : ℕ) → j ≤ k → (o : ℕ) → o < p.outputs → IfSome (reading_at (sample_at samples j) o) (λ r.
      Reads p.states (output_row p o) (through_of p (sample_at samples j).inputs o) x.denominator (states_at x j) r.value
      (at p.noise o +ℤ r.slack))
  pub bounded : (j : ℕ) → j ≤ k → (i : ℕ) → i < p.states →
      magnitude (at (states_at x j) i) ≤ℤ (pos x.denominator *ℤ at p.state_max i)

-- some trajectory explains the telemetry up to sample k
abbrev pub Consistent : Plant → List Sample → ℕ → Type 0
Consistent p samples k = (x : Trajectory) × Obeys p samples k x
