-- The demonstration's samples, their text, and the trajectory behind them.
use Rattle.std.specs.Prelude.{ℕ, List, [], ◌∷◌, ◌++◌, codes, map, pos}
use Rattle.std.specs.List.{flat_map}
use Rattle.fixed_mat.specs.declared.reading.Reading.TheVariants.{Value}
use Rattle.dec_text.specs.Printed.{printed}
use Rattle.plant_model.specs.Plant.{Sample, Trajectory}
use Rattle.sim_gen.specs.Process.{moments}
use Rattle.sim_gen.specs.declared.process.Moment.{Moment}

-- the row of telemetry of a sample: one input, and one reading that is exact in nano-units
abbrev pub sample_of : Moment → Sample
sample_of m = record { inputs = m.input ∷ []; readings = Value m.reading (pos 0) ∷ [] }

-- the rows of a seed
abbrev pub samples_of : ℕ → ℕ → List Sample
samples_of seed samples = map sample_of (moments seed samples)

abbrev pub header_line : List ℕ
header_line = codes "u,y\n"

-- the line of a sample: its input and its reading, in units with nine decimals
abbrev pub line_of : Moment → List ℕ
line_of m = printed m.input ++ 44 ∷ (printed m.reading ++ 10 ∷ [])

-- the header, and a line for each sample
abbrev pub text_of : List Moment → List ℕ
text_of ms = header_line ++ flat_map line_of ms

abbrev pub telemetry_text : ℕ → ℕ → List ℕ
telemetry_text seed samples = text_of (moments seed samples)

-- what so many samples are in halves of a nano-unit
abbrev pub trajectory_of : List Moment → Trajectory
trajectory_of ms = record { denominator = 2; states = map (λ m. m.states) ms; disturbances = map (λ m. m.dists) ms }

-- the trajectory of a seed over so many samples
abbrev pub trajectory : ℕ → ℕ → Trajectory
trajectory seed samples = trajectory_of (moments seed samples)

-- a made demonstration: the bytes of its model file and of its telemetry, and its trajectory
pub record Demonstration : Type 0 where
  pub model : List ℕ
  pub telemetry : List ℕ
  pub trajectory : Trajectory
