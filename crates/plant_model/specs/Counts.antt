-- How many of each thing a plant has at most.
use Rattle.std.specs.Prelude.{ℕ}

-- the most inputs
abbrev pub most_inputs : ℕ
most_inputs = 4

-- the most outputs
abbrev pub most_outputs : ℕ
most_outputs = 6

-- the most disturbances
abbrev pub most_disturbances : ℕ
most_disturbances = 8

-- the most names of inputs or of outputs
abbrev pub most_names : ℕ
most_names = 6

-- the most bytes of such a name
abbrev pub most_name_bytes : ℕ
most_name_bytes = 64
