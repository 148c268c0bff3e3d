-- How many of each thing a model file has at most.
use Rattle.std.specs.Prelude.{ℕ}

-- the most models
abbrev pub most_models : ℕ
most_models = 16

-- the most states and the most disturbances of a model, and so the most entries of an array of numbers
abbrev pub most_entries : ℕ
most_entries = 8

-- the most bytes of the name of a model
abbrev pub most_model_name_bytes : ℕ
most_model_name_bytes = 32
