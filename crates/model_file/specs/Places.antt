-- Places in a model file, and the names of its fields.
use Rattle.std.specs.Prelude.{ℕ, List, codes, Some, None}
use Rattle.model_file.specs.declared.place.Field.{Field}
use Rattle.model_file.specs.declared.place.Path.{Path}

-- the key of a field
abbrev pub field_text : Field → List ℕ
field_text Field.Version = codes "version"
field_text Field.Inputs = codes "inputs"
field_text Field.Outputs = codes "outputs"
field_text Field.Models = codes "model"
field_text Field.Name = codes "name"
field_text Field.States = codes "states"
field_text Field.Disturbances = codes "disturbances"
field_text Field.A = codes "A"
field_text Field.B = codes "B"
field_text Field.C = codes "C"
field_text Field.D = codes "D"
field_text Field.E = codes "E"
field_text Field.Noise = codes "noise"
field_text Field.Centre = codes "centre"
field_text Field.Radius = codes "radius"
field_text Field.StateMax = codes "state_max"

-- a field outside the models
abbrev pub of_file : Field → Path
of_file f = record { model = None; field = f; row = None; col = None }

-- a field of model i; the field `Models` stands for the model itself
abbrev pub of_model : ℕ → Field → Path
of_model i f = record { model = Some i; field = f; row = None; col = None }

-- item r of the array at a place, or row r of the matrix
abbrev pub item_of : Path → ℕ → Path
item_of path r = record path { row = Some r }

-- entry c of the row at a place
abbrev pub entry_of : Path → ℕ → Path
entry_of path c = record path { col = Some c }
