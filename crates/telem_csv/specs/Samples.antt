-- The samples that the code makes.
use Rattle.std.specs.Prelude.{◌≡◌, length}
use Rattle.plant_model.specs.declared.sample.Sample as row
use Rattle.telem_csv.specs.Columns.{Columns}

-- a sample with a value for each column
abbrev pub IsSampleFor : Columns → row.Sample → Type 0
IsSampleFor head s = (length s.u.items ≡ length head.inputs) × (length s.y.items ≡ length head.outputs)
