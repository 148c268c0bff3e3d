-- What is said of a model file that is refused.
use Rattle.std.specs.Prelude.{ℕ, List, [], ◌++◌, codes, decimal, Option, Some, None}
use Rattle.dec_text.specs.declared.reading.DecFault.{DecFault}
use Rattle.dec_text.specs.declared.reading.DecFault.TheVariants as dec
use Rattle.model_file.specs.Places.{field_text}
use Rattle.model_file.specs.declared.place.Field.{Field}
use Rattle.model_file.specs.declared.place.Count.{Count}
use Rattle.model_file.specs.declared.place.Path.{Path}
use Rattle.model_file.specs.declared.fault.ModelFault.{ModelFault}
use Rattle.model_file.specs.declared.fault.ModelFault.TheVariants as fault

-- an index in brackets, or nothing
abbrev pub index_text : Option ℕ → List ℕ
index_text None = []
index_text (Some i) = codes "[" ++ decimal i ++ codes "]"

-- a field outside the models or within one; the field `Models` within one is that model
abbrev pub field_place : Option ℕ → Field → List ℕ
field_place None f = field_text f
field_place (Some i) Field.Models = codes "model" ++ index_text (Some i)
field_place (Some i) f = codes "model" ++ index_text (Some i) ++ codes "." ++ field_text f

abbrev pub path_text : Path → List ℕ
path_text p = field_place p.model p.field ++ index_text p.row ++ index_text p.col

-- where there are too many of something; states and disturbances in the model `at`
abbrev pub count_place : Count → Option ℕ → List ℕ
count_place Count.Bytes at = codes "file"
count_place Count.Inputs at = field_text Field.Inputs
count_place Count.Outputs at = field_text Field.Outputs
count_place Count.Models at = field_text Field.Models
count_place Count.States at = field_place at Field.States
count_place Count.Disturbances at = field_place at Field.Disturbances

abbrev pub decimal_cause : DecFault → List ℕ
decimal_cause dec.Shape = codes "not a decimal"
decimal_cause dec.TooLarge = codes "too large"
decimal_cause dec.TooFine = codes "finer than 0.000000001"

abbrev pub shape_cause : ℕ → ℕ → List ℕ
shape_cause want got = decimal want ++ codes " entries wanted, " ++ decimal got ++ codes " found"

-- a cause at a place
abbrev pub refused_at : List ℕ → List ℕ → List ℕ
refused_at place cause = codes "model refused: " ++ place ++ codes ": " ++ cause

-- the line of a refusal, without its line feed; want of memory is no refusal
abbrev pub model_refusal : ModelFault → List ℕ
model_refusal fault.NotToml = codes "model refused: not TOML"
model_refusal (fault.Missing path) = refused_at (path_text path) (codes "missing")
model_refusal (fault.Kind path) = refused_at (path_text path) (codes "wrong kind")
model_refusal (fault.Decimal path why) = refused_at (path_text path) (decimal_cause why)
model_refusal (fault.Shape path want got) = refused_at (path_text path) (shape_cause want got)
model_refusal (fault.Over path) = refused_at (path_text path) (codes "out of range")
model_refusal (fault.Name path) = refused_at (path_text path) (codes "bad name")
model_refusal (fault.TooMany what got at) = refused_at (count_place what at) (codes "too many, " ++ decimal got)
model_refusal fault.Memory = codes "out of memory"
