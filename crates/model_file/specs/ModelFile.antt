-- What a model file says: the names and the models, or the first refusal in the order of the fields.
use Rattle.std.specs.Prelude.{ℕ, ◌+◌, ℤ, pos, negsuc, Bool, true, false, ◌==◌, nat_lt, if◌then◌else◌, List, [], ◌∷◌, length, None, Ok, Err}
use Rattle.std.specs.Str.{is_utf8}
use Rattle.toml.specs.Data.{Data, table, as_integer}
use Rattle.toml.specs.Parse.{parse_document}
use Rattle.dec_text.specs.Steps.{◌>>=◌, given, passing}
use Rattle.model_file.specs.Limits.{most_models}
use Rattle.model_file.specs.Places.{of_file, of_model}
use Rattle.model_file.specs.Reads.{Judged, value_at, of_kind, an_array, at_most, not_empty}
use Rattle.model_file.specs.Names.{inputs_of, outputs_of}
use Rattle.model_file.specs.Bank.{Models}
use Rattle.model_file.specs.Models.{models_from}
use Rattle.model_file.specs.declared.place.Field.{Field}
use Rattle.model_file.specs.declared.place.Count.{Count}
use Rattle.model_file.specs.declared.fault.ModelFault.TheVariants as fault

abbrev pub is_table : Data → Bool
is_table (table ms) = true
is_table _ = false

-- these values, where each is a table; the first that is none is refused at its place, from index i on
abbrev pub are_tables : ℕ → List Data → Judged (List Data)
are_tables i [] = Ok []
are_tables i (d ∷ ds) = passing is_table (fault.Kind (of_model i Field.Models)) d >>= λ t. are_tables (i + 1) ds >>= λ ts. Ok (t ∷ ts)

abbrev pub is_one : ℤ → Bool
is_one (pos n) = n == 1
is_one (negsuc n) = false

-- the version has to be 1
unfoldable pub version_of : Data → Judged (Unit {0})
version_of root =
    value_at (of_file Field.Version) root >>= λ v. of_kind (of_file Field.Version) (as_integer v)
    >>= passing is_one (fault.Kind (of_file Field.Version)) >>= λ one. Ok tt

-- the tables of the models, each seen to be a table before any is read
unfoldable pub tables_of : Data → Judged (List Data)
tables_of root =
    value_at (of_file Field.Models) root >>= an_array (of_file Field.Models) >>= at_most most_models Count.Models
    >>= not_empty (of_file Field.Models) >>= are_tables 0

-- what a document says
unfoldable pub models_in : Data → Judged Models
models_in root = do
  version ← version_of root
  inputs ← inputs_of root
  outputs ← outputs_of inputs root
  tables ← tables_of root
  models ← models_from (length inputs) (length outputs) [] 0 tables
  Ok (record { inputs = inputs; outputs = outputs; models = models })

-- the document that the bytes are, if they are text in TOML
unfoldable pub document_of : List ℕ → Judged Data
document_of bytes = given fault.NotToml (if is_utf8 bytes then parse_document bytes else None) >>= λ ms. Ok (table ms)

-- the greatest number of bytes of a model file
abbrev pub most_bytes : ℕ
most_bytes = 1_048_576

-- what a model file says
unfoldable pub models_of : List ℕ → Judged Models
models_of bytes =
    if nat_lt most_bytes (length bytes) then Err (fault.TooMany Count.Bytes (most_bytes + 1) None) else (document_of bytes >>= models_in)
