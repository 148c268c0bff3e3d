-- Names of columns and of models.
use Rattle.std.specs.Prelude.{ℕ, ◌+◌, ◌-◌, Bool, ◌&&◌, not, ◌==◌, nat_lt, nat_le, List, [], ◌∷◌}
use Rattle.std.specs.Prelude.{◌++◌, length, slice_index, bytes_eq, Option, Some, None, Ok}
use Rattle.std.specs.List.{list_all, list_any}
use Rattle.toml.specs.Data.{Data, get, as_str}
use Rattle.dec_text.specs.Steps.{◌>>=◌, passing}
use Rattle.plant_model.specs.Counts.{most_inputs, most_outputs, most_name_bytes}
use Rattle.model_file.specs.Limits.{most_model_name_bytes}
use Rattle.model_file.specs.Places.{field_text, of_file, of_model, item_of}
use Rattle.model_file.specs.Reads.{Judged, value_at, of_kind, an_array, at_most, not_empty}
use Rattle.model_file.specs.declared.place.Field.{Field}
use Rattle.model_file.specs.declared.place.Count.{Count}
use Rattle.model_file.specs.declared.place.Path.{Path}
use Rattle.model_file.specs.declared.fault.ModelFault.TheVariants as fault

abbrev pub has_no_outer_spaces : List ℕ → Bool
has_no_outer_spaces text = not (slice_index text 0 == 32) && not (slice_index text (length text - 1) == 32)

-- of 1 to so many bytes that each pass, with no space at an end
abbrev pub is_name : (ℕ → Bool) → ℕ → List ℕ → Bool
is_name byte most text = (nat_lt 0 (length text) && nat_le (length text) most) && (list_all byte text && has_no_outer_spaces text)

abbrev pub is_column_byte : ℕ → Bool
is_column_byte b = nat_le 32 b && not (b == 127)

abbrev pub is_printable : ℕ → Bool
is_printable b = nat_le 32 b && nat_le b 126

abbrev pub is_column_name : List ℕ → Bool
is_column_name text = is_name is_column_byte most_name_bytes text

abbrev pub is_model_name : List ℕ → Bool
is_model_name text = is_name is_printable most_model_name_bytes text

-- a text in the form of a name that is none of the earlier ones
abbrev pub new_name : (List ℕ → Bool) → List (List ℕ) → Path → Data → Judged (List ℕ)
new_name form earlier path d = of_kind path (as_str d) >>= passing (λ t. form t && not (list_any (bytes_eq t) earlier)) (fault.Name path)

-- the column names of an array at a place, from index i on, after those before it
abbrev pub columns_from : Path → ℕ → List (List ℕ) → List Data → Judged (List (List ℕ))
columns_from path i earlier [] = Ok []
columns_from path i earlier (d ∷ ds) =
    new_name is_column_name earlier (item_of path i) d >>= λ t. columns_from path (i + 1) (earlier ++ t ∷ []) ds >>= λ ts. Ok (t ∷ ts)

abbrev pub inputs_in : Option Data → Judged (List (List ℕ))
inputs_in None = Ok []
inputs_in (Some d) = an_array (of_file Field.Inputs) d >>= at_most most_inputs Count.Inputs >>= columns_from (of_file Field.Inputs) 0 []

-- the names of the inputs, whose array may be absent
unfoldable pub inputs_of : Data → Judged (List (List ℕ))
inputs_of root = inputs_in (get (field_text Field.Inputs) root)

-- the names of the outputs, which differ from those of the inputs
unfoldable pub outputs_of : List (List ℕ) → Data → Judged (List (List ℕ))
outputs_of inputs root =
    value_at (of_file Field.Outputs) root >>= an_array (of_file Field.Outputs) >>= at_most most_outputs Count.Outputs
    >>= not_empty (of_file Field.Outputs) >>= columns_from (of_file Field.Outputs) 0 inputs

-- the name of model i, after those of the models before it
unfoldable pub name_of : List (List ℕ) → ℕ → Data → Judged (List ℕ)
name_of earlier i model = value_at (of_model i Field.Name) model >>= new_name is_model_name earlier (of_model i Field.Name)
