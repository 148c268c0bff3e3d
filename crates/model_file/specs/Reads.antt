-- Values of the document by their keys and kinds.
use Rattle.std.specs.Prelude.{ℕ, ◌==◌, nat_lt, nat_le, List, [], ◌∷◌, length, Option, None, Result, Ok, Err}
use Rattle.toml.specs.Data.{Data, Items, no_items, item, get, as_array}
use Rattle.dec_text.specs.Steps.{◌>>=◌, given, passing}
use Rattle.model_file.specs.Places.{field_text}
use Rattle.model_file.specs.declared.place.Count.{Count}
use Rattle.model_file.specs.declared.place.Path.{Path}
use Rattle.model_file.specs.declared.fault.ModelFault.{ModelFault}
use Rattle.model_file.specs.declared.fault.ModelFault.TheVariants as fault

-- an answer about the file
abbrev pub Judged : Type 0 → Type 0
Judged A = Result A ModelFault

-- the value at the key of a place, which has to be there
abbrev pub value_at : Path → Data → Judged Data
value_at path d = given (fault.Missing path) (get (field_text path.field) d)

-- a value of the kind that is asked
abbrev pub of_kind : {A : Type 0} → Path → Option A → Judged A
of_kind path o = given (fault.Kind path) o

abbrev pub list_of : Items → List Data
list_of no_items = []
list_of (item d ds) = d ∷ list_of ds

abbrev pub an_array : Path → Data → Judged (List Data)
an_array path d = of_kind path (as_array d) >>= λ ds. Ok (list_of ds)

-- exactly so many
abbrev pub of_length : ℕ → Path → List Data → Judged (List Data)
of_length want path ds = passing (λ xs. length xs == want) (fault.Shape path want (length ds)) ds

-- at most so many
abbrev pub at_most : ℕ → Count → List Data → Judged (List Data)
at_most most what ds = passing (λ xs. nat_le (length xs) most) (fault.TooMany what (length ds) None) ds

-- at least one
abbrev pub not_empty : Path → List Data → Judged (List Data)
not_empty path ds = passing (λ xs. nat_lt 0 (length xs)) (fault.Shape path 1 (length ds)) ds

-- an array of exactly so many
abbrev pub array_of : ℕ → Path → Data → Judged (List Data)
array_of want path d = an_array path d >>= of_length want path

-- the answer, seen as f sees it
abbrev pub map_ok : {A B E : Type 0} → (A → B) → Result A E → Result B E
map_ok f (Ok x) = Ok (f x)
map_ok f (Err e) = Err e
