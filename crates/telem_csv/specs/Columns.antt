-- The header of a telemetry file: the place of each column.
use Rattle.std.specs.Prelude.{◌≡◌, ◌<◌, ◌≤◌, ℕ, ◌+◌, All, Bool, true, false, if◌then◌else◌, List, [], ◌∷◌, length, bytes_eq}
use Rattle.std.specs.Prelude.{Result, Ok, Err}
use Rattle.dec_text.specs.Steps.{◌>>=◌, each_from}
use Rattle.dec_text.specs.Reading.{without_gaps}
use Rattle.telem_csv.specs.declared.fault.Col.{Col}
use Rattle.telem_csv.specs.declared.fault.TelemWhy.{TelemWhy}
use Rattle.telem_csv.specs.declared.fault.TelemWhy.TheVariants as why

-- i in front, where it is one of the places
abbrev pub place_if : Bool → ℕ → List ℕ → List ℕ
place_if here i places = if here then (i ∷ places) else places

-- the places of the fields that are this name, counted from i
abbrev pub places_from : ℕ → List ℕ → List (List ℕ) → List ℕ
places_from i name [] = []
places_from i name (f ∷ fs) = place_if (bytes_eq (without_gaps f) name) i (places_from (i + 1) name fs)

-- the one place
abbrev pub only_place : Col → List ℕ → Result ℕ TelemWhy
only_place col [] = Err (why.NoColumn col)
only_place col (p ∷ []) = Ok p
only_place col (p ∷ q ∷ ps) = Err (why.TwiceColumn col)

-- the column of input i or of output i
abbrev pub column : Bool → ℕ → Col
column is_input i = record { input = is_input; index = i }

-- the place of the column that has the name
abbrev pub place_of : Bool → List (List ℕ) → ℕ → List ℕ → Result ℕ TelemWhy
place_of is_input fields i name = only_place (column is_input i) (places_from 0 name fields)

abbrev pub places_of : Bool → List (List ℕ) → List (List ℕ) → Result (List ℕ) TelemWhy
places_of is_input fields names = each_from 0 (place_of is_input fields) names

-- how many fields a row has, and which of them are the inputs and the outputs
pub record Columns : Type 0 where
  pub width : ℕ
  pub inputs : List ℕ
  pub outputs : List ℕ

-- the columns of a header with these fields, for inputs and outputs of these names
abbrev pub columns_of : List (List ℕ) → List (List ℕ) → List (List ℕ) → Result Columns TelemWhy
columns_of inputs outputs fields = do
  ins ← places_of true fields inputs
  outs ← places_of false fields outputs
  Ok (record { width = length fields; inputs = ins; outputs = outs })

-- the limits of columns: each stands in the row
pub record IsColumns (c : Columns) : Type 0 where
  pub inputs_within : All (λ place. place < c.width) c.inputs
  pub outputs_within : All (λ place. place < c.width) c.outputs
  pub few_inputs : length c.inputs ≤ 4
  pub few_outputs : length c.outputs ≤ 6

-- as many columns as names
abbrev pub AreFor : List (List ℕ) → List (List ℕ) → Columns → Type 0
AreFor inputs outputs c = (length c.inputs ≡ length inputs) × (length c.outputs ≡ length outputs)
