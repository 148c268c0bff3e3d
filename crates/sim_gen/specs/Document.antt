-- The document of the demonstration's model file: the text that is read, and the table that it is.
use Rattle.std.specs.Prelude.{ℕ, ◌+◌, List, [], ◌∷◌, ◌++◌, codes, pos}
use Rattle.toml.specs.Data.{Data, string, integer, array, table, Members, no_members, member}
use Rattle.toml.specs.View.{items_of}

-- what stands before the models
abbrev pub head_text : List ℕ
head_text = codes "version = 1\ninputs = [\"u\"]\noutputs = [\"y\"]\n"

-- a digit
abbrev pub digit_text : ℕ → List ℕ
digit_text n = (48 + n) ∷ []

-- what stands behind the gain in a model's table
abbrev pub rest_text : List ℕ
rest_text =
    codes "]]\nC = [[1, 0]]\nD = [[0]]\nE = [[\"0.000000001\", 0, 0], [0, \"0.000000001\", \"0.01\"]]\nnoise = [\"0.05\"]\n"
    ++ codes "centre = [0, 0]\nradius = [1, 1]\nstate_max = [1000, 1000]\n"

-- a model's table
abbrev pub model_text : List ℕ → ℕ → ℕ → List ℕ
model_text name coupling gain =
    codes "\n[[model]]\nname = \"" ++ name ++ codes "\"\nstates = 2\ndisturbances = 3\nA = [[\"0.5\", " ++ digit_text coupling
    ++ codes "], [0, \"0.5\"]]\nB = [[0], [" ++ digit_text gain ++ rest_text

-- the whole text, of the true model and of the other
abbrev pub document_text : ℕ → ℕ → List ℕ
document_text coupling gain = head_text ++ model_text (codes "true") coupling gain ++ model_text (codes "other") coupling (gain + 1)

-- an array of these values
abbrev pub row : List Data → Data
row ds = array (items_of ds)

-- a whole number, and an array of two
abbrev pub whole : ℕ → Data
whole n = integer (pos n)

abbrev pub pair : ℕ → ℕ → Data
pair m n = row (whole m ∷ whole n ∷ [])

-- the table of a model, its keys in order
abbrev pub model_table : List ℕ → ℕ → ℕ → Data
model_table name coupling gain =
    let half = string (codes "0.5") in
    let least = string (codes "0.000000001") in
    table (member (codes "A") (row (row (half ∷ whole coupling ∷ []) ∷ row (whole 0 ∷ half ∷ []) ∷ []))
    (member (codes "B") (row (row (whole 0 ∷ []) ∷ row (whole gain ∷ []) ∷ []))
    (member (codes "C") (row (pair 1 0 ∷ []))
    (member (codes "D") (row (row (whole 0 ∷ []) ∷ []))
    (member (codes "E") (row (row (least ∷ whole 0 ∷ whole 0 ∷ []) ∷ row (whole 0 ∷ least ∷ string (codes "0.01") ∷ []) ∷ []))
    (member (codes "centre") (pair 0 0)
    (member (codes "disturbances") (whole 3)
    (member (codes "name") (string name)
    (member (codes "noise") (row (string (codes "0.05") ∷ []))
    (member (codes "radius") (pair 1 1)
    (member (codes "state_max") (pair 1_000 1_000)
    (member (codes "states") (whole 2) no_members))))))))))))

-- the whole table, its keys in order
abbrev pub members_with : ℕ → ℕ → Members
members_with coupling gain =
    member (codes "inputs") (row (string (codes "u") ∷ []))
    (member (codes "model") (row (model_table (codes "true") coupling gain ∷ model_table (codes "other") coupling (gain + 1) ∷ []))
    (member (codes "outputs") (row (string (codes "y") ∷ []))
    (member (codes "version") (whole 1) no_members)))
