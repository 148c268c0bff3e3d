-- Numbers of a model, in nano-units.
use Rattle.std.specs.Prelude.{ℕ, ◌+◌, ◌*◌, ℤ, pos, ◌*ℤ◌, unsigned_abs, Bool, ◌&&◌, ◌==◌, nat_le, int_le}
use Rattle.std.specs.Prelude.{if◌then◌else◌, List, [], ◌∷◌, replicate, slice_set, Result, Ok, Err}
use Rattle.toml.specs.Data.{Data, integer, string}
use Rattle.dec_text.specs.Decimal.{exact_of}
use Rattle.dec_text.specs.declared.reading.DecFault.{DecFault}
use Rattle.set_rules.specs.Columns.{at}
use Rattle.set_rules.specs.Zono.{range}
use Rattle.dec_text.specs.Steps.{◌>>=◌, passing, each_from}
use Rattle.model_file.specs.Places.{item_of, entry_of}
use Rattle.model_file.specs.Reads.{Judged, value_at, array_of}
use Rattle.model_file.specs.declared.place.Path.{Path}
use Rattle.model_file.specs.declared.fault.ModelFault.TheVariants as fault

-- a decimal that was read, or the refusal of its text
abbrev pub decimal_in : Path → Result ℤ DecFault → Judged ℤ
decimal_in path (Ok z) = Ok z
decimal_in path (Err why) = Err (fault.Decimal path why)

-- an integer is units, a text is a decimal
abbrev pub number_in : Path → Data → Judged ℤ
number_in path (integer z) = Ok (z *ℤ pos 1_000_000_000)
number_in path (string text) = decimal_in path (exact_of text)
number_in path _ = Err (fault.Kind path)

-- at most so far from zero
abbrev pub is_within : ℕ → ℤ → Bool
is_within most z = nat_le (unsigned_abs z) most

-- from the least number to the end of the range
abbrev pub is_from : ℤ → ℤ → Bool
is_from least z = int_le least z && is_within range z

-- a number that passes the test
abbrev pub entry : (ℤ → Bool) → Path → Data → Judged ℤ
entry test path d = number_in path d >>= passing test (fault.Over path)

-- a list with xs written over it from place k on
abbrev pub written : List ℤ → ℕ → List ℤ → List ℤ
written m k [] = m
written m k (x ∷ xs) = written (slice_set m k x) (k + 1) xs

-- a matrix of this width with rows written over it from row r on
abbrev pub rows_written : ℕ → List ℤ → ℕ → List (List ℤ) → List ℤ
rows_written width m r [] = m
rows_written width m r (row ∷ rows) = rows_written width (written m (r * width) row) (r + 1) rows

abbrev pub zeros : ℕ → List ℤ
zeros n = replicate n (pos 0)

-- so many numbers, each passing the test at its index, at the front of a list of zeros of this length
unfoldable pub vector : ℕ → (ℕ → ℤ → Bool) → Path → ℕ → Data → Judged (List ℤ)
vector room test path want model =
    value_at path model >>= array_of want path >>= each_from 0 (λ i. entry (test i) (item_of path i))
    >>= λ xs. Ok (written (zeros room) 0 xs)

-- the row of a matrix at a place
abbrev pub row_of : ℕ → Path → ℕ → Data → Judged (List ℤ)
row_of most path width d = array_of width path d >>= each_from 0 (λ c. entry (is_within most) (entry_of path c))

-- a matrix of this width with an entry read into its place, or with a row read into row r
abbrev pub entry_written : ℕ → ℕ → Path → List ℤ → ℕ → ℕ → Data → Judged (List ℤ)
entry_written wide most path m r c d = entry (is_within most) path d >>= λ z. Ok (slice_set m (r * wide + c) z)

abbrev pub row_written : ℕ → ℕ → Path → List ℤ → ℕ → ℕ → Data → Judged (List ℤ)
row_written wide most path m width r d = row_of most path width d >>= λ xs. Ok (written m (r * wide) xs)

-- rows of numbers within a limit, in the corner of a matrix of zeros of this height and width
unfoldable pub matrix : ℕ → ℕ → ℕ → Path → ℕ → ℕ → Data → Judged (List ℤ)
matrix high wide most path height width model =
    value_at path model >>= array_of height path >>= each_from 0 (λ r. row_of most (item_of path r) width)
    >>= λ rows. Ok (rows_written wide (zeros (high * wide)) 0 rows)

-- a matrix of no columns is not read
unfoldable pub matrix_unless_empty : ℕ → ℕ → ℕ → Path → ℕ → ℕ → Data → Judged (List ℤ)
matrix_unless_empty high wide most path height width model =
    if width == 0 then Ok (zeros (high * wide)) else matrix high wide most path height width model

-- an amount that does not lead out of the range from the centre
abbrev pub is_radius : List ℤ → ℕ → ℤ → Bool
is_radius centre i z = is_from (pos 0) z && nat_le (unsigned_abs (at centre i) + unsigned_abs z) range

-- a list with a number that passes the test read into place i
abbrev pub number_written : (ℤ → Bool) → Path → List ℤ → ℕ → Data → Judged (List ℤ)
number_written test path m i d = entry test path d >>= λ z. Ok (slice_set m i z)
