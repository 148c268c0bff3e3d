-- A row of a telemetry file, and the rows up to the first that is refused.
use Rattle.std.specs.Prelude.{ℕ, ◌+◌, ◌-◌, ℤ, unsigned_abs, true, false, ◌==◌, nat_le, List, [], ◌∷◌, length, slice_index_or}
use Rattle.std.specs.Prelude.{Option, Some, None, Result, Ok, Err}
use Rattle.fixed_mat.specs.declared.reading.Reading.{Reading}
use Rattle.fixed_mat.specs.declared.reading.Reading.TheVariants.{Missing, Value}
use Rattle.dec_text.specs.Steps.{◌>>=◌, passing, each_from}
use Rattle.dec_text.specs.Reading.{reading_of}
use Rattle.dec_text.specs.declared.reading.DecFault.{DecFault}
use Rattle.dec_text.specs.declared.reading.DecFault.TheVariants.{TooLarge}
use Rattle.plant_model.specs.Plant.{Sample}
use Rattle.telem_csv.specs.Columns.{column, Columns}
use Rattle.telem_csv.specs.Lines.{RawLine, line_text, fields_in, taken_by}
use Rattle.telem_csv.specs.declared.fault.Col.{Col}
use Rattle.telem_csv.specs.declared.fault.TelemFault.{TelemFault}
use Rattle.telem_csv.specs.declared.fault.TelemWhy.{TelemWhy}
use Rattle.telem_csv.specs.declared.fault.TelemWhy.TheVariants as why

-- the reading of a column
abbrev pub named : Col → Result Reading DecFault → Result Reading TelemWhy
named col (Ok r) = Ok r
named col (Err e) = Err (why.Field col e)

-- the reading in the field at a place, of column col
abbrev pub reading_in : Col → List (List ℕ) → ℕ → Result Reading TelemWhy
reading_in col fields place = named col (reading_of (slice_index_or fields place []))

-- an input is present and within a million units
abbrev pub input_value : ℕ → Reading → Result ℤ TelemWhy
input_value i Missing = Err (why.NoInput i)
input_value i (Value v slack) = passing (λ z. nat_le (unsigned_abs z) 1000000000000000) (why.Field (column true i) TooLarge) v

abbrev pub input_in : List (List ℕ) → ℕ → ℕ → Result ℤ TelemWhy
input_in fields i place = reading_in (column true i) fields place >>= input_value i

abbrev pub output_in : List (List ℕ) → ℕ → ℕ → Result Reading TelemWhy
output_in fields i place = reading_in (column false i) fields place

-- the sample of a row with these fields
abbrev pub row_sample : Columns → List (List ℕ) → Result Sample TelemWhy
row_sample head fields = do
  row ← passing (λ fs. length fs == head.width) (why.Ragged head.width (length fields)) fields
  u ← each_from 0 (input_in row) head.inputs
  y ← each_from 0 (output_in row) head.outputs
  Ok (record { inputs = u; readings = y })

-- what is read from the fields of a line that is not blank
abbrev pub if_any : {A : Type 0} → (List (List ℕ) → Result A TelemWhy) → Option (List (List ℕ)) → Result (Option A) TelemWhy
if_any read None = Ok None
if_any read (Some fields) = read fields >>= λ x. Ok (Some x)

-- the sample of a line's text, if it is not blank
abbrev pub row_of : Columns → List ℕ → Result (Option Sample) TelemWhy
row_of head text = if_any (row_sample head) (fields_in text)

-- the samples before the first refused line, and the refusal
pub record Rows : Type 0 where
  pub samples : List Sample
  pub refusal : Option TelemFault

abbrev pub no_rows : Rows
no_rows = record { samples = []; refusal = None }

abbrev pub refused_at : ℕ → TelemWhy → TelemFault
refused_at n cause = record { line = n; why = cause }

abbrev pub refused_rows : TelemFault → Rows
refused_rows e = record { samples = []; refusal = Some e }

-- a line's answer, and then what the later lines give
abbrev pub then_rows : ℕ → Result (Option Sample) TelemWhy → Rows → Rows
then_rows n (Err cause) later = refused_rows (refused_at n cause)
then_rows n (Ok None) later = later
then_rows n (Ok (Some s)) later = record { samples = s ∷ later.samples; refusal = later.refusal }

-- the rows from line n on, of a file that may have `room` bytes from there on
abbrev pub rows_from : Columns → ℕ → ℕ → List RawLine → Rows
rows_from head room n [] = no_rows
rows_from head room n (l ∷ ls) = then_rows n (line_text room n l >>= row_of head) (rows_from head (room - taken_by l) (n + 1) ls)
