-- What a telemetry file says: a refused header, or its samples up to the first refused line. A function of the whole bytes.
use Rattle.std.specs.Prelude.{ℕ, ◌+◌, ◌-◌, List, [], ◌∷◌, Option, Some, None, Result, Ok, Err}
use Rattle.dec_text.specs.Steps.{◌>>=◌}
use Rattle.telem_csv.specs.Columns.{Columns, columns_of}
use Rattle.telem_csv.specs.Lines.{RawLine, raw_lines, line_text, fields_in, taken_by}
use Rattle.telem_csv.specs.Rows.{Rows, rows_from, refused_at, if_any}
use Rattle.telem_csv.specs.declared.fault.TelemFault.{TelemFault}
use Rattle.telem_csv.specs.declared.fault.TelemWhy.{TelemWhy}
use Rattle.telem_csv.specs.declared.fault.TelemWhy.TheVariants as why

pub data Telemetry : Type 0 where
  no_header : TelemFault → Telemetry
  has_header : Rows → Telemetry

-- the columns of a line's text, if it is not blank
abbrev pub header_of : List (List ℕ) → List (List ℕ) → List ℕ → Result (Option Columns) TelemWhy
header_of inputs outputs text = if_any (columns_of inputs outputs) (fields_in text)

-- a line's answer, and then the rows of the later lines, or what they give where it is blank
abbrev pub then_header : ℕ → Result (Option Columns) TelemWhy → (Columns → Rows) → Telemetry → Telemetry
then_header n (Err cause) rows later = no_header (refused_at n cause)
then_header n (Ok None) rows later = later
then_header n (Ok (Some head)) rows later = has_header (rows head)

-- the file from line n on, where no header came before
abbrev pub from_line : List (List ℕ) → List (List ℕ) → ℕ → ℕ → List RawLine → Telemetry
from_line inputs outputs room n [] = no_header (refused_at 1 why.NoHeader)
from_line inputs outputs room n (l ∷ ls) =
    then_header n (line_text room n l >>= header_of inputs outputs) (λ head. rows_from head (room - taken_by l) (n + 1) ls)
    (from_line inputs outputs (room - taken_by l) (n + 1) ls)

-- what a file of at most `limit` bytes says, for columns of these names
unfoldable pub telemetry : ℕ → List (List ℕ) → List (List ℕ) → List ℕ → Telemetry
telemetry limit inputs outputs bytes = from_line inputs outputs limit 1 (raw_lines bytes)
