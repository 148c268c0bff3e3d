-- The lines of a telemetry file, and which of them are refused before a field is read.
use Rattle.std.specs.Prelude.{◌≡◌, ◌≤◌, ℕ, ◌+◌, Bool, true, false, ◌&&◌, ◌==◌, nat_lt, nat_le, if◌then◌else◌, List, [], ◌∷◌}
use Rattle.std.specs.Prelude.{length, Option, option_map, Result, Ok, Err}
use Rattle.std.specs.List.{list_any}
use Rattle.csv.specs.Machine.{next_record}
use Rattle.csv.specs.Reading.{default_config, strip_bom}
use Rattle.csv.specs.declared.parser.State.TheVariants as st
use Rattle.dec_text.specs.Steps.{◌>>=◌}
use Rattle.telem_csv.specs.declared.fault.TelemWhy.{TelemWhy}
use Rattle.telem_csv.specs.declared.fault.TelemWhy.TheVariants as why

abbrev pub is_feed : ℕ → Bool
is_feed c = c == 10

abbrev pub is_return : ℕ → Bool
is_return c = c == 13

-- the bytes before a line feed, and whether there is one
pub record RawLine : Type 0 where
  pub bytes : List ℕ
  pub is_ended : Bool

-- c in front of the first line
abbrev pub joined : ℕ → List RawLine → List RawLine
joined c [] = record { bytes = c ∷ []; is_ended = false } ∷ []
joined c (l ∷ ls) = record { bytes = c ∷ l.bytes; is_ended = l.is_ended } ∷ ls

-- c in front of the lines: a line feed ends a line of no bytes
abbrev pub put_byte : ℕ → List RawLine → List RawLine
put_byte c ls = if is_feed c then (record { bytes = []; is_ended = true } ∷ ls) else joined c ls

-- the lines of a text; bytes after the last line feed are a line
abbrev pub raw_lines : List ℕ → List RawLine
raw_lines [] = []
raw_lines (c ∷ cs) = put_byte c (raw_lines cs)

-- how many bytes of the file the line takes
abbrev pub taken_by : RawLine → ℕ
taken_by l = length l.bytes + (if l.is_ended then 1 else 0)

-- without the carriage return that is the last byte
abbrev pub without_return : List ℕ → List ℕ
without_return [] = []
without_return (c ∷ []) = if is_return c then [] else (c ∷ [])
without_return (c ∷ d ∷ cs) = c ∷ without_return (d ∷ cs)

-- the text of line n: line 1 loses a byte order mark
abbrev pub text_of : ℕ → List ℕ → List ℕ
text_of n bytes = if n == 1 then strip_bom (without_return bytes) else without_return bytes

abbrev pub most_line : ℕ
most_line = 4096

-- A line of a file that may have `room` bytes from the line's start on. The byte past the room comes before byte 4,097 of the
-- line, or is that byte, exactly where the room is at most 4,096.
abbrev pub within : ℕ → RawLine → Result RawLine TelemWhy
within room l =
    if nat_lt room (taken_by l) && nat_le room most_line then Err why.TooLong
    else if nat_lt most_line (length l.bytes) then Err why.LongLine
    else Ok l

-- a text with a carriage return is refused
abbrev pub without_stray : List ℕ → Result (List ℕ) TelemWhy
without_stray text = if list_any is_return text then Err why.StrayCr else Ok text

-- the text of line n: a carriage return is judged in the whole line
abbrev pub line_text : ℕ → ℕ → RawLine → Result (List ℕ) TelemWhy
line_text room n l = within room l >>= λ l. without_stray (text_of n l.bytes)

-- the fields of the first record that csv gives for a text; of a blank one it gives none
abbrev pub fields_in : List ℕ → Option (List (List ℕ))
fields_in text = option_map (λ r. r.0) (next_record default_config st.StartRecord [] [] (strip_bom text))

-- a text that a line can have
pub record IsLineText (text : List ℕ) : Type 0 where
  pub short : length text ≤ most_line
  pub no_feed : list_any is_feed text ≡ false
  pub no_return : list_any is_return text ≡ false
