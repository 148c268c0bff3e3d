-- What the lines of a telemetry say whose line feeds are among the bytes that were taken.
use Rattle.std.specs.Prelude.{◌≡◌, ℕ, ◌-◌, ◌<◌, ◌≤◌, Bool, true, false, List, [], ◌∷◌, ◌++◌, length, take, filter, Result, Ok, Err}
use Rattle.std.specs.List.{list_any}
use Rattle.model_file.specs.Bank.{Models}
use Rattle.model_file.specs.ModelFile.{models_of}
use Rattle.model_file.specs.declared.fault.ModelFault.{ModelFault}
use Rattle.plant_model.specs.Plant.{Sample}
use Rattle.telem_csv.specs.Columns.{Columns}
use Rattle.telem_csv.specs.Cutter.{Cutter, current, text_at}
use Rattle.telem_csv.specs.Lines.{RawLine, raw_lines, is_feed, line_text}
use Rattle.telem_csv.specs.Rows.{Rows, no_rows, rows_from, refused_at}
use Rattle.telem_csv.specs.Telemetry.{Telemetry, no_header, has_header, from_line}
use Rattle.telem_csv.specs.declared.fault.TelemWhy.TheVariants as why
use Rattle.telem_csv.specs.declared.fed.Fed.TheVariants as fed
use Rattle.input_files.specs.Files.{Files, bad_model, with_telemetry, most_telemetry}
use Rattle.input_files.specs.Stream.{with_sample}

-- the lines of a text that have their line feed
unfoldable pub ended_lines : List ℕ → List RawLine
ended_lines text = filter (λ l. l.is_ended) (raw_lines text)

-- a text without its last k bytes
abbrev pub without_last : ℕ → List ℕ → List ℕ
without_last k text = take (length text - k) text

-- what the ended lines of a telemetry say, for columns of these names
abbrev pub telemetry_begun : ℕ → List (List ℕ) → List (List ℕ) → List ℕ → Telemetry
telemetry_begun limit inputs outputs bytes = from_line inputs outputs limit 1 (ended_lines bytes)

-- the lines that end in the bytes to come, where a cutter has the first of them at hand
abbrev pub lines_ended : Cutter → List ℕ → List RawLine
lines_ended c unread = ended_lines ((current c).bytes ++ unread)

-- their rows
abbrev pub rows_ended : Columns → Cutter → List ℕ → Rows
rows_ended head c unread = rows_from head (current c).room (current c).number (lines_ended c unread)

-- their telemetry, where no header came before
abbrev pub telemetry_ended : List (List ℕ) → List (List ℕ) → Cutter → List ℕ → Telemetry
telemetry_ended inputs outputs c unread = from_line inputs outputs (current c).room (current c).number (lines_ended c unread)

-- of the bytes to come, some were taken into the line at hand
pub record GrowsLine (old new : Cutter) (unread unread' : List ℕ) : Type 0 where
  pub bytes : (current old).bytes ++ unread ≡ (current new).bytes ++ unread'
  pub room : (current new).room ≡ (current old).room
  pub number : (current new).number ≡ (current old).number
  pub no_feed : list_any is_feed (current new).bytes ≡ false
  pub later : length unread' ≤ length unread

-- of the bytes to come, those of a line and its line feed were taken
pub record CutsLine (old new : Cutter) (unread unread' : List ℕ) : Type 0 where
  pub bytes : (current old).bytes ++ unread ≡ new.bytes ++ 10 ∷ unread'
  pub text : line_text (current old).room (current old).number (record { bytes = new.bytes; is_ended = true }) ≡ Ok (text_at new)
  pub room : new.room ≡ (current old).room
  pub number : new.number ≡ (current old).number
  pub is_cut : new.last ≡ fed.Line
  pub no_feed : list_any is_feed new.bytes ≡ false
  pub later : length unread' < length unread

-- before the last byte taken no line ended
abbrev pub EndsNoLine : Cutter → (unread unread' : List ℕ) → Type 0
EndsNoLine old unread unread' = (k : ℕ) → length unread' < k → lines_ended old (without_last k unread) ≡ []

-- no line ended in the bytes taken
pub record TakesNoLine (old : Cutter) (unread unread' : List ℕ) : Type 0 where
  pub none : lines_ended old (without_last (length unread') unread) ≡ []
  pub later : length unread' ≤ length unread

-- a line was taken: up to its line feed, or as it stands at the end of the stream
pub record TakesLine (is_ended : Bool) (old new : Cutter) (unread unread' : List ℕ) : Type 0 where
  pub cut : is_ended ≡ false → CutsLine old new unread unread'
  pub before : EndsNoLine old unread unread'
  pub later : length unread' ≤ length unread
  pub ended : is_ended ≡ true → unread' ≡ []

-- before the last byte taken no row ended
abbrev pub EndsNoRow : Columns → Cutter → (unread unread' : List ℕ) → Type 0
EndsNoRow head old unread unread' = (k : ℕ) → length unread' < k → rows_ended head old (without_last k unread) ≡ no_rows

-- no row ended in the bytes taken
pub record TakesNoRow (head : Columns) (old : Cutter) (unread unread' : List ℕ) : Type 0 where
  pub none : rows_ended head old (without_last (length unread') unread) ≡ no_rows
  pub later : length unread' ≤ length unread

-- before the last byte taken no header ended
abbrev pub EndsNoHeader : (inputs outputs : List (List ℕ)) → Cutter → (unread unread' : List ℕ) → Type 0
EndsNoHeader inputs outputs old unread unread' =
    (k : ℕ) → length unread' < k → telemetry_ended inputs outputs old (without_last k unread) ≡ no_header (refused_at 1 why.NoHeader)

-- no header ended in the bytes taken
pub record TakesNoHeader (inputs outputs : List (List ℕ)) (old : Cutter) (unread unread' : List ℕ) : Type 0 where
  pub none : telemetry_ended inputs outputs old (without_last (length unread') unread) ≡ no_header (refused_at 1 why.NoHeader)
  pub later : length unread' ≤ length unread

-- a row was taken: whatever is cut off of the bytes to come, the ended lines tell its sample first, and none without its line feed
pub record TakesRow (head : Columns) (s : Sample) (is_ended : Bool) (old new : Cutter) (unread unread' : List ℕ) : Type 0 where
  pub row : is_ended ≡ false → (k : ℕ) → k ≤ length unread'
      → rows_ended head old (without_last k unread) ≡ with_sample s (rows_ended head new (without_last k unread'))
  pub before : EndsNoRow head old unread unread'
  pub later : length unread' ≤ length unread
  pub ended : is_ended ≡ true → unread' ≡ []

-- the header was taken: whatever is cut off of the bytes to come, the ended lines tell it, and none without its line feed
pub record TakesHeader (inputs outputs : List (List ℕ)) (head : Columns) (is_ended : Bool) (old new : Cutter) (unread unread' : List ℕ) : Type 0 where
  pub header : is_ended ≡ false → (k : ℕ) → k ≤ length unread'
      → telemetry_ended inputs outputs old (without_last k unread) ≡ has_header (rows_ended head new (without_last k unread'))
  pub before : EndsNoHeader inputs outputs old unread unread'
  pub later : length unread' ≤ length unread
  pub ended : is_ended ≡ true → unread' ≡ []

-- what the ended lines of a telemetry say under these models
abbrev pub begun_with : Models → List ℕ → Files
begun_with ms t = with_telemetry ms (telemetry_begun most_telemetry ms.inputs ms.outputs t)

abbrev pub begun_under : Result Models ModelFault → List ℕ → Files
begun_under (Ok ms) t = begun_with ms t
begun_under (Err fault) t = bad_model fault

-- what the bytes of a model file and the ended lines of a telemetry say
unfoldable pub files_begun : List ℕ → List ℕ → Files
files_begun m t = begun_under (models_of m) t
