-- Which lines have been put by the time that reading or writing fails.
use Rattle.std.specs.Prelude.{◌≡◌, ℕ, ◌+◌, ◌≤◌, Bool, true, false, List, [], ◌++◌, length, IfSome, Result, Ok, Err}
use Rattle.outside_io.specs.Shelf.{ShelfState}
use Rattle.outside_io.specs.Sink.{SinkState, Gains}
use Rattle.plant_model.specs.Plant.{Plant}
use Rattle.telem_csv.specs.Rows.{Rows}
use Rattle.model_file.specs.Bank.{Models}
use Rattle.model_bank.specs.Bank.{plants_in, names_in}
use Rattle.report_text.specs.Line.{Line, lines_text}
use Rattle.report_rules.specs.Lines.{head_lines}
use Rattle.report_rules.specs.Report.{Choice}
use Rattle.input_files.specs.Files.{Files, bad_model, bad_header, monitored}
use Rattle.input_files.specs.Ended.{files_begun, without_last}
use Rattle.input_files.specs.Left.{left_of}
use Rattle.input_files.specs.declared.stream.Stream.{Stream}
use Rattle.input_files.specs.Whole.{most_piece}
use Rattle.monitor_run.specs.Outcome.{GainsLines}
use Rattle.monitor_run.specs.Rows.{IsChoice, chosen_lines}
use Rattle.monitor_run.specs.declared.done.Done.{Done}
use Rattle.monitor_run.specs.declared.done.RunFault.{RunFault}
use Rattle.monitor_run.specs.declared.done.RunFault.TheVariants.{Model, Telemetry, Read, Write, Memory}

-- lines of the samples of some rows that `run` may put
abbrev pub AreRowsBegun : List Plant → Rows → List Line → Type 0
AreRowsBegun ps rows lines = (c : Choice) × IsChoice ps rows.samples c × (lines ≡ chosen_lines ps rows.samples c)

-- behind the lines of the title and of the models, and without the last line
abbrev pub IsReportBegun : Models → Rows → List Line → Type 0
IsReportBegun ms rows lines =
    (c : Choice) × IsChoice (plants_in ms) rows.samples c × (lines ≡ head_lines (names_in ms) ++ chosen_lines (plants_in ms) rows.samples c)

-- lines that `run` may have put for files that say this so far: none before the header
abbrev pub IsBegunOf : Files → List Line → Type 0
IsBegunOf (bad_model fault) lines = lines ≡ []
IsBegunOf (bad_header fault) lines = lines ≡ []
IsBegunOf (monitored ms rows) lines = IsReportBegun ms rows lines

-- the same for the ended lines of a telemetry without its last k bytes
abbrev pub IsBegun : (model telemetry : List ℕ) → ℕ → List Line → Type 0
IsBegun m t k lines = IsBegunOf (files_begun m (without_last k t)) lines

-- a sink's known bytes grow by these, and maybe by more
abbrev pub GainsAtLeast : List ℕ → SinkState → SinkState → Type 0
GainsAtLeast bytes before after = (more : List ℕ) × Gains (bytes ++ more) before after

-- and these are some lines that are such
abbrev pub GainsLinesAtLeast : (List Line → Type 0) → SinkState → SinkState → Type 0
GainsLinesAtLeast are before after = (lines : List Line) × are lines × GainsAtLeast (lines_text lines) before after

-- Where reading the telemetry failed, exactly lines for the bytes read were put; where a put failed, at least lines for those
-- without the last piece read and the byte before it. `begun k` holds of lines for the telemetry without its last k bytes, and
-- `left` bytes of it are unread.
abbrev pub PutsInTime : (ℕ → List Line → Type 0) → ℕ → SinkState → Result Done RunFault → SinkState → Type 0
PutsInTime begun left before (Ok done) after = Unit
PutsInTime begun left before (Err (Model fault)) after = Unit
PutsInTime begun left before (Err (Telemetry fault)) after = Unit
PutsInTime begun left before (Err (Read slot)) after = slot ≡ 1 → GainsLines (begun left) before after
PutsInTime begun left before (Err Write) after = GainsLinesAtLeast (begun (left + most_piece + 1)) before after
PutsInTime begun left before (Err Memory) after = Unit

-- a stream that had not ended was read, and lines were put for what was read
pub record ReadInTime (begun : ℕ → List Line → Type 0) (is_ended : Bool) (unread left : ℕ) (before after : SinkState) : Type 0 where
  pub unended : is_ended ≡ false
  pub later : left ≤ unread
  pub lines : GainsLines (begun left) before after

-- the same of the rows behind a header, where so many bytes were unread
abbrev pub RowsInTime : (ℕ → List Line → Type 0) → Bool → ℕ → ℕ → SinkState → Result Done RunFault → SinkState → Type 0
RowsInTime begun is_ended unread left before (Ok done) after = Unit
RowsInTime begun is_ended unread left before (Err (Model fault)) after = Unit
RowsInTime begun is_ended unread left before (Err (Telemetry fault)) after = Unit
RowsInTime begun is_ended unread left before (Err (Read slot)) after = ReadInTime begun is_ended unread left before after
RowsInTime begun is_ended unread left before (Err Write) after =
    left + most_piece + 1 ≤ unread → GainsLinesAtLeast (begun (left + most_piece + 1)) before after
RowsInTime begun is_ended unread left before (Err Memory) after = Unit

-- a claim on the telemetry of this name and on how many bytes of it slot 1 has left, where it is attached and both are told
abbrev pub OnTaken : (before after : ShelfState) → List ℕ → (List ℕ → ℕ → Type 0) → Type 0
OnTaken before after telemetry claim = (after.slot 1).attached ≡ true
    → IfSome (before.file telemetry) (λ t. IfSome (after.slot 1).rest (λ r. claim t (length r)))

-- a claim on what a stream has unread and on how many bytes slot 1 has left afterwards, where both are told
abbrev pub OnUnreadLeft : Stream → (before after : ShelfState) → (List ℕ → ℕ → Type 0) → Type 0
OnUnreadLeft stream before after claim =
    IfSome (before.slot 1).rest (λ r. IfSome (after.slot 1).rest (λ r'. claim (left_of stream ++ r) (length r')))
