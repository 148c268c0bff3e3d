-- How far the telemetry has been read where the report is refused.
use Rattle.std.specs.Prelude.{◌≡◌, ℕ, ◌+◌, ◌<◌, ◌≤◌, false, List, Result, Ok, Err}
use Rattle.outside_io.specs.Shelf.{ShelfState}
use Rattle.model_file.specs.Bank.{Models}
use Rattle.telem_csv.specs.Rows.{Rows}
use Rattle.model_bank.specs.Bank.{plants_in, names_in}
use Rattle.report_rules.specs.Report.{Watch}
use Rattle.report_rules.specs.Replay.{watch, CoversBefore}
use Rattle.input_files.specs.Files.{Files, bad_model, bad_header, monitored}
use Rattle.input_files.specs.Told.{OnFile, OnLeft}
use Rattle.input_files.specs.Whole.{most_piece}
use Rattle.cert_replay.specs.declared.fault.Accepted.{Accepted}
use Rattle.cert_replay.specs.declared.fault.CheckFault.{CheckFault}
use Rattle.cert_replay.specs.declared.fault.CheckFault.TheVariants.{Model, Telemetry, Read, Report, Memory}

-- a claim on the bytes of all three files and on how many of the telemetry slot 1 has left, where these are told
abbrev pub OnReportLeft : (before after : ShelfState) → (model telemetry report : List ℕ)
    → (List ℕ → List ℕ → List ℕ → ℕ → Type 0) → Type 0
OnReportLeft before after model telemetry report claim =
    OnFile before report (λ bytes. OnLeft before after model telemetry (λ m t left. claim m t bytes left))

-- the models over rows that more may follow: their report has no last line
abbrev pub begun_watch : Models → Rows → Watch
begun_watch ms rows = watch (names_in ms) (plants_in ms) rows.samples false

-- The line is behind all that the report has for files that say this so far: its bytes begin with a justified report of the rows, in
-- fewer lines. Before the header it may be any line.
abbrev pub IsBehindBegun : ℕ → List ℕ → Files → Type 0
IsBehindBegun line bytes (bad_model fault) = 1 ≤ line
IsBehindBegun line bytes (bad_header fault) = 1 ≤ line
IsBehindBegun line bytes (monitored ms rows) = CoversBefore (begun_watch ms rows) line bytes

-- A line of the report that is refused is behind all that the report has for what ended before the last piece read and the byte
-- before it. `begun k` is what the files say where the last k bytes of the telemetry are left out, and `left` of them are unread.
abbrev pub RefusesInTime : (ℕ → Files) → List ℕ → ℕ → Result Accepted CheckFault → Type 0
RefusesInTime begun bytes left (Ok accepted) = Unit
RefusesInTime begun bytes left (Err (Model fault)) = Unit
RefusesInTime begun bytes left (Err (Telemetry fault)) = Unit
RefusesInTime begun bytes left (Err (Read slot)) = Unit
RefusesInTime begun bytes left (Err (Report line)) = IsBehindBegun line bytes (begun (left + most_piece + 1))
RefusesInTime begun bytes left (Err Memory) = Unit

-- the same of the rows behind a header, where so many bytes were unread
abbrev pub RowsRefuseInTime : (ℕ → Watch) → List ℕ → (unread left : ℕ) → Result Accepted CheckFault → Type 0
RowsRefuseInTime begun bytes unread left (Ok accepted) = Unit
RowsRefuseInTime begun bytes unread left (Err (Model fault)) = Unit
RowsRefuseInTime begun bytes unread left (Err (Telemetry fault)) = Unit
RowsRefuseInTime begun bytes unread left (Err (Read slot)) = Unit
RowsRefuseInTime begun bytes unread left (Err (Report line)) =
    (1 ≤ line) × (left + most_piece + 1 ≤ unread → CoversBefore (begun (left + most_piece + 1)) line bytes)
RowsRefuseInTime begun bytes unread left (Err Memory) = Unit

-- the line that is refused is behind so many lines
abbrev pub IsBehind : ℕ → CheckFault → Type 0
IsBehind lines fault = (line : ℕ) → fault ≡ Report line → lines < line
