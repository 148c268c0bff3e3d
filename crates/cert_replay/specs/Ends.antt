-- How the parts of a check end.
use Rattle.std.specs.Prelude.{◌≡◌, ◌≢◌, ◌⊎◌, ℕ, ◌+◌, ◌≤◌, Bool, true, is_none, List, [], ◌++◌, length, Some, None, Result, Ok, Err, OnOk, IfErr}
use Rattle.std.specs.List.{All}
use Rattle.std.specs.Io.KnownBytes.{IsAtEnd}
use Rattle.outside_io.specs.Causes.{Rose}
use Rattle.outside_io.specs.Shelf.{ShelfState}
use Rattle.plant_model.specs.Plant.{Plant, Sample}
use Rattle.telem_csv.specs.Rows.{Rows}
use Rattle.report_text.specs.Line.{end, put_text, lines_text}
use Rattle.report_text.specs.Names.{is_model_name}
use Rattle.report_rules.specs.Lines.{head_lines}
use Rattle.report_rules.specs.Report.{Watch}
use Rattle.report_rules.specs.Replay.{watch, Satisfies, DepartsAt}
use Rattle.input_files.specs.Told.{ReadFailed}
use Rattle.input_files.specs.Whole.{IsAskedAtMost}
use Rattle.cert_replay.specs.Outcome.{IfRead}
use Rattle.cert_replay.specs.Window.{HasUnread}
use Rattle.cert_replay.specs.declared.fault.Accepted.{Accepted}
use Rattle.cert_replay.specs.declared.fault.CheckFault.{CheckFault}
use Rattle.cert_replay.specs.declared.fault.CheckFault.TheVariants.{Model, Telemetry, Read, Report, Memory}
use Rattle.cert_replay.specs.declared.window.Window.{Window}

-- the names have the form of a model's name
abbrev pub AreNamed : List (List ℕ) → Type 0
AreNamed names = All (λ name. is_model_name name ≡ true) names

-- the report begins with the title and the names, which are counted
pub record HeadStands (names : List (List ℕ)) (bytes : List ℕ) (w : Window) (shelf : ShelfState) : Type 0 where
  pub unread : List ℕ
  pub left : HasUnread w shelf unread
  pub are : bytes ≡ lines_text (head_lines names) ++ unread
  pub lines : w.lines ≡ length (head_lines names)

-- the report departs in its head, whatever the samples are
abbrev pub DepartsInHead : List (List ℕ) → List ℕ → CheckFault → Type 0
DepartsInHead names bytes fault = (line : ℕ) → fault ≡ Report line
    → (ps : List Plant) (samples : List Sample) (is_whole : Bool) → DepartsAt (watch names ps samples is_whole) line bytes

-- what is unread is the last line, after so many samples, and nothing else
abbrev pub EndStands : ℕ → Window → ShelfState → Type 0
EndStands samples w shelf = (unread : List ℕ) → HasUnread w shelf unread → unread ≡ put_text (end samples)

-- what is unread is not the last line, after so many samples, and nothing behind it
pub data EndDeparts (samples lines : ℕ) (unread : List ℕ) (line : ℕ) : Type 0 where
  missing : line ≡ lines + 1 → ((r : List ℕ) → unread ≢ put_text (end samples) ++ r) → EndDeparts samples lines unread line
  behind : line ≡ lines + 2 → (v : List ℕ) → unread ≡ put_text (end samples) ++ v → v ≢ [] → EndDeparts samples lines unread line

-- what the result of a check says of a watch and of the refusal of a row
abbrev pub SaysOfWatch : Result Accepted CheckFault → Watch → Rows → List ℕ → Type 0
SaysOfWatch (Ok accepted) w rows bytes = (rows.refusal ≡ None) × (accepted.samples ≡ length rows.samples) × Satisfies w bytes
SaysOfWatch (Err (Model fault)) w rows bytes = Unit
SaysOfWatch (Err (Telemetry fault)) w rows bytes = (rows.refusal ≡ Some fault) × Satisfies w bytes
SaysOfWatch (Err (Read slot)) w rows bytes = Unit
SaysOfWatch (Err (Report line)) w rows bytes = DepartsAt w line bytes
SaysOfWatch (Err Memory) w rows bytes = Unit

-- the names and plants over rows
abbrev pub SaysOfChecked : List (List ℕ) → List Plant → Result Accepted CheckFault → Rows → List ℕ → Type 0
SaysOfChecked names ps result rows bytes = SaysOfWatch result (watch names ps rows.samples (is_none rows.refusal)) rows bytes

-- the telemetry and the report are read on, and nothing else changes
pub record ReadsBoth (before after : ShelfState) : Type 0 where
  pub telemetry_stays : (after.slot 1).attached ≡ (before.slot 1).attached
  pub report_stays : (after.slot 2).attached ≡ (before.slot 2).attached
  pub telemetry_asked : (after.slot 1).asked ≡ (before.slot 1).asked
  pub report_asked : (after.slot 2).asked ≡ (before.slot 2).asked
  pub telemetry_later : (before.slot 1).faults ≤ (after.slot 1).faults
  pub report_later : (before.slot 2).faults ≤ (after.slot 2).faults
  pub model : after.slot 0 ≡ before.slot 0

-- an ending of reading the telemetry and the report and comparing
abbrev pub IsRowsEnding : CheckFault → Type 0
IsRowsEnding (Model fault) = ⊥
IsRowsEnding (Telemetry fault) = Unit
IsRowsEnding (Read slot) = (slot ≡ 1) ⊎ (slot ≡ 2)
IsRowsEnding (Report line) = Unit
IsRowsEnding Memory = Unit

-- why it ended: the count of the slot that failed rose, or both came to their end
pub record EndsRows (before after : ShelfState) (result : Result Accepted CheckFault) : Type 0 where
  pub faults : IfErr result IsRowsEnding
  pub read : IfRead result (λ slot. Rose (before.slot slot).faults (after.slot slot).faults)
  pub at_end : OnOk result (IsAtEnd (after.slot 1).rest × IsAtEnd (after.slot 2).rest)
  pub both : ReadsBoth before after

-- the same where both were to be attached: each was asked for its own name at most
pub record EndsModels (telemetry report : List ℕ) (before after : ShelfState) (result : Result Accepted CheckFault) : Type 0 where
  pub faults : IfErr result IsRowsEnding
  pub read : IfRead result (λ slot. ((slot ≡ 1) × ReadFailed telemetry (before.slot 1) (after.slot 1))
      ⊎ ((slot ≡ 2) × ReadFailed report (before.slot 2) (after.slot 2)))
  pub at_end : OnOk result (IsAtEnd (after.slot 1).rest × IsAtEnd (after.slot 2).rest)
  pub asked_telemetry : IsAskedAtMost telemetry (after.slot 1)
  pub asked_report : IsAskedAtMost report (after.slot 2)
  pub model : after.slot 0 ≡ before.slot 0
