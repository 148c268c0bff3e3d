-- A stream of telemetry lines, and what it has still to tell.
use Rattle.std.specs.Prelude.{◌≡◌, ℕ, ◌<◌, ◌≤◌, true, false, length, List, [], ◌∷◌, ◌++◌, Option, Some, None, IfSome}
use Rattle.std.specs.Io.KnownBytes.{IsAtEnd}
use Rattle.outside_io.specs.Causes.{Rose}
use Rattle.outside_io.specs.Shelf.{ShelfState, KeepsOthers}
use Rattle.outside_io.specs.declared.shelf.GetFault.{GetFault}
use Rattle.outside_io.specs.declared.shelf.GetFault.TheVariants as get
use Rattle.plant_model.specs.Plant.{Sample}
use Rattle.telem_csv.specs.Columns.{Columns}
use Rattle.telem_csv.specs.Cutter.{Cutter, current, text_at, rows_owed, telemetry_owed}
use Rattle.telem_csv.specs.Rows.{Rows, no_rows, refused_rows, row_of, then_rows, refused_at}
use Rattle.telem_csv.specs.Telemetry.{no_header, has_header, header_of, then_header}
use Rattle.telem_csv.specs.declared.fault.TelemFault.{TelemFault}
use Rattle.telem_csv.specs.declared.fault.TelemWhy.TheVariants as why
use Rattle.input_files.specs.Left.{left_of}
use Rattle.input_files.specs.declared.stream.Stream.{Stream}
use Rattle.input_files.specs.declared.stream.StreamFault.{StreamFault}
use Rattle.input_files.specs.declared.stream.StreamFault.TheVariants.{Read, Memory}

-- why no line came where the slot gave no bytes
abbrev pub stream_fault : GetFault → StreamFault
stream_fault get.Failed = Read
stream_fault get.Memory = Memory

-- a claim on what a slot has left before and after a call, where that is told
abbrev pub BothTold : Option (List ℕ) → Option (List ℕ) → (List ℕ → List ℕ → Type 0) → Type 0
BothTold None rest' claim = Unit
BothTold (Some rest) None claim = ⊥
BothTold (Some rest) (Some rest') claim = claim rest rest'

-- a claim on what a stream has unread before and after a call, of its piece and then of its slot, where that is told
abbrev pub OnUnread : ℕ → Stream → ShelfState → Stream → ShelfState → (List ℕ → List ℕ → Type 0) → Type 0
OnUnread slot stream shelf stream' shelf' claim =
    BothTold (shelf.slot slot).rest (shelf'.slot slot).rest (λ r r'. claim (left_of stream ++ r) (left_of stream' ++ r'))

-- a claim on the rows that a telemetry has still to tell, where its slot tells what is left
abbrev pub OnRows : ℕ → Columns → Stream → ShelfState → (Rows → Type 0) → Type 0
OnRows slot head stream shelf claim = IfSome (shelf.slot slot).rest (λ r. claim (rows_owed head stream.cutter (left_of stream ++ r)))

-- before, with `unread` to come, the stream tells the line at hand of the cutter and what it tells after that
pub record TellsLine (old new : Cutter) (unread unread' : List ℕ) : Type 0 where
  pub rows : (head : Columns) → rows_owed head old unread ≡ then_rows new.number (row_of head (text_at new)) (rows_owed head new unread')
  pub header : (inputs outputs : List (List ℕ)) → telemetry_owed inputs outputs old unread
      ≡ then_header new.number (header_of inputs outputs (text_at new)) (λ head. rows_owed head new unread') (telemetry_owed inputs outputs new unread')

-- it tells no line
pub record TellsEnd (old : Cutter) (unread : List ℕ) : Type 0 where
  pub rows : (head : Columns) → rows_owed head old unread ≡ no_rows
  pub header : (inputs outputs : List (List ℕ)) → telemetry_owed inputs outputs old unread ≡ no_header (refused_at 1 why.NoHeader)

-- it tells a refusal
pub record TellsRefusal (old : Cutter) (fault : TelemFault) (unread : List ℕ) : Type 0 where
  pub rows : (head : Columns) → rows_owed head old unread ≡ refused_rows fault
  pub header : (inputs outputs : List (List ℕ)) → telemetry_owed inputs outputs old unread ≡ no_header fault

-- it tells what it did
pub record TellsSame (old new : Cutter) (unread unread' : List ℕ) : Type 0 where
  pub rows : (head : Columns) → rows_owed head old unread ≡ rows_owed head new unread'
  pub header : (inputs outputs : List (List ℕ)) → telemetry_owed inputs outputs old unread ≡ telemetry_owed inputs outputs new unread'

-- a sample in front of rows
abbrev pub with_sample : Sample → Rows → Rows
with_sample s rows = record { samples = s ∷ rows.samples; refusal = rows.refusal }

-- a telemetry has this header, and behind it the rows that are still owed
abbrev pub TellsHeader : (inputs outputs : List (List ℕ)) → Columns → (old new : Cutter) → (unread unread' : List ℕ) → Type 0
TellsHeader inputs outputs head old new unread unread' = telemetry_owed inputs outputs old unread ≡ has_header (rows_owed head new unread')

-- a telemetry has no header, with this fault
abbrev pub RefusesHeader : (inputs outputs : List (List ℕ)) → Cutter → TelemFault → (unread unread' : List ℕ) → Type 0
RefusesHeader inputs outputs old fault unread unread' = telemetry_owed inputs outputs old unread ≡ no_header fault

-- the rows that are owed begin with this sample
abbrev pub TellsSample : Columns → Sample → (old new : Cutter) → (unread unread' : List ℕ) → Type 0
TellsSample head s old new unread unread' = rows_owed head old unread ≡ with_sample s (rows_owed head new unread')

-- no row is owed
abbrev pub TellsNoRow : Columns → Cutter → (unread unread' : List ℕ) → Type 0
TellsNoRow head old unread unread' = rows_owed head old unread ≡ no_rows

-- the next row that is owed is refused with this fault
abbrev pub RefusesRow : Columns → Cutter → TelemFault → (unread unread' : List ℕ) → Type 0
RefusesRow head old fault unread unread' = rows_owed head old unread ≡ refused_rows fault

-- a call that reads on in a slot: it stays attached, its count of faults does not fall, and nothing else changes
pub record ReadsOn (slot : ℕ) (before after : ShelfState) : Type 0 where
  pub stays : (after.slot slot).attached ≡ (before.slot slot).attached
  pub same_asked : (after.slot slot).asked ≡ (before.slot slot).asked
  pub later : (before.slot slot).faults ≤ (after.slot slot).faults
  pub others : KeepsOthers slot before after

-- where reading this slot failed, its count of faults rose
abbrev pub HasReadCause : ℕ → ShelfState → ShelfState → StreamFault → Type 0
HasReadCause slot before after fault = fault ≡ Read → Rose (before.slot slot).faults (after.slot slot).faults

-- a stream that has ended has nothing at hand, and its slot gives no more
abbrev pub IsEndedAt : ℕ → Stream → ShelfState → Type 0
IsEndedAt slot stream shelf = stream.is_ended ≡ true → (left_of stream ≡ []) × IsAtEnd (shelf.slot slot).rest

-- reading the slot failed: the stream had not ended, and what it has unread is what its slot has left
pub record FailsAtSlot (before after : Stream) : Type 0 where
  pub unended : before.is_ended ≡ false
  pub used : left_of after ≡ []

-- a line that goes on grows by the piece
pub record GoesOn (c new : Cutter) (piece : List ℕ) : Type 0 where
  pub room : (current new).room ≡ (current c).room
  pub longer : 0 < length piece → length (current c).bytes < length (current new).bytes
  pub short : length (current new).bytes ≤ 4096
