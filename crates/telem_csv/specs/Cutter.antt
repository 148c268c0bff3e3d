-- A cutter in the middle of a stream, and what it has still to tell of the telemetry.
use Rattle.std.specs.Prelude.{◌≡◌, ◌≤◌, ℕ, ◌+◌, ◌-◌, ◌^◌, min, nat_lt, nat_le, false, ◌&&◌, if◌then◌else◌, Option, Some, None}
use Rattle.std.specs.Prelude.{List, [], ◌∷◌, ◌++◌, length}
use Rattle.std.specs.List.{list_any, before_first}
use Rattle.telem_csv.specs.Columns.{Columns}
use Rattle.telem_csv.specs.Fed.{is_refusal, cause_of, fed_by}
use Rattle.telem_csv.specs.Lines.{is_feed, is_return, RawLine, raw_lines, text_of, most_line, within, line_text}
use Rattle.telem_csv.specs.Rows.{Rows, no_rows, refused_rows, refused_at, row_of, then_rows, rows_from}
use Rattle.telem_csv.specs.Telemetry.{Telemetry, no_header, header_of, then_header, from_line}
use Rattle.telem_csv.specs.declared.fault.TelemWhy.TheVariants as why
use Rattle.telem_csv.specs.declared.fed.Fed.{Fed}
use Rattle.telem_csv.specs.declared.fed.Fed.TheVariants as fed

-- the line at hand and its bytes so far, how many bytes the stream may have from its start on, and the last answer
pub record Cutter : Type 0 where
  pub room : ℕ
  pub number : ℕ
  pub bytes : List ℕ
  pub last : Fed

-- what a cutter keeps
pub record IsCutter (c : Cutter) : Type 0 where
  pub counted : 1 ≤ c.number
  pub few_lines : c.number + c.room ≤ 2 ^ 62 + 1
  pub some_line : c.last ≡ fed.Line → 1 ≤ c.room
  pub line_is_text : c.last ≡ fed.Line → list_any is_return (text_of c.number c.bytes) ≡ false
  pub in_room : length c.bytes ≤ c.room
  pub in_line : length c.bytes ≤ most_line
  pub no_feed : list_any is_feed c.bytes ≡ false

-- before the first byte
abbrev pub at_start : ℕ → Cutter
at_start limit = record { room = limit; number = 1; bytes = []; last = fed.More }

-- the line behind one that was cut
abbrev pub behind : Cutter → Cutter
behind c = record { room = c.room - (length c.bytes + 1); number = c.number + 1; bytes = []; last = fed.More }

abbrev pub current_after : Fed → Cutter → Cutter
current_after fed.Line c = behind c
current_after _ c = c

-- the line that the next byte belongs to
abbrev pub current : Cutter → Cutter
current c = current_after c.last c

-- the line at hand with the bytes of a piece up to its first line feed
abbrev pub line_with : Cutter → List ℕ → RawLine
line_with c piece = record { bytes = c.bytes ++ before_first is_feed piece; is_ended = list_any is_feed piece }

-- a line that is ended is judged whole, and one that goes on by its length
abbrev pub judged : Cutter → RawLine → Fed
judged c l = if l.is_ended then fed_by fed.Line (line_text c.room c.number l) else fed_by fed.More (within c.room l)

-- how many bytes are taken where n stand before the line feed or the end of the piece: these and the line feed, or those up to the
-- byte at which the line is refused
abbrev pub taken_for : Fed → Cutter → ℕ → ℕ
taken_for fed.More c n = n
taken_for fed.Long c n = min c.room most_line + 1 - length c.bytes
taken_for fed.OverLimit c n = min c.room most_line + 1 - length c.bytes
taken_for _ c n = n + 1

-- the cutter after the answer: it holds the bytes of its line, but of one that is refused for its length
abbrev pub after_answer : Fed → Cutter → List ℕ → Cutter
after_answer fed.Long c bytes = record { room = c.room; number = c.number; bytes = c.bytes; last = fed.Long }
after_answer fed.OverLimit c bytes = record { room = c.room; number = c.number; bytes = c.bytes; last = fed.OverLimit }
after_answer answer c bytes = record { room = c.room; number = c.number; bytes = bytes; last = answer }

-- the answer to a piece
abbrev pub feed_answer : Cutter → List ℕ → Fed
feed_answer c piece = if is_refusal c.last then c.last else judged (current c) (line_with (current c) piece)

abbrev pub feed_taken : Cutter → List ℕ → ℕ
feed_taken c piece = if is_refusal c.last then 0 else taken_for (feed_answer c piece) (current c) (length (before_first is_feed piece))

abbrev pub after_feed : Cutter → List ℕ → Cutter
after_feed c piece = if is_refusal c.last then c else after_answer (feed_answer c piece) (current c) (line_with (current c) piece).bytes

-- the answer at the end of the stream
abbrev pub judged_last : Cutter → List ℕ → Fed
judged_last c [] = fed.Ended
judged_last c (b ∷ bs) = fed_by fed.Line (line_text c.room c.number (record { bytes = b ∷ bs; is_ended = false }))

abbrev pub finish_answer : Cutter → Fed
finish_answer c = if is_refusal c.last then c.last else judged_last (current c) (current c).bytes

abbrev pub after_finish : Cutter → Cutter
after_finish c = if is_refusal c.last then c else after_answer (finish_answer c) (current c) (current c).bytes

-- the refusal of a line that has so many bytes more and so many line feeds
abbrev pub size_refusal : Cutter → ℕ → ℕ → Option Fed
size_refusal c more feeds =
    if nat_lt c.room (length c.bytes + more + feeds) && nat_le c.room most_line then Some fed.OverLimit
    else if nat_lt most_line (length c.bytes + more) then Some fed.Long
    else None

-- the text of the line at hand
abbrev pub text_at : Cutter → List ℕ
text_at c = text_of c.number c.bytes

-- What a cutter owes, where `rest` is what is still to be fed

-- the rows of the lines to come
abbrev pub rows_owed : Columns → Cutter → List ℕ → Rows
rows_owed head c rest = rows_from head (current c).room (current c).number (raw_lines ((current c).bytes ++ rest))

-- the telemetry of the lines to come, where no header came before
abbrev pub telemetry_owed : List (List ℕ) → List (List ℕ) → Cutter → List ℕ → Telemetry
telemetry_owed inputs outputs c rest = from_line inputs outputs (current c).room (current c).number (raw_lines ((current c).bytes ++ rest))

-- the same with the answer that was just given
abbrev pub rows_after : Columns → Fed → Cutter → List ℕ → Rows
rows_after head fed.More c rest = rows_owed head c rest
rows_after head fed.Line c rest = then_rows c.number (row_of head (text_at c)) (rows_owed head c rest)
rows_after head fed.Ended c rest = no_rows
rows_after head answer c rest = refused_rows (refused_at c.number (cause_of answer))

abbrev pub telemetry_after : List (List ℕ) → List (List ℕ) → Fed → Cutter → List ℕ → Telemetry
telemetry_after inputs outputs fed.More c rest = telemetry_owed inputs outputs c rest
telemetry_after inputs outputs fed.Line c rest =
    then_header c.number (header_of inputs outputs (text_at c)) (λ head. rows_owed head c rest) (telemetry_owed inputs outputs c rest)
telemetry_after inputs outputs fed.Ended c rest = no_header (refused_at 1 why.NoHeader)
telemetry_after inputs outputs answer c rest = no_header (refused_at c.number (cause_of answer))
