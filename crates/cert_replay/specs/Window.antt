-- The report as far as it was read and is not compared yet.
use Rattle.std.specs.Prelude.{◌≡◌, ◌≢◌, ℕ, ◌+◌, ◌*◌, ◌<◌, ◌≤◌, true, List, ◌∷◌, ◌++◌, length, drop, Option, Some, None, slice_range}
use Rattle.std.specs.List.{list_all, count_by}
use Rattle.outside_io.specs.Shelf.{ShelfState}
use Rattle.report_text.specs.Laws.{is_feed}
use Rattle.report_rules.specs.Replay.{with_feeds, is_short_line, HasNoLine}
use Rattle.cert_replay.specs.Lines.{most_line}
use Rattle.cert_replay.specs.declared.window.Window.{Window}

abbrev pub left_in : Window → List ℕ
left_in w = slice_range w.bytes w.at w.end

-- what is unread of the report: what the window has left, and what its slot has still to give, where that is told
pub record HasUnread (w : Window) (shelf : ShelfState) (unread : List ℕ) : Type 0 where
  pub rest : List ℕ
  pub told : (shelf.slot 2).rest ≡ Some rest
  pub is : unread ≡ left_in w ++ rest

-- reading on changes nothing of what is unread, and the window has what it had and more
pub record ReadsAhead (w : Window) (shelf : ShelfState) (w' : Window) (shelf' : ShelfState) : Type 0 where
  pub same : (unread : List ℕ) → HasUnread w shelf unread → HasUnread w' shelf' unread
  pub piece : List ℕ
  pub grows : left_in w' ≡ left_in w ++ piece
  pub lines : w'.lines ≡ w.lines

-- n short lines stand between these places
pub record LinesStand (n from to : ℕ) (bytes : List ℕ) : Type 0 where
  pub ts : List (List ℕ)
  pub as_many : length ts ≡ n
  pub short : list_all is_short_line ts ≡ true
  pub are : drop from bytes ≡ with_feeds ts ++ drop to bytes
  pub within : to ≤ length bytes
  pub near : to ≤ from + most_line * n

-- fewer than n stand from this place on; what was read has them
pub record LinesStop (n from : ℕ) (bytes unread : List ℕ) : Type 0 where
  pub ts : List (List ℕ)
  pub rest : List ℕ
  pub fewer : length ts < n
  pub short : list_all is_short_line ts ≡ true
  pub are : drop from unread ≡ with_feeds ts ++ rest
  pub none : HasNoLine rest
  pub within : from + length (with_feeds ts) ≤ length bytes

-- n lines were taken from a place on, where lines were taken up to there
abbrev pub TakesLines : ℕ → Option ℕ → Window → ShelfState → Window → Option ℕ → Type 0
TakesLines n None w shelf w' to = to ≡ None
TakesLines n (Some from) w shelf w' (Some to) = LinesStand n from to (left_in w')
TakesLines n (Some from) w shelf w' None = (unread : List ℕ) → HasUnread w shelf unread → LinesStop n from (left_in w') unread

-- the text and the bytes agree in these, and then the text goes on with a byte with which the bytes do not go on
pub record PartsBehind (text bytes same : List ℕ) : Type 0 where
  pub next : ℕ
  pub more : List ℕ
  pub rest : List ℕ
  pub text_is : text ≡ same ++ next ∷ more
  pub bytes_are : bytes ≡ same ++ rest
  pub other : (r : List ℕ) → rest ≢ next ∷ r

-- the text stood at the front and was compared
pub record TakesText (text : List ℕ) (w w' : Window) : Type 0 where
  pub are : left_in w ≡ text ++ left_in w'
  pub lines : w'.lines ≡ w.lines + count_by is_feed text

-- what is left departs from the text, in this line
pub record DepartsFrom (text : List ℕ) (w : Window) (line : ℕ) : Type 0 where
  pub same : List ℕ
  pub parts : PartsBehind text (left_in w) same
  pub line_is : line ≡ w.lines + count_by is_feed same + 1

-- it departs from the text, or the line is the one behind it
pub data DepartsBehind (text : List ℕ) (w : Window) (line : ℕ) : Type 0 where
  within : DepartsFrom text w line → DepartsBehind text w line
  behind : (rest : List ℕ) → left_in w ≡ text ++ rest → line ≡ w.lines + count_by is_feed text + 1 → DepartsBehind text w line
