-- The lines of a report whose text tells what they sum up to.
use Rattle.std.specs.Prelude.{◌≡◌, true, false, List}
use Rattle.std.specs.List.{All, list_any}
use Rattle.report_text.specs.Line.{Line, model, sample, exclude, status}
use Rattle.report_text.specs.Ranges.{is_in_range}
use Rattle.report_text.specs.Laws.{is_feed}

-- a name has no line feed; the number of a sample, an exclusion and a status are in range
abbrev pub IsTold : Line → Type 0
IsTold (model i name) = list_any is_feed name ≡ false
IsTold (sample k) = is_in_range (sample k) ≡ true
IsTold (exclude i c) = is_in_range (exclude i c) ≡ true
IsTold (status i fits) = is_in_range (status i fits) ≡ true
IsTold line = Unit

abbrev pub AreTold : List Line → Type 0
AreTold lines = All IsTold lines
