-- The laws of the lines that are in range.
use Rattle.std.specs.Prelude.{◌≡◌, ◌≤◌, ℕ, true, false, ◌==◌, Bool, List, ◌++◌, length}
use Rattle.std.specs.List.{list_any}
use Rattle.farkas_check.specs.Certificate.{Certificate}
use Rattle.report_text.specs.Line.{Line, exclude, line_text, put_text}
use Rattle.report_text.specs.Ranges.{is_in_range, is_model_index, is_certificate}

abbrev pub is_feed : ℕ → Bool
is_feed c = c == 10

-- one text is one line
abbrev pub LinesDiffer : Type 0
LinesDiffer = (l l' : Line) → is_in_range l ≡ true → is_in_range l' ≡ true → line_text l ≡ line_text l' → l ≡ l'

abbrev pub LinesAreShort : Type 0
LinesAreShort = (l : Line) → is_in_range l ≡ true → length (line_text l) ≤ 192

abbrev pub LinesHaveNoFeed : Type 0
LinesHaveNoFeed = (l : Line) → is_in_range l ≡ true → list_any is_feed (line_text l) ≡ false

-- lines that are put before other bytes are told from the bytes
abbrev pub FrontsDiffer : Type 0
FrontsDiffer = (l l' : Line) (rest rest' : List ℕ) → is_in_range l ≡ true → is_in_range l' ≡ true
    → put_text l ++ rest ≡ put_text l' ++ rest' → (l ≡ l') × (rest ≡ rest')

-- the same of two certificates for the exclusion of one model
abbrev pub ExclusionsDiffer : Type 0
ExclusionsDiffer = (i : ℕ) (c c' : Certificate) (rest rest' : List ℕ)
    → is_model_index i ≡ true → is_certificate c ≡ true → is_certificate c' ≡ true
    → put_text (exclude i c) ++ rest ≡ put_text (exclude i c') ++ rest' → (c ≡ c') × (rest ≡ rest')
