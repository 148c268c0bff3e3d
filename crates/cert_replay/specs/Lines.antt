-- The lines of a report as bytes, and how many there may be of them.
use Rattle.std.specs.Prelude.{◌≡◌, ℕ, ◌+◌, ◌<◌, true, List, ◌∷◌, ◌++◌, drop, take, flat_map}
use Rattle.model_bank.specs.Stepping.{Refusal}
use Rattle.report_text.specs.Line.{Line, sample}
use Rattle.report_rules.specs.Lines.{model_lines, pred_lines}
use Rattle.report_rules.specs.Replay.{is_short_line}

-- the most bytes of a line with its line feed
abbrev pub most_line : ℕ
most_line = 257

-- the most lines of a sample
abbrev pub most_lines : ℕ
most_lines = 243

-- room for the lines of a sample and a piece
abbrev pub room : ℕ
room = 66_547

-- the lines of sample k up to the predictions of the model that is refused
abbrev pub lines_to_refused : ℕ → Refusal → List Line
lines_to_refused k refusal = sample k ∷ flat_map model_lines refusal.before ++ pred_lines refusal.model refusal.predicted

-- a short line ends before a line feed at this place
pub record IsShortFront (at : ℕ) (bytes : List ℕ) : Type 0 where
  pub short : is_short_line (take at bytes) ≡ true
  pub are : bytes ≡ take at bytes ++ 10 ∷ drop (at + 1) bytes
  pub near : at < most_line
