-- What is said of a report that is refused.
use Rattle.std.specs.Prelude.{ℕ, List, ◌++◌, codes, decimal}

-- the line of a report's refusal at this line, without its line feed
abbrev pub report_refusal : ℕ → List ℕ
report_refusal line = codes "report refused: line " ++ decimal line
