use Rattle.std.proofs.Common.{◌≡◌, ◌≤◌, ◌-◌, List, length, drop}
use Rattle.report_text.specs.Line.{Line, lines_text}
use Rattle.report_summary.specs.Told.{AreTold}
use Rattle.report_summary.proofs.Stands.{Stands}
use Rattle.report_summary.proofs.summary.Summary.of.Given as goal

abbrev pub invariant-lines : goal.invariant-lines
invariant-lines l = record {
  within : l.at ≤ length l.report;
  few : l.summary.undecided ≤ l.at;
  stands : (lines : List Line) → AreTold lines → l.report ≡ lines_text lines → (rest : List Line) × Stands lines rest (drop l.at l.report) l.summary;
}

abbrev pub decreases-lines : goal.decreases-lines
decreases-lines l = length l.report - l.at
