-- Lines that are put.
use Rattle.std.specs.Prelude.{List, Result}
use Rattle.outside_io.specs.Sink.{SinkState, PutsAll}
use Rattle.outside_io.specs.declared.sink.PutFault.{PutFault}
use Rattle.model_bank.specs.Answers.{ModelAnswer}
use Rattle.report_text.specs.Line.{Line, lines_text}
use Rattle.report_rules.specs.Lines.{outcome_lines}

-- the lines that say what became of a model at a sample
abbrev pub model_outcome : ModelAnswer → List Line
model_outcome m = outcome_lines m.index m.answer.certificate m.answer.hulls m.answer.is_widened

-- all these lines were put, or a front of them with a cause
abbrev pub PutsLines : List Line → SinkState → Result Unit PutFault → SinkState → Type 0
PutsLines lines before result after = PutsAll (lines_text lines) before result after
