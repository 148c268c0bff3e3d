use Rattle.std.proofs.Common.{◌≡◌, true, false}
use Rattle.report_text.specs.Seen.{line_of}
use Rattle.report_text.proofs.Guessed.{refused-no_line}
use Rattle.report_text.proofs.read.spelled_line.Goals as goal

pub returns-else-is_line-clause-none : goal.returns-else-is_line-clause-none
returns-else-is_line-clause-none c = λ l.
    refused-no_line c.args.text.now (line_of c.candidate-rep.result) l c.candidate-rep.ensures
    (λ h. let refused : false ≡ true = c.if-is_line.ensures.1 h in cc)
