use Rattle.std.proofs.Common.{ap, ◌∙◌}
use Rattle.std.specs.Prelude.{Err}
use Rattle.report_text.specs.Seen.{line_of}
use Rattle.report_summary.proofs.Reading.{line-read, line-unread}
use Rattle.report_summary.proofs.summary.Summary.take_text.Goals as goal

pub returns-in-Ok-clause-taken : goal.returns-in-Ok-clause-taken
returns-in-Ok-clause-taken c = λ line told is. c.take.ensures.taken ∙ line-read c.args.self.now line (line_of c.in-Ok.line) c.args.text.now told is c.in-Ok.ensures.line

pub returns-in_default-clause-taken : goal.returns-in_default-clause-taken
returns-in_default-clause-taken c = λ line told is.
    line-unread c.args.self.now line c.args.text.now c.in_default.field-0 told is
    (λ e. c.read_line.ensures.too_long.0 (c.in_default.is ∙ ap Err e)) (λ e. c.read_line.ensures.no_form (c.in_default.is ∙ ap Err e))
