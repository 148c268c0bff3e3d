use Rattle.std.proofs.Common.{◌++◌, ap, ◌∙◌, append_assoc}
use Rattle.report_text.specs.Line.{number_word}
use Rattle.report_text.proofs.write.push_counted.Goals as goal

pub returns-clause-text : goal.returns-clause-text
returns-clause-text c =
    c.push_count.ensures.text ∙ ap (λ t. t ++ number_word c.args.count) c.push_text.ensures.text
    ∙ append_assoc c.args.line.now.items c.args.word.now (number_word c.args.count)
