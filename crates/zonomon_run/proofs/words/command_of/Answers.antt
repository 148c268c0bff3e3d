use Rattle.std.proofs.Common.{◌∙◌}
use Rattle.zonomon_run.proofs.ByCount.{four-of}
use Rattle.zonomon_run.proofs.words.command_of.Goals as goal

pub returns-in-4 : goal.returns-in-4
returns-in-4 c = c.three_names.ensures
    ∙ four-of c.args.words.now c.index-words-0-in-4.result c.index-words-1-in-4.result c.index-words-2-in-4.result c.index-words-3.result _ _ _ _ c.in-4.is
    c.as_str-in-4.ensures.value c.as_str-in-4-2.ensures.value c.as_str-in-4-3.ensures.value c.as_str-in-4-4.ensures.value
    c.index-words-0-in-4.is c.index-words-1-in-4.is c.index-words-2-in-4.is c.index-words-3.is
