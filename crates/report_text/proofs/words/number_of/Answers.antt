use Rattle.std.proofs.Common.{arith}
use Rattle.dec_text.proofs.Digits.{number_more}
use Rattle.report_text.proofs.words.number_of.Goals as goal

pub loop-c-preserved : goal.loop-c-preserved
loop-c-preserved c = rw (number_more c.args.word.now c.loop-c.c-index c.loop-c-test.true) (omega (arith, c.loop-c.invariant))
