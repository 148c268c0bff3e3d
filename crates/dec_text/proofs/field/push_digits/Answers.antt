use Rattle.std.proofs.Common.{arith}
use Rattle.dec_text.proofs.Digits.{number_after-more}
use Rattle.dec_text.proofs.field.push_digits.Goals as goal

pub loop-c-preserved : goal.loop-c-preserved
loop-c-preserved c = rw (number_after-more c.args.tenths c.args.digits.now c.loop-c.c-index c.loop-c-test.true) (omega (arith, c.loop-c.invariant, c.push_digit-total.ensures))
