use Rattle.std.proofs.Common.{arith}
use Rattle.telem_csv.proofs.Ends.{last_return, no_last_return, is_a_return, is_no_return}
use Rattle.telem_csv.proofs.cutter.without_return.Goals as goal

pub returns-then-last-eq13 : goal.returns-then-last-eq13
returns-then-last-eq13 c = last_return c.args.bytes.now (omega (arith, c.in-len1-up.len_at_least)) (is_a_return _ c.if-last-eq13.true)

pub returns-else-last-eq13 : goal.returns-else-last-eq13
returns-else-last-eq13 c = no_last_return c.args.bytes.now (omega (arith, c.in-len1-up.len_at_least)) (is_no_return _ c.if-last-eq13.false)
