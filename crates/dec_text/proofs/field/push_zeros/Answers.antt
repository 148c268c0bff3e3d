use Rattle.std.proofs.Common.{arith}
use Rattle.std.proofs.Math.Nat.{pow-suc}
use Rattle.std.proofs.Math.Numerals.{add-one}
use Rattle.dec_text.proofs.field.push_zeros.Goals as goal

pub loop-i-preserved : goal.loop-i-preserved
loop-i-preserved c =
    rw (add-one c.loop-i.i, pow-suc 10 c.loop-i.i)
    (omega (arith, c.loop-i.invariant, c.push_digit-total.ensures))
