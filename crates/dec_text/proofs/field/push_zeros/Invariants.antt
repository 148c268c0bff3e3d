use Rattle.std.proofs.Common.{◌≡◌, ◌*◌, ◌^◌, min}
use Rattle.dec_text.specs.declared.field.TheConstants.{MOST_TENTHS}
use Rattle.dec_text.proofs.field.push_zeros.Given as goal

abbrev pub invariant-loop-i : goal.invariant-loop-i
invariant-loop-i l = l.total ≡ min (l.tenths * 10 ^ l.i) MOST_TENTHS
