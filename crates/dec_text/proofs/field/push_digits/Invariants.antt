use Rattle.std.proofs.Common.{◌≡◌, take, min}
use Rattle.dec_text.specs.Decimal.{number_after}
use Rattle.dec_text.specs.declared.field.TheConstants.{MOST_TENTHS}
use Rattle.dec_text.proofs.field.push_digits.Given as goal

abbrev pub invariant-loop-c : goal.invariant-loop-c
invariant-loop-c l = l.total ≡ min (number_after l.tenths (take l.c-index l.digits)) MOST_TENTHS
