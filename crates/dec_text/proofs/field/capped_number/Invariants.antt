use Rattle.std.proofs.Common.{◌≡◌, take, min}
use Rattle.dec_text.specs.Decimal.{number}
use Rattle.dec_text.proofs.field.capped_number.Given as goal

abbrev pub invariant-loop-c : goal.invariant-loop-c
invariant-loop-c l = l.number ≡ min (number (take l.c-index l.digits)) l.bound
