use Rattle.std.proofs.Common.{◌≡◌, take, min}
use Rattle.dec_text.specs.Decimal.{number}
use Rattle.report_text.proofs.words.number_of.Given as goal

abbrev pub invariant-loop-c : goal.invariant-loop-c
invariant-loop-c l = l.number ≡ min (number (take l.c-index l.word)) l.most
