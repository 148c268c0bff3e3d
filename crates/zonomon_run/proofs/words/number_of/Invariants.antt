use Rattle.std.proofs.Common.{◌≡◌, ◌<◌, ◌^◌, take}
use Rattle.dec_text.specs.Decimal.{number}
use Rattle.zonomon_run.proofs.words.number_of.Given as goal

abbrev pub invariant-loop-c : goal.invariant-loop-c
invariant-loop-c l = record {
  value : l.number ≡ number (take l.c-index l.text);
  small : l.number < 10 ^ l.c-index;
}
