use Rattle.std.proofs.Common.{◌≡◌, ◌-◌, ◌++◌, length, drop}
use Rattle.dec_text.specs.Printed.{places_text}
use Rattle.dec_text.proofs.printing.places.Given as goal

abbrev pub invariant-loop-t : goal.invariant-loop-t
invariant-loop-t l = record {
  long : length l.digits ≡ 9;
  text : places_text (9 - l.t) l.rest ++ drop (9 - l.t) l.digits ≡ places_text 9 l.n;
}
