use Rattle.std.proofs.Common.{◌≡◌, ◌<◌, ◌++◌, length, drop}
use Rattle.std.specs.Prelude.{IfSome}
use Rattle.std.specs.Option.{option_to_list}
use Rattle.csv.specs.Records.{fields_of}
use Rattle.telem_csv.specs.Columns.{places_from}
use Rattle.telem_csv.proofs.header.place_of.Given as goal

abbrev pub invariant-loop-i : goal.invariant-loop-i
invariant-loop-i l = record {
  places : places_from 0 l.name (fields_of l.row) ≡ option_to_list l.found ++ places_from l.i l.name (drop l.i (fields_of l.row));
  within : IfSome l.found (λ place. place < length (fields_of l.row));
}
