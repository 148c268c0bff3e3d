use Rattle.std.proofs.Common.{◌≡◌, ◌<◌, length}
use Rattle.std.specs.Prelude.{All}
use Rattle.csv.specs.Records.{fields_of}
use Rattle.telem_csv.specs.Columns.{place_of, places_of}
use Rattle.telem_csv.proofs.Each.{Left}
use Rattle.telem_csv.proofs.header.places_of.Given as goal

abbrev pub invariant-loop-i : goal.invariant-loop-i
invariant-loop-i l = record {
  answer : places_of l.input (fields_of l.row) l.names ≡ Left (place_of l.input (fields_of l.row)) l.names l.i l.places.items;
  within : All (λ place. place < length (fields_of l.row)) l.places.items;
  count : length l.places.items ≡ l.i;
}
