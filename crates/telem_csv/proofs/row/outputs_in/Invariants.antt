use Rattle.std.proofs.Common.{◌≡◌, length}
use Rattle.std.specs.Prelude.{All}
use Rattle.plant_model.specs.Plant.{IsReading}
use Rattle.dec_text.specs.Steps.{each_from}
use Rattle.telem_csv.specs.Fields.{seen}
use Rattle.telem_csv.specs.Rows.{output_in}
use Rattle.telem_csv.proofs.Each.{Left}
use Rattle.telem_csv.proofs.row.outputs_in.Given as goal

abbrev pub invariant-loop-i : goal.invariant-loop-i
invariant-loop-i l = record {
  answer : each_from 0 (output_in (seen l.fields)) l.places ≡ Left (output_in (seen l.fields)) l.places l.i l.y.items;
  range : All IsReading l.y.items;
  count : length l.y.items ≡ l.i;
}
