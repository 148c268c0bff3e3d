use Rattle.std.proofs.Common.{◌≡◌, length}
use Rattle.plant_model.specs.Plant.{AllWithinLimit}
use Rattle.set_rules.specs.Limits.{input_limit}
use Rattle.dec_text.specs.Steps.{each_from}
use Rattle.telem_csv.specs.Fields.{seen}
use Rattle.telem_csv.specs.Rows.{input_in}
use Rattle.telem_csv.proofs.Each.{Left}
use Rattle.telem_csv.proofs.row.inputs_in.Given as goal

abbrev pub invariant-loop-i : goal.invariant-loop-i
invariant-loop-i l = record {
  answer : each_from 0 (input_in (seen l.fields)) l.places ≡ Left (input_in (seen l.fields)) l.places l.i l.u.items;
  range : AllWithinLimit input_limit l.u.items;
  count : length l.u.items ≡ l.i;
}
