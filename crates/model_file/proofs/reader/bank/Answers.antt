use Rattle.std.proofs.Common.{[], map, length, arith}
use Rattle.std.proofs.lemmas.List.{length-map}
use Rattle.toml.specs.View.{view}
use Rattle.model_file.specs.Seen.{named}
use Rattle.model_file.proofs.Counted.{models-counts}
use Rattle.model_file.proofs.reader.bank.Goals as goal

pub new-requires : goal.new-requires
new-requires c =
    let read = rw (c.len.ensures.value, c.len-2.ensures.value) at c.in_ok-models.ensures.ok in
    let counted = models-counts (length c.in_ok-inputs.inputs) (length c.in_ok-outputs.outputs) [] 0 (map view c.in_ok-tables.tables.now) (map named c.in_ok-models.models.items) read in
    let as_many = simp length-map at counted.0 in
    let some = c.in_ok-tables.ensures.some in
    let few = c.in_ok-tables.ensures.few in
    record {
      few_inputs = c.in_ok-inputs.ensures.few;
      some_output = c.in_ok-outputs.ensures.some;
      few_outputs = c.in_ok-outputs.ensures.few;
      some_model = simp length-map (omega arith);
      few_models = simp length-map (omega arith);
      counts = counted.1;
    }
