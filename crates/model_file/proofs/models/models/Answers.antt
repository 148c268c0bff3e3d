use Rattle.std.proofs.Common.{◌∙◌, arith, rules}
use Rattle.model_file.proofs.NextModel.{next_model}
use Rattle.model_file.proofs.models.models.Goals as goal

pub loop-i-preserved : goal.loop-i-preserved
loop-i-preserved c =
    let read = rw c.deref.ensures.value at c.in_ok-next.ensures in
    c.loop-i.invariant
    ∙ next_model c.args.inputs c.args.outputs c.args.tables.now c.loop-i.i c.index-tables-i.result c.loop-i.models.items c.push.new.self.items c.in_ok-next.next (omega arith) c.index-tables-i.is read (search rules)
