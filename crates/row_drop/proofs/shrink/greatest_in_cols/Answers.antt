use Rattle.std.proofs.Common.{◌<◌, length, arith, ap, ◌∙◌}
use Rattle.set_rules.specs.Reduce.{greatest}
use Rattle.set_rules.proofs.Greatest.{greatest_entry_more}
use Rattle.row_drop.proofs.shrink.greatest_in_cols.Goals as goal

pub loop-t-preserved : goal.loop-t-preserved
loop-t-preserved g c =
    let size = c.greatest_in.ensures ∙ ap greatest c.column.ensures.value in
    let within : c.loop-t.t < length c.args.cols.now = let l = c.loop-t-test.true in let long = c.len-t-end.ensures.value in omega arith in
    let more = greatest_entry_more c.args.cols.now c.loop-t.t within in
    let before = c.loop-t.invariant in
    let max_is = c.max-most.ensures in
    omega arith
