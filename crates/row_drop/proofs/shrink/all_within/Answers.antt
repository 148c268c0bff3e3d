use Rattle.std.proofs.Common.{◌<◌, ◌≤◌, length, arith, subst}
use Rattle.std.proofs.lemmas.Nat.{le_or_l, le_or_r}
use Rattle.set_rules.specs.Reduce.{greatest}
use Rattle.set_rules.proofs.Greatest.{greatest_entry_more}
use Rattle.row_drop.proofs.shrink.all_within.Goals as goal

pub loop-t-preserved : goal.loop-t-preserved
loop-t-preserved g c low =
    let left = le_or_l c.loop-t.bits c.raised_bits-bits.result in
    let right = le_or_r c.loop-t.bits c.raised_bits-bits.result in
    let before = c.loop-t.invariant (omega arith) in
    let size = subst (λ column. greatest column ≤ c.args.limit) c.column.ensures.value (c.raised_bits-bits.ensures (omega arith)) in
    let within : c.loop-t.t < length c.args.cols.now = let l = c.loop-t-test.true in let long = c.len-t-end.ensures.value in omega arith in
    let more = greatest_entry_more c.args.cols.now c.loop-t.t within in
    omega arith
