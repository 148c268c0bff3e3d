use Rattle.std.proofs.Common.{◌<◌, length, unsigned_abs, arith, ap, ◌∙◌, SFits, to_z-of_z}
use mir.Syntax.{w128}
use Rattle.set_rules.proofs.Greatest.{greatest_more}
use Rattle.row_drop.proofs.shrink.greatest_in_coefs.Goals as goal

pub loop-t-preserved : goal.loop-t-preserved
loop-t-preserved c =
    let fits : SFits w128 c.at.result = record { sfits = c.at.type_inv } in
    let size = c.unsigned_abs.ensures.value ∙ ap unsigned_abs (to_z-of_z fits ∙ c.at.ensures.value) in
    let within : c.loop-t.t < length c.args.a.now = let l = c.loop-t-test.true in let long = c.len-t-end.ensures.value in omega arith in
    let more = greatest_more c.args.a.now c.loop-t.t within in
    let before = c.loop-t.invariant in
    let max_is = c.max-most.ensures in
    omega arith
