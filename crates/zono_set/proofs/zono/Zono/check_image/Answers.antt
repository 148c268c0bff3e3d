use Rattle.std.proofs.Common.{◌∙◌, arith, below_more, SFits, to_z-of_z}
use Rattle.std.proofs.lemmas.Int.{ints}
use mir.Syntax.{w128}
use Rattle.zono_set.proofs.zono.Zono.check_image.Goals as goal

pub loop-i-preserved : goal.loop-i-preserved
loop-i-preserved g c =
    let fits : SFits w128 c.reach_after-mag.result = record { sfits = c.reach_after-mag.type_inv } in
    let value = to_z-of_z fits ∙ c.reach_after-mag.ensures in
    let test = c.if-mag-gt1000000000000000000.false in
    below_more _ _ c.loop-i.invariant (omega (arith, ints))
