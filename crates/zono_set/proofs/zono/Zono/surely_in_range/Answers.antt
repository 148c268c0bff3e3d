use Rattle.std.proofs.Common.{◌∙◌, arith, below_more, SFits, to_z-of_z}
use Rattle.std.proofs.lemmas.Int.{ints}
use mir.Syntax.{w128}
use Rattle.zono_set.proofs.Bound.{reach-bounded}
use Rattle.zono_set.proofs.zono.Zono.surely_in_range.Goals as goal

pub loop-i-preserved : goal.loop-i-preserved
loop-i-preserved g c =
    let bounded = reach-bounded g.row.N c.args.w c.args.a.now c.args.shift.now c.args.e.now c.args.self.now c.loop-i.i c.loop-i-test.true in
    let fits : SFits w128 c.reach_bound.result = record { sfits = c.reach_bound.type_inv } in
    let value = to_z-of_z fits ∙ c.reach_bound.ensures in
    let test = c.if-reach_bound-gt1000000000000000000000000000.false in
    below_more _ _ c.loop-i.invariant (omega (arith, ints))
