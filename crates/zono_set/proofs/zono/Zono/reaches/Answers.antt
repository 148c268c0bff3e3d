use Rattle.std.proofs.Common.{[], length, arith, ap, ◌∙◌, SFits, to_z-of_z}
use Rattle.std.proofs.lemmas.List.FromFn.{length-map-range_with_len}
use mir.Syntax.{w64}
use Rattle.fixed_mat.proofs.Columns.{pushes}
use Rattle.zono_set.proofs.zono.Zono.reaches.Goals as goal

pub push-requires : goal.push-requires
push-requires g c =
    let long = ap length c.loop-i.invariant ∙ length-map-range_with_len _ 0 c.loop-i.i in
    let small = c.reach.ensures.states in
    (omega arith, omega arith)

pub loop-i-preserved : goal.loop-i-preserved
loop-i-preserved g c =
    let fits : SFits w64 c.reach.result = record { sfits = c.reach.type_inv } in
    pushes [] _ _ _ _ _ c.loop-i.invariant c.push.ensures.items (to_z-of_z fits ∙ c.reach.ensures.value)
