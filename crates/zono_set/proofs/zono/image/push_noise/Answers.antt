use Rattle.std.proofs.Common.{arith, refl}
use Rattle.fixed_mat.proofs.Columns.{pushes, counted}
use Rattle.zono_set.proofs.zono.image.push_noise.Goals as goal

pub push_from-requires : goal.push_from-requires
push_from-requires g c =
    let long = counted _ _ _ _ c.loop-t.invariant in
    let room = c.requires.room in
    let dists = c.requires.dists in
    (omega arith, (omega arith, (omega arith, omega arith)))

pub loop-t-preserved : goal.loop-t-preserved
loop-t-preserved g c = pushes _ _ _ _ _ _ c.loop-t.invariant c.push_from.ensures refl
