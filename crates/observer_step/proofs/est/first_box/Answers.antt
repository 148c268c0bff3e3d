use Rattle.std.proofs.Common.{◌≤◌, length, pos, sym, arith, subst}
use Rattle.set_rules.specs.Zono.{Zono}
use Rattle.observer_step.proofs.Boxes.{box-fits, box-room}
use Rattle.observer_step.proofs.est.first_box.Goals as goal

pub unwrap-requires : goal.unwrap-requires
unwrap-requires g c =
    let e = c.states.ensures.states in
    let p = c.args.plant.now in
    let shape = c.states.ensures.shape in
    let limits = c.states.ensures.limits in
    box-fits g.row.N p.centre p.radius (λ i l. (limits.radius_size i (pos 0) (let long = shape.radius_size in omega arith)).0) (λ i l. limits.box_small i (omega arith))
    c.of_box.result (rw (c.centre.ensures, c.radius.ensures) at c.of_box.ensures.refused)

pub returns-clause-room : goal.returns-clause-room
returns-clause-room g c =
    let e = c.states.ensures.states in
    let few = c.states.ensures.limits.few_states in
    subst (λ (z : Zono). length z.columns ≤ 64) (sym (rw c.unwrap.ensures at c.of_box.ensures.value)) (box-room g.row.N c.centre.result.now c.radius.result.now (omega arith))
