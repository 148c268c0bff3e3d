use Rattle.std.proofs.Common.{length, not, arith, ap, sym}
use Rattle.set_rules.specs.Zono.{Zono}
use Rattle.set_rules.proofs.ReductionHolds.{reduction-fits}
use Rattle.observer_step.specs.Sets.{Sets}
use Rattle.observer_step.proofs.Imaged.{image-stays, image-leaves, image-room}
use Rattle.observer_step.proofs.BothImaged.{both-stay, first-leaves, second-leaves}
use Rattle.observer_step.proofs.est.take_images.Goals as goal

pub image-requires : goal.image-requires
image-requires g c =
    let states = c.states.ensures.states in
    let most = c.states.ensures.limits.few_states in
    let kept = reduction-fits g.row.N 48 c.args.plain.now.columns (omega arith) in
    let is = ap (λ (z : Zono). length z.columns) c.reduce.ensures.value in
    let dists = c.dists.ensures.few in
    (omega arith, (omega arith, (omega arith, (omega arith, (dists, omega arith)))))

pub returns-in-Err-clause-stays : goal.returns-in-Err-clause-stays
returns-in-Err-clause-stays g c =
    let sets : Sets = record { plain = c.args.plain.now; constrained = c.args.constrained.now } in
    sym (ap not (first-leaves c.args.plant.now c.args.u.now sets
    (image-leaves c.args.plant.now c.args.u.now c.args.plain.now g.row.N c.states.ensures.states c.a.result.now c.shift-shift.result c.e.result.now c.dists.result c.a.ensures c.shift-shift.ensures c.e.ensures c.dists.ensures.value
    c.reduce.new.self c.reduce.ensures.value c.in-Err.field-0.i c.in-Err.field-0.mag c.in-Err.ensures.refused.0 c.in-Err.ensures.refused.1)))

pub returns-in-Err-image-clause-stays : goal.returns-in-Err-image-clause-stays
returns-in-Err-image-clause-stays g c =
    sym (ap not (second-leaves c.args.plant.now c.args.u.now c.args.constrained.now g.row.N c.states.ensures.states c.a-in-Ok.result.now c.shift-shift.result c.e-in-Ok.result.now c.dists-in-Ok.result
    c.a-in-Ok.ensures c.shift-shift.ensures c.e-in-Ok.ensures c.dists-in-Ok.ensures.value c.args.plain.now c.in-Err-image.field-0.i c.in-Err-image.field-0.mag
    (image-stays c.args.plant.now c.args.u.now c.args.plain.now g.row.N c.states.ensures.states c.a.result.now c.shift-shift.result c.e.result.now c.dists.result c.a.ensures c.shift-shift.ensures c.e.ensures c.dists.ensures.value
    c.reduce.new.self c.reduce.ensures.value c.in-Ok.ensures.in_range)
    c.in-Err-image.ensures.refused.0 c.in-Err-image.ensures.refused.1))

pub returns-in-Ok-image-clause-stays : goal.returns-in-Ok-image-clause-stays
returns-in-Ok-image-clause-stays g c =
    sym (ap not (both-stay c.args.plant.now c.args.u.now c.args.constrained.now g.row.N c.states.ensures.states c.a-in-Ok.result.now c.shift-shift.result c.e-in-Ok.result.now c.dists-in-Ok.result
    c.a-in-Ok.ensures c.shift-shift.ensures c.e-in-Ok.ensures c.dists-in-Ok.ensures.value c.args.plain.now
    (image-stays c.args.plant.now c.args.u.now c.args.plain.now g.row.N c.states.ensures.states c.a.result.now c.shift-shift.result c.e.result.now c.dists.result c.a.ensures c.shift-shift.ensures c.e.ensures c.dists.ensures.value
    c.reduce.new.self c.reduce.ensures.value c.in-Ok.ensures.in_range)
    c.in-Ok-image.ensures.in_range))

pub returns-in-Ok-image-clause-room : goal.returns-in-Ok-image-clause-room
returns-in-Ok-image-clause-room g c _ =
    let states = c.states.ensures.states in
    let most = c.states.ensures.limits.few_states in
    let kept = reduction-fits g.row.N 48 c.args.plain.now.columns (omega arith) in
    let is = ap (λ (z : Zono). length z.columns) c.reduce.ensures.value in
    image-room g.row.N c.dists.result c.a.result.now c.shift-shift.result c.e.result.now c.reduce.new.self c.image.new.self (omega arith) c.dists.ensures.few (omega arith) c.in-Ok.ensures.value
