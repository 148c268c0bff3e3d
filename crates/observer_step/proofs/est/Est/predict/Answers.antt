use Rattle.std.proofs.Common.{◌≡◌, true, false, sym, ◌∙◌}
use Rattle.observer_step.specs.Sets.{Sets, settle, either_leaves, predict_sets}
use Rattle.observer_step.proofs.BothImaged.{both-moved, both-boxed, leads-on, was_not, was}
use Rattle.observer_step.proofs.est.Est.predict.Given.{Over}
use Rattle.observer_step.proofs.est.Est.predict.Goals as goal
use Rattle.observer_step.proofs.est.Est.predict.Goals.{After-settle, After-box_both}

stays : (g : Over) (c : After-settle g) → false ≡ either_leaves c.args.plant.now c.args.u.now.items c.args.self.now
stays g c =
    sym (was_not (either_leaves c.args.plant.now c.deref.result.now (record { plain = c.self.inside.plain; constrained = c.self.inside.constrained }))
    (sym c.take_images.ensures.stays ∙ c.if-take_images.true))
    ∙ (λ i. either_leaves c.args.plant.now (c.deref.ensures.0 i) (c.self.view_is i))

-- the images, where neither left the range
moved : (g : Over) (c : After-settle g) → record { plain = c.take_images.new.plain; constrained = c.settle.new.self } ≡ predict_sets c.args.plant.now c.args.u.now.items c.args.self.now
moved g c =
    let p = c.args.plant.now in
    let old : Sets = record { plain = c.self.inside.plain; constrained = c.self.inside.constrained } in
    let new : Sets = record { plain = c.take_images.new.plain; constrained = c.settle.new.self } in
    let u = c.deref.result.now in
    let stays : either_leaves p u old ≡ false = was_not (either_leaves p u old) (sym c.take_images.ensures.stays ∙ c.if-take_images.true) in
    let settled = c.settle.ensures.value ∙ (λ i. settle (sym c.states.ensures.states i) (c.take_images.ensures.constrained c.if-take_images.true i)) in
    both-moved p u old new stays (λ i. record { plain = c.take_images.ensures.plain c.if-take_images.true i; constrained = settled i })
    ∙ (λ i. predict_sets p (c.deref.ensures.0 i) (c.self.view_is i))

pub returns-then-take_images-clause-sets : goal.returns-then-take_images-clause-sets
returns-then-take_images-clause-sets g c = moved g (goal.at.returns-then-take_images-clause-sets g c).After-settle

pub returns-then-take_images-clause-ready : goal.returns-then-take_images-clause-ready
returns-then-take_images-clause-ready g c =
    leads-on c.args.plant.now c.args.u.now.items c.args.self.now (record { plain = c.take_images.new.plain; constrained = c.settle.new.self }) false
    (moved g (goal.at.returns-then-take_images-clause-ready g c).After-settle) (stays g (goal.at.returns-then-take_images-clause-ready g c).After-settle)

leaves : (g : Over) (c : After-box_both g) → true ≡ either_leaves c.args.plant.now c.args.u.now.items c.args.self.now
leaves g c =
    sym (was (either_leaves c.args.plant.now c.deref.result.now (record { plain = c.self.inside.plain; constrained = c.self.inside.constrained }))
    (sym c.take_images.ensures.stays ∙ c.if-take_images.false))
    ∙ (λ i. either_leaves c.args.plant.now (c.deref.ensures.0 i) (c.self.view_is i))

-- the state boxes, where one did
boxed : (g : Over) (c : After-box_both g) → record { plain = c.box_both.new.plain; constrained = c.box_both.new.constrained } ≡ predict_sets c.args.plant.now c.args.u.now.items c.args.self.now
boxed g c =
    let new : Sets = record { plain = c.box_both.new.plain; constrained = c.box_both.new.constrained } in
    both-boxed c.args.plant.now c.args.u.now.items c.args.self.now new (sym (leaves g c))
    (λ i. record { plain = c.box_both.ensures.plain i; constrained = c.box_both.ensures.constrained i })

pub returns-clause-sets : goal.returns-clause-sets
returns-clause-sets g c = boxed g (goal.at.returns-clause-sets g c).After-box_both

pub returns-clause-ready : goal.returns-clause-ready
returns-clause-ready g c =
    leads-on c.args.plant.now c.args.u.now.items c.args.self.now (record { plain = c.box_both.new.plain; constrained = c.box_both.new.constrained }) true
    (boxed g (goal.at.returns-clause-ready g c).After-box_both) (leaves g (goal.at.returns-clause-ready g c).After-box_both)
