use Rattle.std.proofs.Common.{[], ◌∷◌, ◌++◌, ap, ◌∙◌, arith, rules, length, to_z-of_z}
use Rattle.set_rules.specs.Products.{row_with}
use Rattle.fixed_mat.proofs.Around.{length-around, around_pushed}
use Rattle.fixed_mat.proofs.ring.RowRing.push.Goals as goal

pub returns : goal.returns
returns c =
    let q = c.self.inside in
    let long = length-around q.first q.count q.slots in
    let shown = ap length c.self.view_is in
    let room = c.requires in
    around_pushed q.first q.count q.slots _ c.self.invariant.starts (omega arith) (search rules)
    ∙ (λ i. c.self.view_is i ++ (c.set_to.ensures ∙ ap (row_with c.args.a.now) (to_z-of_z c.ranges.b)) i ∷ [])
