use Rattle.std.proofs.Common.{IsTrue, SFits, to_z-of_z, sym, ◌∙◌, subst₂}
use mir.Syntax.{w128}
use Rattle.farkas_check.specs.Sides.{OpposedAt}
use Rattle.farkas_check.proofs.Sides.{opposed-none}
use Rattle.farkas_check.proofs.candidates.candidate_at.Goals as goal

pub returns-then-are_opposed_at : goal.returns-then-are_opposed_at
returns-then-are_opposed_at c =
    let pair = c.args.pair.now in
    let first : SFits w128 c.coef-a.result = record { sfits = c.coef-a.type_inv } in
    let second : SFits w128 c.coef-b.result = record { sfits = c.coef-b.type_inv } in
    sym (opposed-none c.args.rows.now pair c.requires.pair c.args.t (c.requires.opposed c.if-opposed_fail.true)
    (subst₂ (OpposedAt pair) (to_z-of_z first ∙ c.coef-a.ensures.value) (to_z-of_z second ∙ c.coef-b.ensures.value) (c.are_opposed_at.ensures c.if-are_opposed_at.true)))
