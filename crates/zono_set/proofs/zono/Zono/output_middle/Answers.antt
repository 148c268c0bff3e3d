use Rattle.std.proofs.Common.{◌<◌, length, pos, ◌+ℤ◌, ap, ◌∙◌, subst, arith}
use Rattle.set_rules.specs.Columns.{at}
use Rattle.set_rules.specs.Round.{rnd, residue}
use Rattle.set_rules.specs.Zono.{Zono, InRange}
use Rattle.set_rules.specs.Strip.{raw_output}
use Rattle.fixed_mat.proofs.Bits.{back}
use Rattle.zono_set.proofs.Bound.{spread-within}
use Rattle.zono_set.proofs.Steps.{first_row}
use Rattle.zono_set.proofs.zono.Zono.output_middle.Goals as goal

pub returns-clause-nearest : goal.returns-clause-nearest
returns-clause-nearest g c =
    c.rounded_centre.ensures.nearest ∙ (λ i. rnd (first_row g.row.N c.args.c_row.now (at c.self.inside.centre) i +ℤ back c.args.du (let h = c.requires in omega arith) i)) ∙ ap (λ (z : Zono). rnd (raw_output g.row.N c.args.c_row.now c.args.du z)) c.self.view_is

pub returns-clause-residue : goal.returns-clause-residue
returns-clause-residue g c =
    c.rounded_centre.ensures.residue ∙ (λ i. residue (first_row g.row.N c.args.c_row.now (at c.self.inside.centre) i +ℤ back c.args.du (let h = c.requires in omega arith) i)) ∙ ap (λ (z : Zono). residue (raw_output g.row.N c.args.c_row.now c.args.du z)) c.self.view_is

pub returns-clause-spread : goal.returns-clause-spread
returns-clause-spread g c =
    let few = c.len.ensures.few in
    let count = c.len.ensures.value ∙ ap (λ (z : Zono). length z.columns) c.self.view_is in
    let size = c.entries.ensures.size in
    spread-within g.row.N c.args.c_row.now c.args.self.now c.self.invariant.set.high (omega arith)
    (λ l h. let below : l < length c.args.c_row.now = omega arith in c.entries.ensures.within l (pos 0) below)
    (subst (InRange g.row.N) c.self.view_is c.self.invariant.set.in_range)
