use Rattle.std.proofs.Common.{length, ap, sym, ◌∙◌, subst, arith}
use Rattle.set_rules.specs.Zono.{Zono}
use Rattle.set_rules.specs.Rows.{Czono, InsideAll}
use Rattle.set_rules.specs.Keep.{with_rows}
use Rattle.set_rules.proofs.ImageSets.{length-image}
use Rattle.set_rules.proofs.RowsHold.{image-keeps}
use Rattle.czono_set.proofs.Taken.{aligned}
use Rattle.czono_set.proofs.czono.Czono.image.Goals as goal

pub invariant_of-self-2 : goal.invariant_of-self-2
invariant_of-self-2 g c =
    let made = ap (λ (z : Zono). length z.columns) c.in_ok-image.ensures.value ∙ length-image g.row.N c.args.w c.args.a.now c.args.shift.now c.args.e.now c.self.inside.base in
    let wide = c.widen.ensures.width in
    let same = c.self.invariant in
    omega arith

pub returns-clause-encloses : goal.returns-clause-encloses
returns-clause-encloses g c q x x' v inside step =
    let z : Czono = with_rows c.self.inside.base c.self.inside.rows.rows in
    let lined_up = aligned c.self.inside.base c.self.inside.rows.rows c.self.inside.rows.width c.tell_widths.ensures c.self.invariant in
    subst (λ y. InsideAll g.row.N y x' q) (λ i. with_rows (sym c.in_ok-image.ensures.value i) (sym c.widen.ensures.rows i))
    (image-keeps g.row.N c.args.w q c.args.a.now c.args.shift.now c.args.e.now x x' v z lined_up (subst (λ y. InsideAll g.row.N y x q) (sym c.self.view_is) inside) step)
