use Rattle.std.proofs.Common.{[], ◌∷◌, ◌++◌, ap, sym, ◌∙◌, subst, to_z-of_z}
use Rattle.set_rules.specs.Rows.{InsideAll, IsAligned}
use Rattle.set_rules.specs.Products.{row_with}
use Rattle.set_rules.specs.Keep.{with_rows, cut}
use Rattle.set_rules.proofs.RowsHold.{inside-cut}
use Rattle.czono_set.proofs.Taken.{aligned}
use Rattle.czono_set.proofs.czono.Czono.keep.Goals as goal

pub returns-clause-value : goal.returns-clause-value
unfolding cut
returns-clause-value g c =
    (λ i. with_rows (c.add_symbol.ensures.value i) ((c.push.ensures.rows ∙ (λ j. c.widen.ensures.rows j ++ row_with c.args.a.now (to_z-of_z c.ranges.b j) ∷ [])) i))
    ∙ ap (cut g.row.N (row_with c.args.a.now c.args.b)) c.self.view_is

pub returns-clause-holds : goal.returns-clause-holds
returns-clause-holds g c q x inside more =
    let lined_up : IsAligned c.args.self.now = subst IsAligned c.self.view_is (aligned c.self.inside.base c.self.inside.rows.rows c.self.inside.rows.width c.tell_widths.ensures c.self.invariant) in
    subst (λ z. InsideAll g.row.N z x q) (sym (returns-clause-value g c)) (inside-cut g.row.N q (row_with c.args.a.now c.args.b) c.args.self.now x lined_up inside more)
