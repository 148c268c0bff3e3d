use Rattle.std.proofs.Common.{◌<◌, length, map, ap, sym, ◌∙◌, subst, arith}
use Rattle.set_rules.specs.Zono.{Zono}
use Rattle.set_rules.specs.Rows.{Czono, row_at, widened_by, InsideAll, IsAligned}
use Rattle.set_rules.specs.Gain.{gain, is_used}
use Rattle.set_rules.specs.Keep.{with_rows, drop_oldest}
use Rattle.set_rules.proofs.RowsHold.{drop-keeps}
use Rattle.set_rules.proofs.SubstitutionHolds.{length-substitution}
use Rattle.fixed_mat.proofs.Bits.{back}
use Rattle.czono_set.proofs.Taken.{taken, left, aligned, used_up_is, substitute-yes, substitute-no, was-used, was-left}
use Rattle.czono_set.proofs.czono.Czono.drop_oldest_in.Goals as goal

pub invariant_of-self : goal.invariant_of-self
invariant_of-self g c =
    let base = c.self.inside.base in
    let within = c.rhs-right.ensures.within in
    let right = back c.rhs-right.result (omega arith) in
    let made = used_up_is g.row.N base (row_at c.self.inside.rows.rows 0) c.row-oldest.result.now c.gain_within-gain.result c.cols.result.now _ c.row-oldest.ensures.value (right ∙ c.rhs-right.ensures.value) c.cols.ensures.value c.gain_within-gain.ensures in
    let used = was-used _ (sym c.substitute_in-used.ensures.used ∙ c.in-Yes.is) in
    let is = ap (λ (z : Zono). length z.columns) (c.substitute_in-used.ensures.value ∙ substitute-yes g.row.N c.gain_within-gain.result _ base used ∙ made)
    ∙ length-substitution g.row.N 0 (gain g.row.N base.columns (row_at c.self.inside.rows.rows 0).coefficients) (row_at c.self.inside.rows.rows 0) base in
    let wide = c.widen.ensures.width in
    let dropped = c.drop_first.ensures.width in
    let some : 0 < length c.self.inside.rows.rows = subst (λ (z : Czono). 0 < length z.rows) (sym c.self.view_is) c.requires.some in
    let each = c.tell_widths.ensures 0 some in
    omega arith

pub returns-in-Yes-clause-value : goal.returns-in-Yes-clause-value
returns-in-Yes-clause-value g c =
    let base = c.self.inside.base in
    let within = c.rhs-right.ensures.within in
    let right = back c.rhs-right.result (omega arith) in
    let made = used_up_is g.row.N base (row_at c.self.inside.rows.rows 0) c.row-oldest.result.now c.gain_within-gain.result c.cols.result.now _ c.row-oldest.ensures.value (right ∙ c.rhs-right.ensures.value) c.cols.ensures.value c.gain_within-gain.ensures in
    let used = was-used _ (sym c.substitute_in-used.ensures.used ∙ c.in-Yes.is) in
    let is = c.substitute_in-used.ensures.value ∙ substitute-yes g.row.N c.gain_within-gain.result _ base used ∙ made in
    let rows = c.widen.ensures.rows ∙ ap (map (widened_by g.row.N)) c.drop_first.ensures.rows in
    let some : 0 < length c.self.inside.rows.rows = subst (λ (z : Czono). 0 < length z.rows) (sym c.self.view_is) c.requires.some in
    (λ i. with_rows (is i) (rows i)) ∙ sym (taken g.row.N base c.self.inside.rows.rows some (ap (is_used g.row.N base) (sym made) ∙ used)) ∙ ap (drop_oldest g.row.N) c.self.view_is

pub returns-in-No-clause-value : goal.returns-in-No-clause-value
returns-in-No-clause-value g c =
    let base = c.self.inside.base in
    let within = c.rhs-right.ensures.within in
    let right = back c.rhs-right.result (omega arith) in
    let made = used_up_is g.row.N base (row_at c.self.inside.rows.rows 0) c.row-oldest.result.now c.gain_within-gain.result c.cols.result.now _ c.row-oldest.ensures.value (right ∙ c.rhs-right.ensures.value) c.cols.ensures.value c.gain_within-gain.ensures in
    let unused = was-left _ (sym c.substitute_in-used.ensures.used ∙ c.in-No.is) in
    let is = c.substitute_in-used.ensures.value ∙ substitute-no g.row.N c.gain_within-gain.result _ base unused in
    let some : 0 < length c.self.inside.rows.rows = subst (λ (z : Czono). 0 < length z.rows) (sym c.self.view_is) c.requires.some in
    (λ i. with_rows (is i) (c.drop_first.ensures.rows i)) ∙ sym (left g.row.N base c.self.inside.rows.rows some (ap (is_used g.row.N base) (sym made) ∙ unused)) ∙ ap (drop_oldest g.row.N) c.self.view_is

pub returns-in-Yes-clause-holds : goal.returns-in-Yes-clause-holds
returns-in-Yes-clause-holds g c q x inside =
    let lined_up : IsAligned c.args.self.now = subst IsAligned c.self.view_is (aligned c.self.inside.base c.self.inside.rows.rows c.self.inside.rows.width c.tell_widths.ensures c.self.invariant) in
    subst (λ z. InsideAll g.row.N z x q) (sym (returns-in-Yes-clause-value g c)) (drop-keeps g.row.N q c.args.self.now x lined_up inside)

pub returns-in-No-clause-holds : goal.returns-in-No-clause-holds
returns-in-No-clause-holds g c q x inside =
    let lined_up : IsAligned c.args.self.now = subst IsAligned c.self.view_is (aligned c.self.inside.base c.self.inside.rows.rows c.self.inside.rows.width c.tell_widths.ensures c.self.invariant) in
    subst (λ z. InsideAll g.row.N z x q) (sym (returns-in-No-clause-value g c)) (drop-keeps g.row.N q c.args.self.now x lined_up inside)
