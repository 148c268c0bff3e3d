use Rattle.std.proofs.Common.{length, ap, sym, ◌∙◌, subst, arith}
use Rattle.set_rules.specs.Zono.{Zono}
use Rattle.set_rules.specs.Rows.{Czono, InsideAll}
use Rattle.set_rules.specs.Keep.{with_rows}
use Rattle.set_rules.specs.Reduce.{reduce_lifted}
use Rattle.set_rules.proofs.ReductionHolds.{lifted-reduction-fits}
use Rattle.set_rules.proofs.LiftedHolds.{lifted-reduction-keeps}
use Rattle.czono_set.proofs.czono.Czono.settle.Goals as goal

pub returns-clause-value : goal.returns-clause-value
returns-clause-value g c = (λ i. with_rows (c.reduce_with.ensures.set i) (c.reduce_with.ensures.rows i)) ∙ ap (reduce_lifted g.row.N 64) c.self.view_is

pub returns-clause-holds : goal.returns-clause-holds
returns-clause-holds g c q x inside = subst (λ z. InsideAll g.row.N z x q) (sym (returns-clause-value g c)) (lifted-reduction-keeps g.row.N 64 q c.args.self.now x inside)

pub returns-clause-few : goal.returns-clause-few
returns-clause-few g c =
    let z : Czono = with_rows c.self.inside.base c.self.inside.rows.rows in
    let few = c.count.ensures.few in
    let count = c.count.ensures.value in
    let small = c.len.ensures.height_small in
    let fits = lifted-reduction-fits g.row.N 64 z (omega arith) in
    let is = ap (λ (z : Zono). length z.columns) c.reduce_with.ensures.set in
    omega arith
