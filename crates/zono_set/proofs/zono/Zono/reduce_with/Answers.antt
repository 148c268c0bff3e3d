use Rattle.std.proofs.Common.{ap, sym, ◌∙◌}
use Rattle.set_rules.specs.Zono.{Zono, zono_of}
use Rattle.set_rules.specs.Rows.{Czono}
use Rattle.set_rules.specs.Keep.{with_rows}
use Rattle.set_rules.specs.Reduce.{reduce_lifted}
use Rattle.girard_reduce.proofs.LiftedReduced.{reduced-about}
use Rattle.zono_set.proofs.zono.Zono.reduce_with.Goals as goal

pub returns-clause-set : goal.returns-clause-set
returns-clause-set g c =
    ap (zono_of c.self.inside.centre) c.reduce_lifted.ensures.columns
    ∙ sym (ap (λ (z : Czono). z.base) (reduced-about g.row.N c.args.max c.self.inside.centre c.self.inside.cols c.args.rows.now.rows))
    ∙ ap (λ (z : Zono). (reduce_lifted g.row.N c.args.max (with_rows z c.args.rows.now.rows)).base) c.self.view_is

pub returns-clause-rows : goal.returns-clause-rows
returns-clause-rows g c =
    c.reduce_lifted.ensures.rows
    ∙ sym (ap (λ (z : Czono). z.rows) (reduced-about g.row.N c.args.max c.self.inside.centre c.self.inside.cols c.args.rows.now.rows))
    ∙ ap (λ (z : Zono). (reduce_lifted g.row.N c.args.max (with_rows z c.args.rows.now.rows)).rows) c.self.view_is
