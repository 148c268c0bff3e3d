use Rattle.std.proofs.Common.{subst, sym}
use Rattle.set_rules.specs.Zono.{Zono, Inside}
use Rattle.zono_set.proofs.zono.Zono.reduce.Goals as goal

pub returns-clause-holds : goal.returns-clause-holds
returns-clause-holds g c q x inside =
    c.reduce_in_place.ensures.inside q c.self.inside.centre x (subst (λ (z : Zono). Inside g.row.N z x q) (sym c.self.view_is) inside)
