use Rattle.czono_set.proofs.czono.Czono.of_box.Goals as goal

pub returns-clause-holds : goal.returns-clause-holds
returns-clause-holds g c q x positive near = c.of.ensures.holds q x (c.in_ok-base.ensures.holds q x positive near)
