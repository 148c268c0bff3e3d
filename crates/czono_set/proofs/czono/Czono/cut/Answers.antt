use Rattle.std.proofs.Common.{arith, ap, ◌∙◌, subst}
use Rattle.set_rules.specs.Products.{row_with}
use Rattle.set_rules.specs.Keep.{cut}
use Rattle.fixed_mat.proofs.Bits.{back}
use Rattle.czono_set.specs.Holds.{HoldsCut}
use Rattle.czono_set.proofs.czono.Czono.cut.Goals as goal

pub returns-clause-value : goal.returns-clause-value
returns-clause-value g c =
    let right = c.requires.right in
    c.keep.ensures.value ∙ ap (λ b. cut g.row.N (row_with c.args.row.now.a b) c.args.self.now) (back c.args.row.now.b (omega arith))

pub returns-clause-holds : goal.returns-clause-holds
returns-clause-holds g c =
    let right = c.requires.right in
    subst (λ b. HoldsCut g.row.N (row_with c.args.row.now.a b) c.args.self.now c.keep.new.self) (back c.args.row.now.b (omega arith)) c.keep.ensures.holds
