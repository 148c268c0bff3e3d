use Rattle.std.proofs.Common.{subst}
use Rattle.farkas_check.specs.Sides.{IsOutweighed}
use Rattle.farkas_check.proofs.Gains.{opposed-outweighed}
use Rattle.farkas_check.proofs.pair.Pair.is_hopeless_opposed.Goals as goal

pub returns-then-is_outweighed : goal.returns-then-is_outweighed
returns-then-is_outweighed c = λ is.
    let first = c.args.self.now.first in
    let second = c.args.self.now.second in
    opposed-outweighed c.args.self.now
    (subst (λ loss. IsOutweighed first loss second) c.reach.ensures.value (c.is_outweighed.ensures c.if-is_outweighed.true))
    (subst (λ loss. IsOutweighed second loss first) c.reach-then-is_outweighed.ensures.value (c.is_outweighed-then-is_outweighed.ensures is))
