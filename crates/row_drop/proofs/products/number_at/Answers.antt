use Rattle.std.proofs.Common.{SFits}
use mir.Syntax.{w128}
use Rattle.row_drop.proofs.Sizes.{number_is}
use Rattle.row_drop.proofs.products.number_at.Goals as goal

pub returns : goal.returns
returns c =
    let whole : SFits w128 c.at.result = record { sfits = c.at.type_inv } in
    number_is c.args.a.now c.args.t c.at.result c.requires.within c.requires.small whole c.at.ensures.value
