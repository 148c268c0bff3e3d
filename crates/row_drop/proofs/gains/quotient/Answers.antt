use Rattle.std.proofs.Common.{SFits, rules}
use mir.Syntax.{w128}
use Rattle.row_drop.proofs.Shrinking.{quotient_back, quotient_small}
use Rattle.row_drop.proofs.gains.quotient.Goals as goal

pub returns : goal.returns
returns c =
    let fits : SFits w128 c.args.square = search rules in
    let is = quotient_back c.args.product c.args.square c.requires.small fits in
    record { value = is; within = rw is (quotient_small c.args.product c.args.square c.requires.small) }
