use Rattle.std.proofs.Common.{◌≡◌, to_z-of_z, unsigned_abs, ap, ◌∙◌, arith}
use Rattle.zono_set.proofs.Taken.{share_small}
use Rattle.zono_set.proofs.products.rounded_share.Goals as goal

pub returns-clause-within : goal.returns-clause-within
returns-clause-within c =
    let same : c.from.result ≡ c.args.gain = c.from.ensures ∙ to_z-of_z c.ranges.gain in
    let size = ap unsigned_abs same in
    let small = c.requires.gain in
    share_small c.from.result c.args.v (omega (arith, size, small)) c.requires.number c.rounded.result.nearest c.rounded.ensures.near
