use Rattle.std.proofs.Common.{◌≤◌, take, unsigned_abs, arith}
use Rattle.std.proofs.lemmas.List.{length-take-le}
use Rattle.std.proofs.lemmas.List.Elements.{All-take}
use Rattle.simplex_guess.proofs.Lists.{taken}
use Rattle.simplex_guess.proofs.rounding.multipliers.Goals as goal

pub unwrap-requires : goal.unwrap-requires
unwrap-requires c =
    let long = length-take-le c.args.count c.loop-r.values (omega arith) in
    taken (take c.args.count c.loop-r.values) c.of.result (omega arith) (omega arith)
    (All-take (λ v. unsigned_abs v ≤ 2_147_483_647) c.args.count c.loop-r.values c.loop-r.invariant) c.of.ensures
