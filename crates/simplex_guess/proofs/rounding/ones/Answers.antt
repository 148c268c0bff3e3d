use Rattle.std.proofs.Common.{◌≤◌, take, replicate, pos, unsigned_abs, arith}
use Rattle.std.proofs.lemmas.List.{length-take-le}
use Rattle.std.proofs.lemmas.List.Elements.{All-take, All-replicate}
use Rattle.simplex_guess.proofs.Lists.{taken}
use Rattle.simplex_guess.proofs.rounding.ones.Goals as goal

pub unwrap-requires : goal.unwrap-requires
unwrap-requires c =
    let all = replicate 6 (pos 1) in
    let long = length-take-le c.args.count all (omega arith) in
    taken (take c.args.count all) c.of.result (omega arith) (omega arith)
    (All-take (λ v. unsigned_abs v ≤ 2_147_483_647) c.args.count all (All-replicate (λ v. unsigned_abs v ≤ 2_147_483_647) 6 (pos 1) (omega arith))) c.of.ensures
