use Rattle.std.proofs.Common.{pos, int_lt, IsTrue, to_z-of_z, subst, arith}
use Rattle.std.proofs.Math.Bool.{beq}
use Rattle.std.proofs.lemmas.Int.{fits_signed_from_abs}
use mir.Syntax.{w128}
use Rattle.farkas_check.proofs.Opposed.{opposed-at}
use Rattle.farkas_check.proofs.pair.Pair.are_opposed_at.Goals as goal

pub returns : goal.returns
returns c =
    let pair = c.args.self.now in
    let a = to_z-of_z c.ranges.a in
    let b = to_z-of_z c.ranges.b in
    let right = to_z-of_z (fits_signed_from_abs w128 pair.first.right (omega arith)) in
    let other = to_z-of_z (fits_signed_from_abs w128 pair.second.right (omega arith)) in
    λ is. opposed-at pair c.args.a c.args.b
    (subst IsTrue (λ i. beq (beq (int_lt (a i) (pos 0)) (int_lt (b i) (pos 0))) (beq (int_lt (right i) (pos 0)) (int_lt (other i) (pos 0)))) is)
