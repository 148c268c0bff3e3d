use Rattle.std.proofs.Common.{◌+ℤ◌, ◌*ℤ◌, to_z-of_z, ◌∙◌, arith}
use Rattle.std.proofs.lemmas.Int.{fits_signed_from_abs}
use mir.Syntax.{w32}
use Rattle.fixed_mat.proofs.Bits.{sum_back}
use Rattle.farkas_check.proofs.pair.combined.Goals as goal

pub returns-clause-value : goal.returns-clause-value
returns-clause-value c =
    let x = to_z-of_z (fits_signed_from_abs w32 c.args.by.first (omega arith)) in
    let y = to_z-of_z (fits_signed_from_abs w32 c.args.by.second (omega arith)) in
    let first = c.multiplied.ensures.value ∙ (λ i. x i *ℤ to_z-of_z c.ranges.a i) in
    let second = c.multiplied-2.ensures.value ∙ (λ i. y i *ℤ to_z-of_z c.ranges.b i) in
    sum_back c.multiplied.result c.multiplied-2.result (omega arith) (omega arith) ∙ (λ i. first i +ℤ second i)
