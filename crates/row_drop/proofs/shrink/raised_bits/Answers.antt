use Rattle.std.proofs.Common.{◌≡◌, ◌+ℤ◌, ℤ, get_or, pos, rules, arith, ap, ◌∙◌, SFits, to_z, of_z, to_z-of_z}
use Rattle.std.proofs.lemmas.Int.{ints, to_z_pos, fits_signed_from_abs}
use Rattle.std.proofs.lemmas.Nat.{le_or_l, le_or_r}
use mir.Syntax.{w64}
use Rattle.set_rules.proofs.Greatest.{greatest_more}
use Rattle.row_drop.proofs.Sizes.{raised-small}
use Rattle.row_drop.proofs.shrink.raised_bits.Goals as goal

pub loop-entry-preserved : goal.loop-entry-preserved
loop-entry-preserved c low =
    let entry : ℤ = get_or c.args.column.now c.loop-entry.entry-index (pos 0) in
    let fits : SFits w64 entry = search rules in
    let small = c.requires.within c.loop-entry.entry-index (pos 0) c.loop-entry-test.true in
    let high = c.requires.limit in
    let left = le_or_l c.loop-entry.bits c.cast_unsigned-bits.result in
    let right = le_or_r c.loop-entry.bits c.cast_unsigned-bits.result in
    let before = c.loop-entry.invariant (omega arith) in
    let limit_is = to_z_pos w64 c.args.limit (omega arith) in
    let sum_is : to_z w64 (of_z w64 entry) +ℤ to_z w64 c.args.limit ≡ entry +ℤ pos c.args.limit = (λ i. to_z-of_z fits i +ℤ limit_is i) in
    let sum_fits : SFits w64 (entry +ℤ pos c.args.limit) = fits_signed_from_abs w64 (entry +ℤ pos c.args.limit) (omega (arith, ints)) in
    let is = c.cast_unsigned-bits.ensures ∙ ap (of_z w64) (ap (λ z. to_z w64 (of_z w64 z)) sum_is ∙ to_z-of_z sum_fits) in
    let one = raised-small entry c.args.limit c.cast_unsigned-bits.result (omega arith) high is (omega arith) in
    let more = greatest_more c.args.column.now c.loop-entry.entry-index c.loop-entry-test.true in
    omega arith
