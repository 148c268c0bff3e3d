use Rattle.std.proofs.Common.{◌≡◌, ◌^◌, ◌<◌, ℤ, pos, neg_ℤ, ◌-ℤ◌, max, unsigned_abs, to_z, of_z, to_z-of_z, ap, ◌∙◌, arith}
use Rattle.std.proofs.lemmas.Int.{ints, fits_signed_from_abs}
use mir.Syntax.{w32}
use Rattle.set_rules.specs.Gain.{shift_below, shrunk_value}
use Rattle.farkas_check.proofs.factors.Factors.cancelling.Goals as goal

-- a small number turned round in 32 bits
turned : (v : ℤ) → unsigned_abs v < 2 ^ 31 → to_z w32 (of_z w32 (pos 0 -ℤ to_z w32 (of_z w32 v))) ≡ neg_ℤ v
turned v h =
    ap (λ z. to_z w32 (of_z w32 (pos 0 -ℤ z))) (to_z-of_z (fits_signed_from_abs w32 v h))
    ∙ to_z-of_z (fits_signed_from_abs w32 (pos 0 -ℤ v) (omega (arith, ints))) ∙ flip v
  where
    flip : (v : ℤ) → pos 0 -ℤ v ≡ neg_ℤ v
    flip v = omega (arith, ints)

pub returns-clause-second : goal.returns-clause-second
returns-clause-second c =
    let a = to_z-of_z c.ranges.a in
    let b = to_z-of_z c.ranges.b in
    let size = c.max.ensures ∙ (λ i. max ((c.unsigned_abs.ensures.value ∙ ap unsigned_abs a) i) ((c.unsigned_abs-2.ensures.value ∙ ap unsigned_abs b) i)) in
    let halvings = c.halvings_of-halvings.ensures.value ∙ ap (shift_below (2 ^ 31)) size in
    turned c.shrunk-2.result (omega arith)
    ∙ ap neg_ℤ (c.shrunk-2.ensures.value ∙ (λ i. shrunk_value (halvings i) (a i)))
