use Rattle.std.proofs.Common.{◌≡◌, ◌/◌, ◌≤◌, ℕ, pos, ◌-ℤ◌, to_z, of_z, to_z-of_z, SFits, ap, ◌∙◌, arith}
use Rattle.std.proofs.lemmas.Int.{ints, fits_signed_from_abs, to_z_pos}
use mir.Syntax.{w64}
use Rattle.set_rules.specs.Round.{rnd as rnd_of}
use Rattle.fixed_mat.proofs.Narrow.{raised-nearest, raised-left}
use Rattle.fixed_mat.proofs.round.raised_rounding.Goals as goal

nearest : (u : ℕ) → u / 1_000_000_000 ≤ 18_446_744_073 → to_z w64 (of_z w64 (to_z w64 (u / 1_000_000_000) -ℤ pos 9_223_372_037)) ≡ rnd_of (pos u -ℤ pos 9_223_372_037_500_000_000)
nearest u small =
    let up : to_z w64 (u / 1_000_000_000) ≡ pos (u / 1_000_000_000) = to_z_pos w64 (u / 1_000_000_000) (omega arith) in
    let fits : SFits w64 (pos (u / 1_000_000_000) -ℤ pos 9_223_372_037) = fits_signed_from_abs w64 (pos (u / 1_000_000_000) -ℤ pos 9_223_372_037) (omega (arith, ints)) in
    ap (λ v. to_z w64 (of_z w64 (v -ℤ pos 9_223_372_037))) up ∙ to_z-of_z fits ∙ raised-nearest u

pub returns-clause-nearest : goal.returns-clause-nearest
returns-clause-nearest c = let fits = c.ranges.raised.fits in nearest c.args.raised (omega arith)

pub returns-clause-residue : goal.returns-clause-residue
returns-clause-residue c = ap pos c.abs_diff.ensures ∙ raised-left c.args.raised
