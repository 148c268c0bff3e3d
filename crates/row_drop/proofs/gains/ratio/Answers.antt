use Rattle.std.proofs.Common.{◌≡◌, false, pos, nat_eq, unsigned_abs, if◌then◌else◌, sym, ap, ◌∙◌, SFits, to_z-of_z, ◌*ℤ◌, int_div, rules}
use mir.Syntax.{w64, w128}
use Rattle.set_rules.specs.Gain.{clipped_gain}
use Rattle.row_drop.proofs.gains.ratio.Goals as goal

pub returns-clause-value : goal.returns-clause-value
returns-clause-value c =
    let fits : SFits w64 c.clipped.result = record { sfits = c.clipped.type_inv } in
    let inner : SFits w128 c.quotient.result = record { sfits = c.quotient.type_inv } in
    let product : SFits w128 c.args.product = search rules in
    let square : SFits w128 c.args.square = search rules in
    let nonzero : nat_eq (unsigned_abs c.args.square) 0 ≡ false = search rules in
    to_z-of_z fits ∙ c.clipped.ensures.value
    ∙ ap clipped_gain (to_z-of_z inner ∙ c.quotient.ensures.value
    ∙ (λ i. int_div (pos 1_000_000_000 *ℤ to_z-of_z product i) (to_z-of_z square i)))
    ∙ sym (ap (λ b. if b then pos 0 else clipped_gain (int_div (pos 1_000_000_000 *ℤ c.args.product) c.args.square)) nonzero)
