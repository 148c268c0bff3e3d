use Rattle.std.proofs.Common.{◌*ℤ◌, pos, SFits, to_z-of_z, ◌∙◌, ap, unsigned_abs, ◌≤◌, subst, sym, ℤ}
use mir.Syntax.{w128}
use Rattle.sim_gen.specs.Generator.{next_state, drawn_within}
use Rattle.sim_gen.proofs.Keeps.{input-small, error-small}
use Rattle.sim_gen.proofs.process.Draw.of.Goals as goal

pub returns-clause-input : goal.returns-clause-input
returns-clause-input c =
    let fits : SFits w128 c.scaled-input.result = record { sfits = c.scaled-input.type_inv } in
    let drawn : SFits w128 c.within.result = record { sfits = c.within.type_inv } in
    simp to_z-of_z (simp to_z-of_z at c.scaled-input.ensures ∙ ap (λ z. pos 1_000_000_000 *ℤ z) c.within.ensures.value)

pub returns-clause-error : goal.returns-clause-error
returns-clause-error c =
    let fits : SFits w128 c.scaled-error.result = record { sfits = c.scaled-error.type_inv } in
    let drawn : SFits w128 c.within-2.result = record { sfits = c.within-2.type_inv } in
    let number = c.within-2.ensures.value ∙ ap (λ s. drawn_within 1_000 (next_state s)) c.within.ensures.state in
    simp to_z-of_z (simp to_z-of_z at c.scaled-error.ensures ∙ ap (λ z. pos 50_000 *ℤ z) number)

pub returns-clause-input_small : goal.returns-clause-input_small
returns-clause-input_small c = subst (λ (z : ℤ). unsigned_abs z ≤ 1_000_000_000) (sym (returns-clause-input c)) (input-small c.args.generator.now.state)

pub returns-clause-error_small : goal.returns-clause-error_small
returns-clause-error_small c = subst (λ (z : ℤ). unsigned_abs z ≤ 50_000_000) (sym (returns-clause-error c)) (error-small c.args.generator.now.state)
