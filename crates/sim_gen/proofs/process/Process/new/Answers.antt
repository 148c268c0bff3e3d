use Rattle.std.proofs.Common.{SFits, to_z-of_z, subst, sym}
use mir.Syntax.{w128}
use Rattle.sim_gen.specs.Process.{Process, IsProcess}
use Rattle.sim_gen.proofs.Keeps.{begun_is}
use Rattle.sim_gen.proofs.Draws.{begun-by}
use Rattle.sim_gen.proofs.process.Process.new.Goals as goal

pub returns : goal.returns
returns c =
    let first : SFits w128 c.scaled-first.result = record { sfits = c.scaled-first.type_inv } in
    let second : SFits w128 c.scaled-second.result = record { sfits = c.scaled-second.type_inv } in
    let one : SFits w128 c.within.result = record { sfits = c.within.type_inv } in
    let two : SFits w128 c.within-2.result = record { sfits = c.within-2.type_inv } in
    simp to_z-of_z (begun-by c.args.seed _ _ _ _ _ _ _ _ _ _ _ c.new-generator.ensures
    c.below-coupling.ensures.state c.below-coupling.ensures.value c.below-gain.ensures.state c.below-gain.ensures.value
    c.within.ensures.state c.within.ensures.value c.within-2.ensures.state c.within-2.ensures.value
    (simp to_z-of_z at c.scaled-first.ensures) (simp to_z-of_z at c.scaled-second.ensures))

pub invariant_of-result : goal.invariant_of-result
invariant_of-result c = subst (λ (p : Process). IsProcess p) (sym (returns c)) (begun_is c.args.seed)
