use Rattle.std.proofs.Common.{get_or, ℤ, pos, SFits, to_z-of_z, rules, ap, arith}
use mir.Syntax.{w64}
use Rattle.set_rules.specs.Columns.{tabulate}
use Rattle.set_rules.specs.Symbols.{diagonal}
use Rattle.fixed_mat.proofs.Columns.{pushes, counted}
use Rattle.zono_set.proofs.zono.substitute.push_radii.Goals as goal

pub push_diagonal-requires : goal.push_diagonal-requires
push_diagonal-requires g c =
    let fits : SFits w64 (get_or c.args.radii.now c.loop-i.i (pos 0)) = search rules in
    let long = counted _ _ _ _ c.loop-i.invariant in
    let room = c.requires.room in
    let test = c.loop-i-test.true in
    let same = to_z-of_z fits in
    let small = c.requires.within c.loop-i.i test in
    (omega arith, (omega arith, (omega arith, rw same small)))

pub loop-i-preserved : goal.loop-i-preserved
loop-i-preserved g c =
    let fits : SFits w64 (get_or c.args.radii.now c.loop-i.i (pos 0)) = search rules in
    pushes _ _ _ _ _ _ c.loop-i.invariant c.push_diagonal.ensures (ap (λ (v : ℤ). tabulate g.row.N (λ s. diagonal (λ _. v) s c.loop-i.i)) (to_z-of_z fits))
