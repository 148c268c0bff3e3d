use Rattle.std.proofs.Common.{ℤ, ap, arith}
use Rattle.set_rules.specs.Columns.{at, tabulate}
use Rattle.set_rules.specs.Symbols.{diagonal}
use Rattle.zono_set.proofs.Steps.{back64}
use Rattle.fixed_mat.proofs.Columns.{pushes, counted}
use Rattle.zono_set.proofs.zono.image.push_slack.Goals as goal

pub push_diagonal-requires : goal.push_diagonal-requires
push_diagonal-requires g c =
    let long = counted _ _ _ _ c.loop-i.invariant in
    let room = c.requires.room in
    let small = c.requires.within c.loop-i.i c.loop-i-test.true in
    let same = back64 (at c.args.slack.now c.loop-i.i) (omega arith) in
    (omega arith, (omega arith, (omega arith, rw same small)))

pub loop-i-preserved : goal.loop-i-preserved
loop-i-preserved g c =
    let small = c.requires.within c.loop-i.i c.loop-i-test.true in
    pushes _ _ _ _ _ _ c.loop-i.invariant c.push_diagonal.ensures
    (ap (λ (v : ℤ). tabulate g.row.N (λ s. diagonal (λ _. v) s c.loop-i.i)) (back64 (at c.args.slack.now c.loop-i.i) (omega arith)))
