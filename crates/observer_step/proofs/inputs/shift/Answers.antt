use Rattle.std.proofs.Common.{◌*ℤ◌, pos, length, sym, ◌∙◌, arith}
use Rattle.std.proofs.lemmas.List.FromFn.{fill_by_all}
use Rattle.set_rules.specs.Sum.{total}
use Rattle.set_rules.specs.Columns.{at, entry, tabulate}
use Rattle.observer_step.proofs.inputs.shift.Goals as goal

pub returns : goal.returns
returns g c =
    let p = c.args.plant.now in
    let u = c.args.u.now in
    fill_by_all (λ k. total (length u) (λ l. entry 4 p.b k l *ℤ at u l)) c.loop-i.shift g.row.N (pos 0) c.loop-i.invariant.size (λ k below. c.loop-i.invariant.filled k (omega arith))
    ∙ (λ i. tabulate (sym c.states.ensures.states i) (λ k. total (c.requires.count i) (λ l. entry 4 p.b k l *ℤ at u l)))
