use Rattle.std.proofs.Common.{length, ap, arith, ◌∙◌}
use Rattle.set_rules.specs.Rows.{Czono}
use Rattle.observer_step.proofs.RowsAligned.{reduce_lifted-count, drop-count}
use Rattle.observer_step.proofs.rows.make_room.Goals as goal
use Rattle.observer_step.proofs.rows.make_room.Goals.{then-count-eq-MOST_ROWS, else-count-eq-MOST_ROWS}

pub returns-clause-rows : goal.returns-clause-rows
returns-clause-rows g c =
    let count = c.count.ensures.value in
    let few = c.count.ensures.few in
    let same = ap length c.rows.ensures.rows in
    let settled = ap (λ (z : Czono). length z.rows) c.settle.ensures.value ∙ reduce_lifted-count g.row.N 64 c.if-count-eq-MOST_ROWS.set in
    elim c.if-count-eq-MOST_ROWS.branch [
      | then-count-eq-MOST_ROWS w ↦
          let full = w.if-count-eq-MOST_ROWS.true in
          let dropped = ap (λ (z : Czono). length z.rows) (w.set-is ∙ w.drop_oldest_in.ensures.value) ∙ drop-count g.row.N c.args.set.now.base c.args.set.now.rows in
          omega arith
      | else-count-eq-MOST_ROWS w ↦
          let other = w.if-count-eq-MOST_ROWS.false in
          let left = ap (λ (z : Czono). length z.rows) w.set-is in
          grind arith
    ]
