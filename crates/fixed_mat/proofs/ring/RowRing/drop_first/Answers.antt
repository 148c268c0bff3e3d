use Rattle.std.proofs.Common.{List, ap, ◌∙◌, arith, drop, length}
use Rattle.set_rules.specs.Rows.{Row}
use Rattle.fixed_mat.proofs.Around.{length-around, around_dropped}
use Rattle.fixed_mat.proofs.ring.RowRing.drop_first.Goals as goal

pub returns : goal.returns
returns c =
    let q = c.self.inside in
    let long = length-around q.first q.count q.slots in
    let shown = ap length c.self.view_is in
    let some = c.requires in
    around_dropped q.first q.count q.slots (omega arith) ∙ ap (λ (rows : List Row). drop 1 rows) c.self.view_is
