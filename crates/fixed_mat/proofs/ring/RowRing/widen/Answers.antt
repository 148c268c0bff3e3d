use Rattle.std.proofs.Common.{set, length, ap, ◌∙◌, arith, rules}
use Rattle.set_rules.specs.Rows.{Row, widened_by}
use Rattle.fixed_mat.proofs.Around.{below_count, seen_row, around_set}
use Rattle.fixed_mat.proofs.ring.RowRing.widen.Goals as goal

pub overflow_add-self-inside : goal.overflow_add-self-inside
overflow_add-self-inside c =
    let low = below_count c.self.inside.first c.self.inside.count c.args.r c.self.inside.slots _ c.self.view_is c.requires.row in
    let starts = c.self.invariant.starts in
    let few = c.self.invariant.few in
    omega arith

pub widen-requires : goal.widen-requires
widen-requires c =
    let q = c.self.inside in
    let wide = ap (λ (row : Row). length row.coefficients) (seen_row q.first q.count c.args.r q.slots _ c.index-self-self.result c.self.invariant.starts c.self.invariant.few (search rules) c.self.view_is c.requires.row) in
    let room = c.requires.room in
    omega arith

pub returns : goal.returns
returns c =
    let q = c.self.inside in
    let low = below_count q.first q.count c.args.r q.slots _ c.self.view_is c.requires.row in
    let at_hand = seen_row q.first q.count c.args.r q.slots _ c.index-self-self.result c.self.invariant.starts c.self.invariant.few (search rules) c.self.view_is c.requires.row in
    around_set q.first q.count c.args.r q.slots c.widen.new.self c.self.invariant.starts c.self.invariant.few (search rules) low
    ∙ (λ i. set (c.self.view_is i) c.args.r ((c.widen.ensures ∙ ap (widened_by c.args.by) at_hand) i))
