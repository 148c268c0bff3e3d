use Rattle.std.proofs.Common.{set, length, ap, ◌∙◌, arith, rules}
use Rattle.set_rules.specs.Rows.{Row}
use Rattle.set_rules.specs.Reduce.{places}
use Rattle.fixed_mat.specs.Rows.{marked, condensed_row}
use Rattle.fixed_mat.proofs.Around.{below_count, seen_row, around_set}
use Rattle.fixed_mat.proofs.ring.RowRing.condense.Goals as goal

pub overflow_add-self-inside : goal.overflow_add-self-inside
overflow_add-self-inside c =
    let low = below_count c.self.inside.first c.self.inside.count c.args.r c.self.inside.slots _ c.self.view_is c.requires.row in
    let starts = c.self.invariant.starts in
    let few = c.self.invariant.few in
    omega arith

pub condense-requires-clause-marks : goal.condense-requires-clause-marks
condense-requires-clause-marks c =
    let q = c.self.inside in
    let wide = ap (λ (row : Row). length row.coefficients) (seen_row q.first q.count c.args.r q.slots _ c.index-self-self.result c.self.invariant.starts c.self.invariant.few (search rules) c.self.view_is c.requires.row) in
    let marks = c.requires.marks in
    omega arith

pub condense-requires-clause-room : goal.condense-requires-clause-room
condense-requires-clause-room c =
    let q = c.self.inside in
    let kept = ap (λ (row : Row). length (places (marked c.args.keep.now) (length row.coefficients))) (seen_row q.first q.count c.args.r q.slots _ c.index-self-self.result c.self.invariant.starts c.self.invariant.few (search rules) c.self.view_is c.requires.row) in
    let room = c.requires.room in
    omega arith

pub returns : goal.returns
returns c =
    let q = c.self.inside in
    let low = below_count q.first q.count c.args.r q.slots _ c.self.view_is c.requires.row in
    let at_hand = seen_row q.first q.count c.args.r q.slots _ c.index-self-self.result c.self.invariant.starts c.self.invariant.few (search rules) c.self.view_is c.requires.row in
    around_set q.first q.count c.args.r q.slots c.condense.new.self c.self.invariant.starts c.self.invariant.few (search rules) low
    ∙ (λ i. set (c.self.view_is i) c.args.r ((c.condense.ensures ∙ ap (condensed_row (marked c.args.keep.now) c.args.more c.args.place) at_hand) i))
