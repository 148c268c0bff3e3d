use Rattle.std.proofs.Common.{ap, ◌∙◌, arith, rules, to_z-of_z}
use mir.Syntax.{w128}
use Rattle.set_rules.specs.Rows.{Row}
use Rattle.fixed_mat.proofs.Around.{below_count, seen_row}
use Rattle.fixed_mat.proofs.ring.RowRing.right.Goals as goal

pub overflow_add-row : goal.overflow_add-row
overflow_add-row c =
    let low = below_count c.self.inside.first c.self.inside.count c.args.r c.self.inside.slots _ c.self.view_is c.requires in
    let starts = c.self.invariant.starts in
    let few = c.self.invariant.few in
    omega arith

pub returns : goal.returns
returns c =
    let q = c.self.inside in
    to_z-of_z {w = w128} (search rules) ∙ ap (λ (row : Row). row.right) (c.row.view_is
    ∙ seen_row q.first q.count c.args.r q.slots _ _ c.self.invariant.starts c.self.invariant.few (search rules) c.self.view_is c.requires)
