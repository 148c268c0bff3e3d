use Rattle.std.proofs.Common.{◌∙◌, ap, ◌+◌, ◌<◌, ◌≤◌, length, arith, sym, subst}
use Rattle.std.proofs.lemmas.List.{get_or_default}
use Rattle.std.proofs.lemmas.Grind.{common_steps}
use Rattle.std.proofs.lemmas.List.Edits.{map_over_more}
use Rattle.set_rules.specs.Rows.{widened_by, row_at, no_row}
use Rattle.fixed_mat.specs.Rows.{Table, IsTable}
use Rattle.fixed_mat.proofs.Wider.{IsTable-widened}
use Rattle.fixed_mat.proofs.rows.Rows.widen.Goals as goal

pub loop-r-preserved : goal.loop-r-preserved
loop-r-preserved c =
    let now = c.loop-r.self-inside.rows in
    let count = c.len-r-end.ensures.value in
    let ends = c.loop-r.auto.r-end in
    let low : c.loop-r.r < length c.self.inside.rows = omega arith in
    let here : c.loop-r.r < length now = grind (arith, common_steps, c.loop-r.invariant.rows) in
    record {
      rows = c.widen.ensures
          ∙ map_over_more (widened_by c.args.by) c.self.inside.rows now c.loop-r.r (row_at now c.loop-r.r) low c.loop-r.invariant.rows
          (get_or_default now c.loop-r.r no_row (row_at now c.loop-r.r) here);
      width = c.loop-r.invariant.width;
    }

pub invariant_of-self : goal.invariant_of-self
invariant_of-self c =
    let shown = ap (λ (t : Table). t.width) c.self.view_is in
    let same = c.loop-r.invariant.width in
    let requested = c.requires in
    let room : c.self.inside.width + c.args.by ≤ 128 = omega arith in
    let count = c.len-r-end.ensures.value in
    subst (λ w. let t : Table = record { width = w + c.args.by; rows = c.loop-r.self-inside.rows } in IsTable t) (sym same)
    (IsTable-widened c.self.inside.width c.args.by c.loop-r.r c.self.inside.rows c.loop-r.self-inside.rows c.self.invariant room (omega arith) c.loop-r.invariant.rows)
