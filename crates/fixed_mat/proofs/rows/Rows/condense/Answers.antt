use Rattle.std.proofs.Common.{◌≡◌, ◌+◌, ◌++◌, drop, length, arith, ap, ◌∙◌, sym, subst}
use Rattle.set_rules.specs.Columns.{tabulate}
use Rattle.set_rules.specs.Reduce.{places}
use Rattle.set_rules.specs.Rows.{Row, row_at, no_row}
use Rattle.fixed_mat.specs.Rows.{Table, IsTable, marked, condensed_row}
use Rattle.fixed_mat.proofs.Wider.{tabulated_more, tabulated_long, tabulated_here, IsTable-condensed}
use Rattle.fixed_mat.proofs.rows.Rows.condense.Goals as goal

pub condense-requires-clause-row : goal.condense-requires-clause-row
condense-requires-clause-row c =
    let count = c.len-rows.ensures.value in
    let long = tabulated_long _ c.self.inside.rows c.loop-r.self-inside.rows c.loop-r.r (omega arith) c.loop-r.invariant.rows in
    omega arith

module _ (c : goal.After-condense-arg-1) where
  -- the row at hand is still the one that was kept, and has as many coefficients as each
  wide : length (row_at c.loop-r.self-inside.rows c.loop-r.r).coefficients ≡ c.self.inside.width
  wide = let count = c.len-rows.ensures.value in
      ap (λ (row : Row). length row.coefficients) (tabulated_here _ c.self.inside.rows c.loop-r.self-inside.rows c.loop-r.r no_row c.loop-r.invariant.rows)
      ∙ (c.self.invariant.each c.loop-r.r no_row (omega arith)).wide

pub condense-requires-clause-marks : goal.condense-requires-clause-marks
condense-requires-clause-marks c =
    let is = wide c in
    let shown = ap (λ (t : Table). t.width) c.self.view_is in
    let marks = c.requires.marks in
    omega arith

pub condense-requires-clause-room : goal.condense-requires-clause-room
condense-requires-clause-room c =
    let is = ap (λ k. length (places (marked c.args.keep.now) k)) (wide c) in
    let shown = ap (λ (t : Table). length (places (marked c.args.keep.now) t.width)) c.self.view_is in
    let count = ap (λ (t : Table). length t.rows) c.self.view_is in
    let long = c.len-rows.ensures.value in
    let kept = c.requires.count in
    let room = c.requires.room in
    omega arith

pub loop-r-preserved : goal.loop-r-preserved
loop-r-preserved c =
    let now = c.loop-r.self-inside.rows in
    let count = c.len-rows.ensures.value in
    record {
      rows = c.condense.ensures
          ∙ tabulated_more _ c.self.inside.rows now c.loop-r.r _ (omega arith) c.loop-r.invariant.rows
          (ap (condensed_row (marked c.args.keep.now) (c.args.states + c.len-rows.result) (c.args.states + c.loop-r.r))
          (tabulated_here _ c.self.inside.rows now c.loop-r.r no_row c.loop-r.invariant.rows));
      width = c.loop-r.invariant.width;
    }

pub invariant_of-self : goal.invariant_of-self
invariant_of-self c =
    let keep = marked c.args.keep.now in
    let rows = c.self.inside.rows in
    let n = c.args.states in
    let count = c.len-rows.ensures.value in
    let width = ap (λ (t : Table). length (places keep t.width)) c.self.view_is in
    let many = ap (λ (t : Table). length t.rows) c.self.view_is in
    let room = c.requires.room in
    subst (λ k. let t : Table = record { width = c.args.count + n + k; rows = c.loop-r.self-inside.rows } in IsTable t) (sym count)
    (IsTable-condensed keep c.self.inside.width c.args.count n c.loop-r.r rows c.loop-r.self-inside.rows c.self.invariant
    (c.requires.count ∙ sym width) (omega arith) (omega arith)
    (subst (λ k. c.loop-r.self-inside.rows ≡ tabulate c.loop-r.r (λ r. condensed_row keep (n + k) (n + r) (row_at rows r)) ++ drop c.loop-r.r rows) count c.loop-r.invariant.rows)
    (omega arith)).0
