use Rattle.std.proofs.Common.{◌≡◌, ℕ, ◌+◌, ◌<◌, Bool, true, false, unsigned_abs, length, [], get_or, pos, arith, sym, ap, ◌∙◌}
use Rattle.set_rules.specs.Sum.{magnitude}
use Rattle.set_rules.specs.Columns.{column_entry}
use Rattle.set_rules.specs.Zono.{range}
use Rattle.set_rules.proofs.Sums.{total-zero}
use Rattle.set_rules.proofs.Dropped.{dropped_yes, dropped_no, dropped-within, magnitude_on}
use Rattle.set_rules.proofs.Compaction.{compacted-none, compacted-yes, compacted-no, here}
use Rattle.fixed_mat.specs.Rows.{marked}
use Rattle.girard_reduce.proofs.Places.{alike}
use Rattle.girard_reduce.proofs.reduction.keep_marked.Goals as goal
use Rattle.girard_reduce.proofs.reduction.keep_marked.Goals.{then-has, else-has}

pub loop-t-init : goal.loop-t-init
loop-t-init g c = record {
  moved = compacted-none [] (marked c.args.marks.now) c.args.cols.now;
  lost = λ i h. ap pos (alike 8 i 0) ∙ sym (total-zero _);
}

pub add_magnitudes-requires-clause-room : goal.add_magnitudes-requires-clause-room
add_magnitudes-requires-clause-room g c i h =
    let size = c.column.ensures.size in
    let end = c.len-t-end.ensures.value in
    dropped-within (marked c.args.marks.now) (column_entry c.args.cols.now i) c.loop-t.t (length c.args.cols.now) range (get_or c.loop-t.lost i 0) (omega arith) (c.loop-t.invariant.lost i (omega arith)) (c.requires.in_range i (omega arith))

pub loop-t-preserved : goal.loop-t-preserved
loop-t-preserved g c =
    let columns = c.args.cols.now in
    let keep : ℕ → Bool = marked c.args.marks.now in
    let t = c.loop-t.t in
    let end = c.len-t-end.ensures.value in
    let below : t < length columns = omega arith in
    let invariant = c.loop-t.invariant in
    elim c.if-has.branch [
      | then-has w ↦
          let is : keep t ≡ true = sym c.has.ensures ∙ w.if-has.true in
          record {
            moved = compacted-yes [] keep columns c.loop-t.cols t c.loop-t.count invariant.moved below c.if-has.cols c.if-has.count is (w.cols-is ∙ w.copy_down.ensures) w.count-is;
            lost = λ i h. dropped_yes keep (λ s. magnitude (column_entry columns i s)) t (pos (get_or c.loop-t.lost i 0)) (pos (get_or c.if-has.lost i 0)) (invariant.lost i h) is (ap (λ xs. pos (get_or xs i 0)) w.lost-is);
          }
      | else-has w ↦
          let is : keep t ≡ false = sym c.has.ensures ∙ w.if-has.false in
          let column = w.column.ensures.value ∙ here [] keep columns c.loop-t.cols t c.loop-t.count invariant.moved below in
          let size = w.column.ensures.size in
          record {
            moved = compacted-no [] keep columns c.loop-t.cols t c.loop-t.count invariant.moved below c.if-has.cols c.if-has.count is w.cols-is w.count-is;
            lost = λ i h. dropped_no keep (λ s. magnitude (column_entry columns i s)) t (pos (get_or c.loop-t.lost i 0)) (pos (get_or c.if-has.lost i 0)) (invariant.lost i h) is
                (magnitude_on (get_or c.loop-t.lost i 0) (get_or c.if-has.lost i 0) (column_entry columns i t) (ap (λ xs. get_or xs i 0) w.lost-is ∙ w.add_magnitudes.ensures i (omega arith) ∙ ap (λ xs. get_or c.loop-t.lost i 0 + unsigned_abs (get_or xs i (pos 0))) column));
          }
    ]
