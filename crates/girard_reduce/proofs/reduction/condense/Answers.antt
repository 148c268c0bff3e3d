use Rattle.std.proofs.Common.{◌++◌, length, get_or, pos, arith, ◌∙◌}
use Rattle.set_rules.specs.Columns.{column_entry}
use Rattle.set_rules.specs.Zono.{range}
use Rattle.set_rules.specs.Reduce.{lost_in}
use Rattle.set_rules.proofs.Dropped.{dropped-within}
use Rattle.fixed_mat.specs.Rows.{marked}
use Rattle.girard_reduce.proofs.Reduced.{same_box}
use Rattle.girard_reduce.proofs.reduction.condense.Goals as goal

pub end_with_box-requires : goal.end_with_box-requires
end_with_box-requires g c =
    let count = c.keep_marked-count.ensures.count in
    let size = c.keep_marked-count.ensures.size in
    let room = c.requires.room in
    let few = c.requires.few in
    let height = c.requires.height in
    (omega arith, (omega arith, (omega arith, (omega arith, λ i h. dropped-within (marked c.args.marks.now) (column_entry c.args.cols.now i) (length c.args.cols.now) (length c.args.cols.now) range (get_or c.keep_marked-count.result.1 i 0) (omega arith) (c.keep_marked-count.ensures.lost i h) (c.requires.in_range i h)))))

pub returns-clause-columns : goal.returns-clause-columns
returns-clause-columns g c =
    c.end_with_box.ensures ∙ (λ i. c.keep_marked-count.ensures.kept i
    ++ same_box g.row.N (λ k. pos (get_or c.keep_marked-count.result.1 k 0)) (lost_in (marked c.args.marks.now) c.args.cols.now) c.keep_marked-count.ensures.lost i)
