use Rattle.std.proofs.Common.{get_or, pos, unsigned_abs, rules, arith, ap, ◌∙◌, SFits, to_z-of_z}
use mir.Syntax.{w64}
use Rattle.set_rules.proofs.Greatest.{greatest_more}
use Rattle.row_drop.proofs.shrink.greatest_in.Goals as goal

pub loop-entry-preserved : goal.loop-entry-preserved
loop-entry-preserved c =
    let fits : SFits w64 (get_or c.args.column.now c.loop-entry.entry-index (pos 0)) = search rules in
    let size = c.unsigned_abs.ensures.value ∙ ap unsigned_abs (to_z-of_z fits) in
    let more = greatest_more c.args.column.now c.loop-entry.entry-index c.loop-entry-test.true in
    let before = c.loop-entry.invariant in
    let max_is = c.max-most.ensures in
    omega arith
