use Rattle.std.proofs.Common.{get_or, pos, take, ap, sym, ◌∙◌, SFits, to_z-of_z, rules, sum_by, unsigned_abs}
use Rattle.std.proofs.lemmas.List.{take_more}
use mir.Syntax.{w64}
use Rattle.set_rules.specs.Sum.{magnitude}
use Rattle.set_rules.specs.Reduce.{greatest}
use Rattle.girard_reduce.proofs.LiftedKeys.{more_sizes}
use Rattle.girard_reduce.proofs.keys.column_sizes.Goals as goal

pub loop-entry-preserved : goal.loop-entry-preserved
loop-entry-preserved g c =
    let fits : SFits w64 (get_or c.args.column.now c.loop-entry.entry-index (pos 0)) = search rules in
    let size = c.size.ensures ∙ ap magnitude (c.of.ensures ∙ to_z-of_z fits) in
    let more = more_sizes (take c.loop-entry.entry-index c.args.column.now) (get_or c.args.column.now c.loop-entry.entry-index (pos 0)) _ _ _ _ _ c.loop-entry.invariant.sum c.loop-entry.invariant.greatest size c.add.ensures.sum c.add.ensures.greatest in
    let next = take_more c.args.column.now c.loop-entry.entry-index (pos 0) c.loop-entry-test.true in
    record {
      sum = more.0 ∙ ap (λ xs. pos (sum_by unsigned_abs xs)) (sym next);
      greatest = more.1 ∙ ap (λ xs. pos (greatest xs)) (sym next);
    }
