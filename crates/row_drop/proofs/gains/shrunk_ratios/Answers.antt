use Rattle.std.proofs.Common.{◌∙◌}
use Rattle.row_drop.proofs.Shrinking.{gain-is}
use Rattle.row_drop.proofs.gains.shrunk_ratios.Goals as goal

pub returns-clause-value : goal.returns-clause-value
returns-clause-value g c =
    gain-is g.row.N c.shift_of-halvings.result c.args.a.now c.args.cols.now _ _ c.requires
    (c.deref.ensures.0 ∙ c.shrunk_row-row.ensures.value) c.shift_of-halvings.ensures.value c.ratios.ensures.value
