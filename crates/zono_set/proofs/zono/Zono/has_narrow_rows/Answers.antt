use Rattle.std.proofs.Common.{below_more}
use Rattle.zono_set.proofs.zono.Zono.has_narrow_rows.Goals as goal

pub loop-i-preserved : goal.loop-i-preserved
loop-i-preserved g c = below_more _ _ c.loop-i.invariant (c.has_narrow_row.ensures c.if-not-has_narrow_row.false)
