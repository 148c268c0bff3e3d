use Rattle.std.proofs.Common.{sym, ◌∙◌, arith}
use Rattle.dec_text.proofs.Gaps.{without_last_gap, no_last_gap}
use Rattle.dec_text.proofs.field.without_back_gaps.Goals as goal

pub loop-text-preserved : goal.loop-text-preserved
loop-text-preserved c = without_last_gap c.loop-text.text.now (omega (arith, c.in-len1-up.len_at_least)) (sym c.is_gap.ensures ∙ c.if-not-is_gap.false) ∙ c.loop-text.invariant

pub returns-then-not-is_gap : goal.returns-then-not-is_gap
returns-then-not-is_gap c = sym (no_last_gap c.loop-text.text.now (omega (arith, c.in-len1-up.len_at_least)) (sym c.is_gap.ensures ∙ c.if-not-is_gap.true)) ∙ c.loop-text.invariant
