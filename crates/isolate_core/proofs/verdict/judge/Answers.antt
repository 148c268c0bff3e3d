use Rattle.std.proofs.Common.{◌∙◌, arith}
use Rattle.isolate_core.proofs.Judged.{judged-possible, judged-excluded}
use Rattle.isolate_core.proofs.verdict.judge.Goals.{then-is_possible, else-is_possible}
use Rattle.isolate_core.proofs.verdict.judge.Goals as goal

pub loop-i-preserved : goal.loop-i-preserved
loop-i-preserved c = elim c.if-is_possible.branch [
  | then-is_possible w ↦ w.verdict-is ∙ w.with_model-verdict.ensures ∙ judged-possible _ _ c.loop-i-test.true _ c.loop-i.invariant w.if-is_possible.true
  | else-is_possible w ↦ w.verdict-is ∙ judged-excluded _ _ c.loop-i-test.true _ c.loop-i.invariant w.if-is_possible.false
]
