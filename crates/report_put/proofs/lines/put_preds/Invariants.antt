use Rattle.std.proofs.Common.{take}
use Rattle.report_rules.specs.Lines.{pred_lines}
use Rattle.report_put.proofs.Put.{HasPut}
use Rattle.report_put.proofs.lines.put_preds.Given as goal

abbrev pub invariant-loop-o : goal.invariant-loop-o
invariant-loop-o g l = HasPut (pred_lines l.index (take l.o l.preds)) (g.O.Sink.state l.fn.out) (g.O.Sink.state l.out)
