use Rattle.std.proofs.Common.{take}
use Rattle.report_rules.specs.Lines.{hull_lines}
use Rattle.report_put.proofs.Put.{HasPut}
use Rattle.report_put.proofs.lines.put_hulls.Given as goal

abbrev pub invariant-loop-x : goal.invariant-loop-x
invariant-loop-x g l = HasPut (hull_lines l.index (take l.x l.hulls)) (g.O.Sink.state l.fn.out) (g.O.Sink.state l.out)
