use Rattle.std.proofs.Common.{take}
use Rattle.report_rules.specs.Lines.{head_lines}
use Rattle.model_bank.specs.Bank.{names_in}
use Rattle.report_put.proofs.Put.{HasPut}
use Rattle.report_put.proofs.lines.put_head.Given as goal

abbrev pub invariant-loop-i : goal.invariant-loop-i
invariant-loop-i g l = HasPut (head_lines (take l.i (names_in l.models))) (g.O.Sink.state l.fn.out) (g.O.Sink.state l.out)
