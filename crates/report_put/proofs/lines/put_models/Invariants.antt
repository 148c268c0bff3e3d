use Rattle.std.proofs.Common.{take, map, flat_map}
use Rattle.report_rules.specs.Lines.{model_lines}
use Rattle.model_bank.specs.Seen.{model_seen}
use Rattle.report_put.proofs.Put.{HasPut}
use Rattle.report_put.proofs.lines.put_models.Given as goal

abbrev pub invariant-loop-model : goal.invariant-loop-model
invariant-loop-model g l = HasPut (flat_map model_lines (map model_seen (take l.model-index l.models))) (g.O.Sink.state l.fn.out) (g.O.Sink.state l.out)
