use Rattle.std.proofs.Common.{◌≡◌, drop}
use Rattle.report_text.specs.Ranges.{rise_from}
use Rattle.report_text.proofs.range.rise.Given as goal

abbrev pub invariant-loop-model : goal.invariant-loop-model
invariant-loop-model l = rise_from l.least (drop l.model-index l.models) ≡ rise_from 0 l.models
