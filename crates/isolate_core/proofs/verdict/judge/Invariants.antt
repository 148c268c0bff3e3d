use Rattle.std.proofs.Common.{◌≡◌, take}
use Rattle.isolate_core.specs.Verdict.{verdict_of, possible_models}
use Rattle.isolate_core.proofs.verdict.judge.Given as goal

abbrev pub invariant-loop-i : goal.invariant-loop-i
invariant-loop-i l = l.verdict ≡ verdict_of (possible_models (take l.i l.possible))
