use Rattle.std.proofs.Common.{◌≡◌, ◌≤◌, take}
use Rattle.arrayvec.specs.ArrayVec.{array_vec_len}
use Rattle.isolate_core.specs.Verdict.{possible_models}
use Rattle.report_put.proofs.lines.possible_indices.Given as goal

abbrev pub invariant-loop-i : goal.invariant-loop-i
invariant-loop-i l = record {
  so_far : l.models.items ≡ possible_models (take l.i l.possible);
  room : array_vec_len l.models ≤ l.i;
}
