use Rattle.std.proofs.Common.{◌≡◌, ◌+◌, ◌*◌, ◌≤◌, ◌++◌, take, flat_map}
use Rattle.arrayvec.specs.ArrayVec.{array_vec_len}
use Rattle.farkas_check.specs.Certificate.{list_of}
use Rattle.report_text.specs.Line.{multiplier_word}
use Rattle.report_text.proofs.pieces.push_multipliers.Given as goal

abbrev pub invariant-loop-r : goal.invariant-loop-r
invariant-loop-r l = record {
  text : l.line.items ≡ l.initial.line.items ++ flat_map multiplier_word (take l.r (list_of l.multipliers));
  longer : array_vec_len l.line ≤ array_vec_len l.initial.line + 12 * l.r;
}
