use Rattle.std.proofs.Common.{◌≡◌, ◌+◌, ◌*◌, ◌≤◌, ◌++◌, take, flat_map}
use Rattle.arrayvec.specs.ArrayVec.{array_vec_len}
use Rattle.report_text.specs.Line.{number_word}
use Rattle.report_text.proofs.pieces.push_indices.Given as goal

abbrev pub invariant-loop-index : goal.invariant-loop-index
invariant-loop-index l = record {
  text : l.line.items ≡ l.initial.line.items ++ flat_map number_word (take l.index-index l.indices);
  longer : array_vec_len l.line ≤ array_vec_len l.initial.line + 11 * l.index-index;
}
