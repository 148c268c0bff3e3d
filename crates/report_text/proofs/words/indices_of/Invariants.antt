use Rattle.std.proofs.Common.{◌≡◌, ◌-◌, ◌≤◌, ◌++◌, map}
use Rattle.arrayvec.specs.ArrayVec.{array_vec_len}
use Rattle.report_text.specs.Loose.{words_of, index_of}
use Rattle.report_text.proofs.words.indices_of.Given as goal

abbrev pub invariant-loop-indices : goal.invariant-loop-indices
invariant-loop-indices l = record {
  few : array_vec_len l.indices ≤ 16;
  items : l.indices.items ++ map index_of (words_of (16 - array_vec_len l.indices) l.rest) ≡ map index_of (words_of 16 l.fn.text);
}

abbrev pub decreases-loop-indices : goal.decreases-loop-indices
decreases-loop-indices l = 16 - array_vec_len l.indices
