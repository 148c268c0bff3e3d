use Rattle.std.proofs.Common.{◌≡◌, ◌-◌, ◌≤◌, ◌++◌, map}
use Rattle.arrayvec.specs.ArrayVec.{array_vec_len}
use Rattle.report_text.specs.Loose.{words_of, multiplier_of}
use Rattle.report_text.proofs.words.multipliers_of.Given as goal

abbrev pub invariant-loop-multipliers : goal.invariant-loop-multipliers
invariant-loop-multipliers l = record {
  few : array_vec_len l.multipliers ≤ 6;
  items : l.multipliers.items ++ map multiplier_of (words_of (6 - array_vec_len l.multipliers) l.rest)
      ≡ map multiplier_of (words_of 6 l.fn.text);
}

abbrev pub decreases-loop-multipliers : goal.decreases-loop-multipliers
decreases-loop-multipliers l = 6 - array_vec_len l.multipliers
