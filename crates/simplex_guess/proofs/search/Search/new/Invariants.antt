use Rattle.std.proofs.Common.{◌≡◌}
use Rattle.arrayvec.specs.ArrayVec.{array_vec_len}
use Rattle.simplex_guess.proofs.search.Search.new.Given as goal

abbrev pub invariant-loop-t : goal.invariant-loop-t
invariant-loop-t l = array_vec_len l.columns ≡ l.t
