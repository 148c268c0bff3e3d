use Rattle.std.proofs.Common.{◌≡◌, pos, replicate}
use Rattle.fixed_mat.proofs.raws.Raws.zero.Given as goal

abbrev pub invariant-loop : goal.invariant-loop
invariant-loop g l = l.cells.items ≡ replicate l.counter (pos 0)
