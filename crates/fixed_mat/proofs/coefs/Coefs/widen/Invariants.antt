use Rattle.std.proofs.Common.{◌≡◌, ◌++◌, pos, replicate}
use Rattle.fixed_mat.proofs.coefs.Coefs.widen.Given as goal

abbrev pub invariant-loop : goal.invariant-loop
invariant-loop l = record {
  items : l.self-inside.items.items ≡ l.initial.self-inside.items.items ++ replicate l.counter (pos 0);
  sum : l.self-inside.sum ≡ l.initial.self-inside.sum;
}
