use Rattle.std.proofs.Common.{◌≡◌, ◌*◌, ◌^◌, ◌≤◌, unsigned_abs}
use Rattle.set_rules.specs.Sum.{total}
use Rattle.zono_set.proofs.Unrounded.{raw_size}
use Rattle.zono_set.proofs.zono.Zono.surely_spreads.Given as goal

abbrev pub invariant-loop-i : goal.invariant-loop-i
invariant-loop-i g l = record {
  so_far : l.sum ≡ total l.i (raw_size l.gain l.a l.self);
  within : unsigned_abs l.sum ≤ l.i * (2 * 10 ^ 34);
}
