use Rattle.std.proofs.Common.{◌≡◌, ◌*◌, ◌≤◌, pos}
use Rattle.set_rules.specs.Sum.{total, magnitude}
use Rattle.set_rules.specs.Columns.{entry}
use Rattle.zono_set.proofs.zono.image.noise_reach.Given as goal

abbrev pub invariant-loop-t : goal.invariant-loop-t
invariant-loop-t g l = record {
  so_far : pos l.sum ≡ total l.t (λ t. magnitude (entry 8 l.e l.i t));
  within : l.sum ≤ l.t * 1_000_000_000_000_000_000;
}
