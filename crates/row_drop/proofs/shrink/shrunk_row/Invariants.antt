use Rattle.std.proofs.Common.{◌≡◌, ◌<◌, ◌^◌, take, map, unsigned_abs}
use Rattle.std.specs.List.{All}
use Rattle.set_rules.specs.Gain.{shrunk_value}
use Rattle.row_drop.proofs.shrink.shrunk_row.Given as goal

abbrev pub invariant-loop-t : goal.invariant-loop-t
invariant-loop-t l = record {
  value : l.row.items ≡ map (shrunk_value l.halvings) (take l.t l.a);
  small : All (λ x. unsigned_abs x < 2 ^ 40) l.row.items;
}
