use Rattle.std.proofs.Common.{◌≡◌, ℕ, ◌<◌, ◌+ℤ◌, ◌-ℤ◌, ◌*ℤ◌, ◌≤ℤ◌, length, pos}
use Rattle.set_rules.specs.Sum.{total}
use Rattle.set_rules.specs.Columns.{at, column_entry, row_magnitude, tabulate}
use Rattle.set_rules.specs.Round.{rnd}
use Rattle.set_rules.specs.Zono.{InRange}
use Rattle.set_rules.specs.Gain.{substitution, residue_radius}
use Rattle.zono_set.proofs.zono.substitute.look_ahead.Given as goal

abbrev pub invariant-loop-i : goal.invariant-loop-i
invariant-loop-i g l = record {
  long : length l.rest ≡ 8;
  centre : l.ahead.centre.items ≡ tabulate l.i (λ i. at l.centre i +ℤ rnd (at l.gain i *ℤ l.b));
  radii : l.ahead.radii.items ≡ tabulate l.i (residue_radius l.gain (record { coefficients = l.a; right = l.b }));
  sizes : l.ahead.sizes.items ≡ tabulate l.i (row_magnitude (substitution g.row.N l.gain (record { coefficients = l.a; right = l.b }) (record { centre = l.centre; columns = l.cols })).columns);
  fits : InRange l.i (substitution g.row.N l.gain (record { coefficients = l.a; right = l.b }) (record { centre = l.centre; columns = l.cols }));
  spread : l.spread ≡ total l.i (row_magnitude (substitution g.row.N l.gain (record { coefficients = l.a; right = l.b }) (record { centre = l.centre; columns = l.cols })).columns);
  spread_low : pos 0 ≤ℤ l.spread;
  no_more : l.spread ≤ℤ l.before;
  rest : (k : ℕ) → k < l.i → (t : ℕ) → t < length l.a → column_entry l.rest t k ≡ column_entry l.cols k t -ℤ rnd (at l.gain k *ℤ at l.a t);
}
