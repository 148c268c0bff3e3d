use Rattle.std.proofs.Common.{◌≡◌, ℕ, ◌<◌, ◌≤◌, ℤ, pos, take, set, replicate, unsigned_abs, true, to_z, of_z, to_z-of_z, sym, ◌∙◌, arith, subst}
use Rattle.std.proofs.lemmas.Int.{fits_signed_from_abs}
use mir.Syntax.{w32}
use Rattle.set_rules.specs.Farkas.{pair_list}
use Rattle.farkas_check.specs.Multipliers.{are_small}
use Rattle.farkas_check.proofs.Values.{pair-values, pair-small}
use Rattle.farkas_check.proofs.certificate.Multipliers.pair.Goals as goal

module _ (count r s : ℕ) (x y : ℤ) (few : count ≤ 6) (less : r < s) (high : s < count) (h : unsigned_abs x ≤ 2_147_483_647) (k : unsigned_abs y ≤ 2_147_483_647) where
  is : take count (set (set (replicate 6 (pos 0)) r (to_z w32 (of_z w32 x))) s (to_z w32 (of_z w32 y))) ≡ pair_list count r s x y
  is =
      let first = to_z-of_z (fits_signed_from_abs w32 x (omega arith)) in
      let second = to_z-of_z (fits_signed_from_abs w32 y (omega arith)) in
      (λ i. take count (set (set (replicate 6 (pos 0)) r (first i)) s (second i))) ∙ pair-values count r s x y few less high

pub invariant_of-result : goal.invariant_of-result
invariant_of-result c = record {
  some = omega arith;
  few = c.requires.few;
  small = subst (λ list. are_small list ≡ true)
      (sym (is c.args.count c.args.r c.args.s c.args.by.first c.args.by.second c.requires.few c.requires.order c.requires.rows c.args.by.first_small c.args.by.second_small))
      (pair-small c.args.count c.args.r c.args.s c.args.by.first c.args.by.second c.args.by.first_small c.args.by.second_small);
}

pub returns : goal.returns
returns c = is c.args.count c.args.r c.args.s c.args.by.first c.args.by.second c.requires.few c.requires.order c.requires.rows c.args.by.first_small c.args.by.second_small
