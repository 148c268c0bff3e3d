use Rattle.std.proofs.Common.{◌≡◌, ◌≤◌, ◌*ℤ◌, unsigned_abs, SFits, to_z, of_z, to_z-of_z, ap, ◌∙◌, arith, subst, sym}
use Rattle.std.proofs.lemmas.Int.{ints}
use mir.Syntax.{w128}
use Rattle.fixed_mat.proofs.Bits.{small_fits, back}
use Rattle.farkas_check.specs.Multipliers.{multiplied_limit}
use Rattle.farkas_check.proofs.Sums128.{product-within}
use Rattle.farkas_check.proofs.refutation.multiplied.Goals as goal
use Rattle.farkas_check.proofs.refutation.multiplied.Goals.{After-from}

module _ (c : After-from) where
  is : to_z w128 (of_z w128 c.from.result) *ℤ to_z w128 (of_z w128 c.args.number) ≡ c.args.multiplier *ℤ c.args.number
  is =
      let fits : SFits w128 c.from.result = record { sfits = c.from.type_inv } in
      (λ i. (to_z-of_z fits ∙ c.from.ensures ∙ to_z-of_z c.ranges.multiplier) i *ℤ to_z-of_z c.ranges.number i)

  small : unsigned_abs (c.args.multiplier *ℤ c.args.number) ≤ multiplied_limit
  small = product-within c.args.multiplier c.args.number (omega (arith, ints)) c.requires

pub overflow_mul-result : goal.overflow_mul-result
overflow_mul-result c = rw (is c) (small_fits (c.args.multiplier *ℤ c.args.number) (let h = small c in omega arith))

pub returns-clause-value : goal.returns-clause-value
returns-clause-value c = ap (λ z. to_z w128 (of_z w128 z)) (is c) ∙ back (c.args.multiplier *ℤ c.args.number) (let h = small c in omega arith)

pub returns-clause-within : goal.returns-clause-within
returns-clause-within c = subst (λ z. unsigned_abs z ≤ multiplied_limit) (sym (returns-clause-value c)) (small c)
