use Rattle.std.proofs.Common.{◌≡◌, ◌*◌, ◌^◌, ◌≤◌, ℤ, ◌+ℤ◌, ◌*ℤ◌, unsigned_abs, to_z, of_z, to_z-of_z, mul-le-mul, ap, ◌∙◌, arith}
use Rattle.std.proofs.lemmas.Int.{ints, unsigned_abs-mul}
use mir.Syntax.{w128}
use Rattle.set_rules.specs.Sum.{magnitude}
use Rattle.fixed_mat.proofs.Bits.{back, sum_back}
use Rattle.zono_set.proofs.Steps.{back64}
use Rattle.zono_set.proofs.zono.unrounded.widened_size.Goals as goal
use Rattle.zono_set.proofs.zono.unrounded.widened_size.Goals.{After-from-2}

module _ (c : After-from-2) where
  abbrev product : ℤ
  product = magnitude c.args.gain *ℤ c.args.of_symbol

  product_small : unsigned_abs product ≤ 10 ^ 34
  product_small =
      let size = unsigned_abs-mul (magnitude c.args.gain) c.args.of_symbol in
      let most : unsigned_abs (magnitude c.args.gain) * unsigned_abs c.args.of_symbol ≤ 10 ^ 12 * 10 ^ 22 = mul-le-mul c.requires.gain c.requires.symbol in
      omega arith

  gain_is : c.from-2.result ≡ magnitude c.args.gain
  gain_is =
      let small = c.requires.gain in
      let size = c.abs.ensures.value ∙ ap magnitude (back64 c.args.gain (omega (arith, small))) in
      c.from-2.ensures ∙ back64 c.abs.result (omega (arith, ints, small, size)) ∙ size

  product_is : to_z w128 (of_z w128 c.from-2.result) *ℤ to_z w128 (of_z w128 c.args.of_symbol) ≡ product
  product_is =
      let small = c.requires.gain in
      let gain = ap (λ v. to_z w128 (of_z w128 v)) gain_is ∙ back (magnitude c.args.gain) (omega (arith, ints, small)) in
      let symbol = back c.args.of_symbol (let h = c.requires.symbol in omega arith) in
      λ i. gain i *ℤ symbol i

  size_small : unsigned_abs c.args.size ≤ 10 ^ 19
  size_small = let fits = c.ranges.size in omega (arith, ints)

  whole_is : to_z w128 (of_z w128 (to_z w128 (of_z w128 c.from.result) +ℤ to_z w128 (of_z w128 (to_z w128 (of_z w128 c.from-2.result) *ℤ to_z w128 (of_z w128 c.args.of_symbol))))) ≡ c.args.size +ℤ product
  whole_is =
      let small = product_small in
      ap (λ v. to_z w128 (of_z w128 (to_z w128 (of_z w128 c.from.result) +ℤ to_z w128 (of_z w128 v)))) product_is
      ∙ ap (λ v. to_z w128 (of_z w128 (to_z w128 (of_z w128 v) +ℤ to_z w128 (of_z w128 product)))) (c.from.ensures ∙ to_z-of_z c.ranges.size)
      ∙ sum_back c.args.size product (let h = size_small in omega arith) (omega arith)

pub returns-clause-value : goal.returns-clause-value
returns-clause-value c = whole_is c

pub returns-clause-within : goal.returns-clause-within
returns-clause-within c = let one = size_small c in let two = product_small c in rw (whole_is c) (omega (arith, ints, one, two))
