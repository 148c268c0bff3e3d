use Rattle.std.proofs.Common.{◌≡◌, ℕ, ◌+◌, ◌<◌, length, ℤ, ◌+ℤ◌, ◌*ℤ◌, SFits, to_z, of_z, to_z-of_z, sym, ◌∙◌, arith}
use mir.Syntax.{w64}
use Rattle.set_rules.specs.Sum.{total}
use Rattle.set_rules.specs.Columns.{at}
use Rattle.set_rules.proofs.Sums.{total-zero}
use Rattle.fixed_mat.proofs.Bits.{next_sum}
use Rattle.fixed_mat.proofs.Fits.{term_fits, sum_fits}
use Rattle.row_drop.proofs.products.square_in.Given.{Over}
use Rattle.row_drop.proofs.products.square_in.Goals as goal
use Rattle.row_drop.proofs.products.square_in.Goals.{After-number_at-number}

pub loop-t-init : goal.loop-t-init
loop-t-init g c = c.zero-sum.ensures ∙ sym (total-zero _)

module _ (g : Over) (c : After-number_at-number g) where
  abbrev term : ℕ → ℤ
  term t = at c.args.a.now t *ℤ at c.args.a.now t

  below : c.loop-t.t < length c.args.a.now
  below = let n = c.len-t-end.ensures.value in let test = c.loop-t-test.true in omega (arith, n, test)

  abbrev made : ℤ
  made = to_z w64 (of_z w64 c.number_at-number.result) *ℤ to_z w64 (of_z w64 c.number_at-number.result)

  product : made ≡ term c.loop-t.t
  product =
      let fits : SFits w64 c.number_at-number.result = record { sfits = c.number_at-number.type_inv } in
      let number = to_z-of_z fits ∙ c.number_at-number.ensures in
      (λ i. number i *ℤ number i)

  next : g.W.Whole.value c.loop-t.sum +ℤ made ≡ total (c.loop-t.t + 1) term
  next = next_sum (g.W.Whole.value c.loop-t.sum) made c.loop-t.t term c.loop-t.invariant product

pub plus_product-sum-requires-clause-product : goal.plus_product-sum-requires-clause-product
plus_product-sum-requires-clause-product g c =
    let here = (goal.at.plus_product-sum-requires-clause-product g c).After-number_at-number in
    rw (product g here) (term_fits g.W.Whole.limit (length c.args.a.now) (term g here) c.requires.products c.loop-t.t (below g here))

pub plus_product-sum-requires-clause-sum : goal.plus_product-sum-requires-clause-sum
plus_product-sum-requires-clause-sum g c =
    let here = (goal.at.plus_product-sum-requires-clause-sum g c).After-number_at-number in
    let under = below g here in
    let whole = length c.args.a.now in
    rw (next g here) (sum_fits g.W.Whole.limit whole (term g here) c.requires.products (c.loop-t.t + 1) (omega (arith, under)))

pub loop-t-preserved : goal.loop-t-preserved
loop-t-preserved g c = c.plus_product-sum.ensures ∙ next g (goal.at.loop-t-preserved g c).After-number_at-number
