use Rattle.std.proofs.Common.{◌≡◌, ℕ, ◌+◌, ◌<◌, length, ℤ, ◌+ℤ◌, ◌*ℤ◌, SFits, to_z, of_z, to_z-of_z, sym, ◌∙◌, arith}
use mir.Syntax.{w64}
use Rattle.set_rules.specs.Sum.{total}
use Rattle.set_rules.specs.Columns.{at, column_entry}
use Rattle.set_rules.proofs.Sums.{total-zero}
use Rattle.fixed_mat.proofs.Bits.{next_sum}
use Rattle.fixed_mat.proofs.Fits.{term_fits, sum_fits}
use Rattle.row_drop.proofs.products.product_in.Given.{Over}
use Rattle.row_drop.proofs.products.product_in.Goals as goal
use Rattle.row_drop.proofs.products.product_in.Goals.{After-number_at}

pub loop-t-init : goal.loop-t-init
loop-t-init g c = c.zero-sum.ensures ∙ sym (total-zero _)

module _ (g : Over) (c : After-number_at g) where
  abbrev term : ℕ → ℤ
  term t = column_entry c.args.cols.now c.args.i t *ℤ at c.args.a.now t

  below : c.loop-t.t < length c.args.cols.now
  below = let n = c.len-t-end.ensures.value in let test = c.loop-t-test.true in omega (arith, n, test)

  abbrev made : ℤ
  made = to_z w64 (of_z w64 c.at.result) *ℤ to_z w64 (of_z w64 c.number_at.result)

  product : made ≡ term c.loop-t.t
  product =
      let entry : SFits w64 c.at.result = record { sfits = c.at.type_inv } in
      let number : SFits w64 c.number_at.result = record { sfits = c.number_at.type_inv } in
      (λ i. (to_z-of_z entry ∙ c.at.ensures.value) i *ℤ (to_z-of_z number ∙ c.number_at.ensures) i)

  next : g.W.Whole.value c.loop-t.sum +ℤ made ≡ total (c.loop-t.t + 1) term
  next = next_sum (g.W.Whole.value c.loop-t.sum) made c.loop-t.t term c.loop-t.invariant product

pub plus_product-sum-requires-clause-product : goal.plus_product-sum-requires-clause-product
plus_product-sum-requires-clause-product g c =
    let here = (goal.at.plus_product-sum-requires-clause-product g c).After-number_at in
    rw (product g here) (term_fits g.W.Whole.limit (length c.args.cols.now) (term g here) c.requires.products c.loop-t.t (below g here))

pub plus_product-sum-requires-clause-sum : goal.plus_product-sum-requires-clause-sum
plus_product-sum-requires-clause-sum g c =
    let here = (goal.at.plus_product-sum-requires-clause-sum g c).After-number_at in
    let under = below g here in
    let whole = length c.args.cols.now in
    rw (next g here) (sum_fits g.W.Whole.limit whole (term g here) c.requires.products (c.loop-t.t + 1) (omega (arith, under)))

pub loop-t-preserved : goal.loop-t-preserved
loop-t-preserved g c = c.plus_product-sum.ensures ∙ next g (goal.at.loop-t-preserved g c).After-number_at
