use Rattle.std.proofs.Common.{◌≡◌, ℕ, ◌+◌, ℤ, pos, ◌+ℤ◌, ◌*ℤ◌, sym, ap, ◌∙◌, arith}
use Rattle.set_rules.specs.Sum.{total, magnitude}
use Rattle.set_rules.specs.Columns.{entry, column_entry}
use Rattle.set_rules.specs.Round.{rnd, residue}
use Rattle.set_rules.proofs.Sums.{total-zero}
use Rattle.fixed_mat.proofs.Bits.{next_sum}
use Rattle.fixed_mat.proofs.Fits.{sizes_fit}
use Rattle.zono_set.proofs.products.sums_in.Given.{Over}
use Rattle.zono_set.proofs.products.sums_in.Goals as goal
use Rattle.zono_set.proofs.products.sums_in.Goals.{After-size}

pub loop-t-init : goal.loop-t-init
loop-t-init g c = record { size = c.zero-size.ensures ∙ sym (total-zero _); left = sym (total-zero _); left_high = omega arith }

module _ (g : Over) (c : After-size g) where
  abbrev exact : ℕ → ℤ
  exact t = total g.row.N (λ j. entry g.row.N c.args.a.now c.args.r j *ℤ column_entry c.args.cols.now j t)

  next : g.W.Whole.value c.loop-t.size +ℤ g.W.Whole.value c.size.result ≡ total (c.loop-t.t + 1) (λ t. magnitude (rnd (exact t)))
  next = next_sum (g.W.Whole.value c.loop-t.size) (g.W.Whole.value c.size.result) c.loop-t.t (λ t. magnitude (rnd (exact t))) c.loop-t.invariant.size
      (c.size.ensures ∙ ap magnitude (c.rounded-product.ensures.nearest ∙ ap rnd c.column_product-sum.ensures.value))

pub plus-size-requires : goal.plus-size-requires
plus-size-requires g c =
    let here = (goal.at.plus-size-requires g c).After-size in
    let n = c.len-t-end.ensures.value in
    let test = c.loop-t-test.true in
    rw (next g here) (sizes_fit g.W.Whole.limit _ (λ t. rnd (exact g here t)) c.requires.sizes (c.loop-t.t + 1) (omega (arith, n, test)))

pub loop-t-preserved : goal.loop-t-preserved
loop-t-preserved g c =
    let half = c.rounded-product.ensures.half in
    let high = c.loop-t.invariant.left_high in
    record {
      size = c.plus-size.ensures ∙ next g (goal.at.loop-t-preserved g c).After-size;
      left = next_sum (pos c.loop-t.left) (pos c.rounded-product.result.residue) c.loop-t.t (λ t. residue (exact g (goal.at.loop-t-preserved g c).After-size t)) c.loop-t.invariant.left
          (c.rounded-product.ensures.residue ∙ ap residue c.column_product-sum.ensures.value);
      left_high = omega (arith, half, high);
    }
