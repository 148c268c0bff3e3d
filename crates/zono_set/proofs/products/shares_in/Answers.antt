use Rattle.std.proofs.Common.{◌≡◌, ℕ, ◌+◌, ◌*◌, ◌<◌, ◌≤◌, ◌≢◌, length, length-set, get_or-set_same, get_or-set_other, below_more, ℤ, pos, ◌+ℤ◌, ◌-ℤ◌, ◌*ℤ◌, ◌≤ℤ◌, unsigned_abs, SFits, to_z, of_z, to_z-of_z, sym, ap, ◌∙◌, subst, mul-le-mul, arith}
use Rattle.std.proofs.lemmas.Int.{ints, unsigned_abs-mul}
use Rattle.std.proofs.lemmas.List.Sums.{get_or-le-sum_by}
use Rattle.std.specs.List.{sum_by}
use mir.Syntax.{w64, w128}
use Rattle.set_rules.specs.Sum.{total, magnitude}
use Rattle.set_rules.specs.Columns.{at, column_entry}
use Rattle.set_rules.specs.Round.{rnd, residue}
use Rattle.set_rules.proofs.Sums.{total-zero, magnitude-le-total}
use Rattle.fixed_mat.proofs.Bits.{next_sum}
use Rattle.fixed_mat.proofs.Fits.{term_fits, sizes_fit}
use Rattle.zono_set.proofs.products.shares_in.Given.{Over}
use Rattle.zono_set.proofs.products.shares_in.Goals as goal
use Rattle.zono_set.proofs.products.shares_in.Goals.{After-of_wide-number, After-of-old, After-size}

pub loop-t-init : goal.loop-t-init
loop-t-init g c = record { long = c.told-rest; size = c.zero-size.ensures ∙ sym (total-zero _); left = sym (total-zero _); left_high = omega arith; rest = λ k h. absurd (omega arith) }

module _ (g : Over) (c : After-of_wide-number g) where
  abbrev exact : ℕ → ℤ
  exact t = to_z w64 (of_z w64 c.args.gain) *ℤ at c.args.a.now t

  product : to_z w64 (of_z w64 c.args.gain) *ℤ g.W.Whole.value c.of_wide-number.result ≡ exact c.loop-t.t
  product =
      let number : SFits w128 c.at.result = record { sfits = c.at.type_inv } in
      ap (λ z. to_z w64 (of_z w64 c.args.gain) *ℤ z) (c.of_wide-number.ensures ∙ to_z-of_z number ∙ c.at.ensures.value)

  product_fits : unsigned_abs (exact c.loop-t.t) ≤ g.W.Whole.limit
  product_fits =
      let gain = ap unsigned_abs (to_z-of_z c.ranges.gain) in
      let size = unsigned_abs-mul (to_z w64 (of_z w64 c.args.gain)) (at c.args.a.now c.loop-t.t) in
      let test = c.loop-t-test.true in
      let n = c.len-t-end.ensures.value in
      let one = get_or-le-sum_by unsigned_abs c.args.a.now c.loop-t.t (pos 0) (omega (arith, n, test)) in
      let most : unsigned_abs (to_z w64 (of_z w64 c.args.gain)) * unsigned_abs (at c.args.a.now c.loop-t.t) ≤ unsigned_abs c.args.gain * sum_by unsigned_abs c.args.a.now = mul-le-mul (omega (arith, gain)) one in
      let h = c.requires.products in
      omega (arith, size, most, h)

  abbrev taken : ℕ → ℤ
  taken t = column_entry c.args.cols.now c.args.i t -ℤ rnd (exact t)

  all_fit : total (length c.args.a.now) (λ t. magnitude (taken t)) ≤ℤ pos g.W.Whole.limit
  all_fit = subst (λ (z : ℤ). total (length c.args.a.now) (λ t. magnitude (column_entry c.args.cols.now c.args.i t -ℤ rnd (z *ℤ at c.args.a.now t))) ≤ℤ pos g.W.Whole.limit) (sym (to_z-of_z c.ranges.gain)) c.requires.sizes

pub times-product-requires : goal.times-product-requires
times-product-requires g c = let here = (goal.at.times-product-requires g c).After-of_wide-number in rw (product g here) (product_fits g here)

pub rounded-share-requires : goal.rounded-share-requires
rounded-share-requires g c = let here = (goal.at.rounded-share-requires g c).After-of_wide-number in rw (c.times-product.ensures ∙ product g here) (product_fits g here)

module _ (g : Over) (c : After-of-old g) where
  abbrev start : After-of_wide-number g
  start = (goal.at.minus-entry-requires g c).After-of_wide-number

  share : g.W.Whole.value c.times-product.result ≡ exact g start c.loop-t.t
  share = c.times-product.ensures ∙ product g start

  rest_is : g.W.Whole.value c.of-old.result -ℤ g.W.Whole.value c.rounded-share.result.nearest ≡ taken g start c.loop-t.t
  rest_is =
      let old : SFits w64 c.at-in-loop-t.result = record { sfits = c.at-in-loop-t.type_inv } in
      (λ i. (c.of-old.ensures ∙ to_z-of_z old ∙ c.at-in-loop-t.ensures.value) i -ℤ (c.rounded-share.ensures.nearest ∙ ap rnd share) i)

  rest_fits : unsigned_abs (taken g start c.loop-t.t) ≤ g.W.Whole.limit
  rest_fits = let test = c.loop-t-test.true in let n = c.len-t-end.ensures.value in term_fits g.W.Whole.limit (length c.args.a.now) (taken g start) (all_fit g start) c.loop-t.t (omega (arith, n, test))

pub minus-entry-requires : goal.minus-entry-requires
minus-entry-requires g c = rw (rest_is g c) (rest_fits g c)

pub size-requires : goal.size-requires
size-requires g c = let here = (goal.at.size-requires g c).After-of-old in rw (c.minus-entry.ensures ∙ rest_is g here) (rest_fits g here)

module _ (g : Over) (c : After-size g) where
  abbrev rest : ℕ → ℤ
  rest = taken g (goal.at.plus-size-requires g c).After-of_wide-number

  entry : g.W.Whole.value c.minus-entry.result ≡ rest c.loop-t.t
  entry = c.minus-entry.ensures ∙ rest_is g (goal.at.plus-size-requires g c).After-of-old

  next : g.W.Whole.value c.loop-t.size +ℤ g.W.Whole.value c.size.result ≡ total (c.loop-t.t + 1) (λ t. magnitude (rest t))
  next = next_sum (g.W.Whole.value c.loop-t.size) (g.W.Whole.value c.size.result) c.loop-t.t (λ t. magnitude (rest t)) c.loop-t.invariant.size (c.size.ensures ∙ ap magnitude entry)

pub plus-size-requires : goal.plus-size-requires
plus-size-requires g c =
    let test = c.loop-t-test.true in
    let n = c.len-t-end.ensures.value in
    rw (next g c) (sizes_fit g.W.Whole.limit (length c.args.a.now) (rest g c) (all_fit g (goal.at.plus-size-requires g c).After-of_wide-number) (c.loop-t.t + 1) (omega (arith, n, test)))

pub loop-t-preserved : goal.loop-t-preserved
loop-t-preserved g c =
    let here = (goal.at.loop-t-preserved g c).After-size in
    let half = c.rounded-share.ensures.half in
    let high = c.loop-t.invariant.left_high in
    let value = to_z w64 (of_z w64 c.low.result) in
    let lt : c.loop-t.t < length c.loop-t.rest = let n = c.len-t-end.ensures.few in let test = c.loop-t-test.true in let long = c.loop-t.invariant.long in omega (arith, n, test, long) in
    let stored : unsigned_abs (rest g here c.loop-t.t) ≤ 1_000_000_000_000_000_000 → value ≡ rest g here c.loop-t.t =
    λ small. let whole : SFits w64 c.low.result = record { sfits = c.low.type_inv } in
    to_z-of_z whole ∙ c.low.ensures (subst (λ z. unsigned_abs z ≤ 1_000_000_000_000_000_000) (sym (entry g here)) small) ∙ entry g here in
    record {
      long = length-set c.loop-t.rest c.loop-t.t value ∙ c.loop-t.invariant.long;
      size = c.plus-size.ensures ∙ next g here;
      left = next_sum (pos c.loop-t.left) (pos c.rounded-share.result.residue) c.loop-t.t (λ t. residue (to_z w64 (of_z w64 c.args.gain) *ℤ at c.args.a.now t)) c.loop-t.invariant.left
          (c.rounded-share.ensures.residue ∙ ap residue (share g (goal.at.loop-t-preserved g c).After-of-old));
      left_high = omega (arith, half, high);
      rest = below_more _ _
          (λ k h small. let ne : k ≢ c.loop-t.t = λ e. omega (arith, h, e) in get_or-set_other c.loop-t.rest c.loop-t.t k value (pos 0) ne ∙ c.loop-t.invariant.rest k h small)
          (λ small. get_or-set_same c.loop-t.rest c.loop-t.t value (pos 0) lt ∙ stored small);
    }

pub returns-clause-rest : goal.returns-clause-rest
returns-clause-rest g c small t h =
    let n = c.len-t-end.ensures.value in
    let test = c.loop-t-test.false in
    let under : t < c.loop-t.t = omega (arith, h, n, test) in
    let taken : ℕ → ℤ = λ t. column_entry c.args.cols.now c.args.i t -ℤ rnd (to_z w64 (of_z w64 c.args.gain) *ℤ at c.args.a.now t) in
    let one = magnitude-le-total c.loop-t.t t taken under in
    let whole : SFits w128 c.wide.result = record { sfits = c.wide.type_inv } in
    let is = to_z-of_z whole ∙ c.wide.ensures ∙ c.loop-t.invariant.size in
    c.loop-t.invariant.rest t under (omega (arith, ints, one, is, small)) ∙ ap (λ z. column_entry c.args.cols.now c.args.i t -ℤ rnd (z *ℤ at c.args.a.now t)) (to_z-of_z c.ranges.gain)
