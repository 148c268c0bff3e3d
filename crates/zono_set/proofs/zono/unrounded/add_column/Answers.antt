use Rattle.std.proofs.Common.{◌≡◌, ℕ, ◌+◌, ◌<◌, ◌≤◌, ◌⊎◌, ⊎_elim, length, ℤ, pos, ◌+ℤ◌, ◌-ℤ◌, ◌*ℤ◌, neg_ℤ, unsigned_abs, get_or, to_z, of_z, to_z-of_z, SFits, rules, arith, sym, ap, ◌∙◌}
use Rattle.std.proofs.lemmas.Int.{ints}
use Rattle.std.proofs.lemmas.List.{get_or-set_same, get_or-set_other, length-set}
use mir.Syntax.{w64}
use Rattle.std.proofs.Math.ListN.{set}
use Rattle.set_rules.specs.Sum.{magnitude}
use Rattle.set_rules.specs.Columns.{at}
use Rattle.fixed_mat.proofs.Bits.{entry-one}
use Rattle.zono_set.proofs.Steps.{fits64, back64}
use Rattle.zono_set.proofs.zono.unrounded.add_column.Given.{Over}
use Rattle.zono_set.proofs.zono.unrounded.add_column.Goals as goal
use Rattle.zono_set.proofs.zono.unrounded.add_column.Goals.{After-at, After-sizes-1}

unscaled : (v : ℤ) → unsigned_abs (pos 1_000_000_000 *ℤ v) ≤ 9_000_000_000_000_000_000 → unsigned_abs v ≤ 9_000_000_000
unscaled v h = omega (arith, ints)

pub overflow_mul-entry : goal.overflow_mul-entry
overflow_mul-entry g c =
    let below : c.loop-i.i < g.row.N = let test = c.loop-i-test.true in let long = c.requires.height in omega arith in
    let entry = at c.args.column.now c.loop-i.i in
    let scaled = c.requires.scaled c.loop-i.i below in
    let small = unscaled entry scaled in
    rw (back64 entry (omega arith)) (fits64 (pos 1_000_000_000 *ℤ entry) (omega arith))

module _ (g : Over) (c : After-at g) where
  abbrev i : ℕ
  i = c.loop-i.i

  below : i < g.row.N
  below = let test = c.loop-i-test.true in let long = c.requires.height in omega arith

  abbrev entry : ℤ
  entry = at c.args.column.now i

  abbrev product : ℤ
  product = at c.args.gain.now i *ℤ c.args.number

  abbrev left : ℤ
  left = pos 1_000_000_000 *ℤ entry -ℤ product

  scaled_is : to_z w64 (of_z w64 (pos 1_000_000_000 *ℤ to_z w64 (of_z w64 entry))) ≡ pos 1_000_000_000 *ℤ entry
  scaled_is =
      let scaled = c.requires.scaled i below in
      let small = unscaled entry scaled in
      ap (λ v. to_z w64 (of_z w64 (pos 1_000_000_000 *ℤ v))) (back64 entry (omega arith)) ∙ back64 (pos 1_000_000_000 *ℤ entry) (omega arith)

  factors : to_z w64 (of_z w64 c.at.result) *ℤ to_z w64 (of_z w64 c.args.number) ≡ product
  factors =
      let gain = back64 c.at.result (let h = c.at.ensures.within in omega arith) ∙ c.at.ensures.value ∙ entry-one c.args.gain.now i in
      λ j. gain j *ℤ to_z-of_z c.ranges.number j

  share_is : to_z w64 (of_z w64 (to_z w64 (of_z w64 c.at.result) *ℤ to_z w64 (of_z w64 c.args.number))) ≡ product
  share_is = ap (λ v. to_z w64 (of_z w64 v)) factors ∙ back64 product (let h = c.requires.shares i below in omega arith)

  abbrev difference : ℤ
  difference = to_z w64 (of_z w64 (pos 1_000_000_000 *ℤ to_z w64 (of_z w64 entry)))
      -ℤ to_z w64 (of_z w64 (to_z w64 (of_z w64 c.at.result) *ℤ to_z w64 (of_z w64 c.args.number)))

  difference_is : difference ≡ left
  difference_is = λ j. scaled_is j -ℤ share_is j

  left_is : to_z w64 (of_z w64 difference) ≡ left
  left_is = ap (λ v. to_z w64 (of_z w64 v)) difference_is ∙ back64 left (let h = c.requires.differences i below in omega arith)

pub overflow_mul-share : goal.overflow_mul-share
overflow_mul-share g c = rw (factors g c) (fits64 (product g c) (let h = c.requires.shares (i g c) (below g c) in omega arith))

pub overflow_sub-entry : goal.overflow_sub-entry
overflow_sub-entry g c = rw (difference_is g c) (fits64 (left g c) (let h = c.requires.differences (i g c) (below g c) in omega arith))

pub abs-requires : goal.abs-requires
abs-requires g c = rw (left_is g c) (fits64 (neg_ℤ (left g c)) (let h = c.requires.differences (i g c) (below g c) in omega (arith, ints)))

module _ (g : Over) (c : After-sizes-1 g) where
  abbrev here : After-at g
  here = (goal.at.overflow_add-sizes g c).After-at

  abbrev old : ℤ
  old = at c.args.sizes.now c.loop-i.i

  size_is : to_z w64 (of_z w64 c.abs.result) ≡ magnitude (left g here)
  size_is =
      let small = c.requires.differences c.loop-i.i (below g here) in
      ap (λ v. to_z w64 (of_z w64 v)) (c.abs.ensures.value ∙ ap magnitude (left_is g here)) ∙ back64 (magnitude (left g here)) (omega arith)

  sum_fits : SFits w64 (at c.loop-i.sizes c.loop-i.i)
  sum_fits = search rules

  sum_is : to_z w64 (of_z w64 (at c.loop-i.sizes c.loop-i.i)) +ℤ to_z w64 (of_z w64 c.abs.result) ≡ old +ℤ magnitude (left g here)
  sum_is =
      let first : to_z w64 (of_z w64 (at c.loop-i.sizes c.loop-i.i)) ≡ old = to_z-of_z sum_fits ∙ c.loop-i.invariant.rest c.loop-i.i (omega arith) in
      λ j. first j +ℤ size_is j

  sum_small : unsigned_abs (old +ℤ magnitude (left g here)) ≤ 9_000_000_000_000_000_000
  sum_small = c.requires.sums c.loop-i.i (below g here)

pub overflow_add-sizes : goal.overflow_add-sizes
overflow_add-sizes g c =
    rw (sum_is g c) (fits64 (old g c +ℤ magnitude (left g (here g c))) (let h = sum_small g c in omega arith))

side : (k i : ℕ) → k < i + 1 → (k ≡ i) ⊎ (k < i)
side k i h = grind arith

pub loop-i-preserved : goal.loop-i-preserved
loop-i-preserved g c =
    let new = ap (λ z. to_z w64 (of_z w64 z)) (sum_is g c) ∙ back64 (old g c +ℤ magnitude (left g (here g c))) (let h = sum_small g c in omega arith) in
    let lt : c.loop-i.i < length c.loop-i.sizes = let h = c.loop-i.invariant.size in let l = c.loop-i-test.true in let s = c.requires.height in let k = c.requires.small in omega arith in
    let number = to_z-of_z c.ranges.number in
    let more : ℕ → ℤ → ℤ = λ k l. at c.args.sizes.now k +ℤ magnitude (pos 1_000_000_000 *ℤ at c.args.column.now k -ℤ at c.args.gain.now k *ℤ l) in
    record {
      size = length-set _ _ _ ∙ c.loop-i.invariant.size;
      done = λ k h. ⊎_elim
          (λ (e : k ≡ c.loop-i.i). ap (λ n. get_or (set c.loop-i.sizes c.loop-i.i (to_z w64 (of_z w64 (to_z w64 (of_z w64 (at c.loop-i.sizes c.loop-i.i)) +ℤ to_z w64 (of_z w64 c.abs.result))))) n (pos 0)) e
          ∙ get_or-set_same c.loop-i.sizes c.loop-i.i _ (pos 0) lt ∙ new ∙ (λ j. more (sym e j) (sym number j)))
          (λ (l : k < c.loop-i.i). get_or-set_other c.loop-i.sizes c.loop-i.i k _ (pos 0) (λ e. omega arith) ∙ c.loop-i.invariant.done k l)
          (side k c.loop-i.i h);
      rest = λ k h. get_or-set_other c.loop-i.sizes c.loop-i.i k _ (pos 0) (λ e. omega arith) ∙ c.loop-i.invariant.rest k (omega arith);
    }

pub returns : goal.returns
returns g c k h =
    let number = to_z-of_z c.ranges.number in
    let under : k < c.loop-i.i = let test = c.loop-i-test.false in let long = c.requires.height in omega arith in
    c.loop-i.invariant.done k under ∙ ap (λ l. at c.args.sizes.now k +ℤ magnitude (pos 1_000_000_000 *ℤ at c.args.column.now k -ℤ at c.args.gain.now k *ℤ l)) number
