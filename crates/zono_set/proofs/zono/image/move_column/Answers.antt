use Rattle.std.proofs.Common.{◌≡◌, ℕ, ◌+◌, ◌-◌, ◌<◌, ◌≤◌, ◌≢◌, List, length, length-set, take, set, get_or, get_or-set_same, get_or-set_other, ℤ, pos, ◌+ℤ◌, ◌*ℤ◌, unsigned_abs, to_z, of_z, to_z-of_z, SFits, sym, subst, ap, ◌∙◌, arith, below_more}
use Rattle.std.proofs.lemmas.List.{length-take-le, get_or-take}
use Rattle.std.proofs.lemmas.List.FromFn.{fill_by_all}
use mir.Syntax.{w64}
use Rattle.set_rules.specs.Sum.{total, magnitude}
use Rattle.set_rules.specs.Columns.{at, entry, column_entry, tabulate}
use Rattle.set_rules.specs.Round.{rnd, residue}
use Rattle.set_rules.specs.Zono.{range}
use Rattle.zono_set.proofs.Steps.{filled-all}
use Rattle.zono_set.proofs.zono.image.move_column.Given.{Over}
use Rattle.zono_set.proofs.zono.image.move_column.Goals as goal
use Rattle.zono_set.proofs.zono.image.move_column.Goals.{After-unsigned_abs}

-- the next entry, from its bits
module _ (g : Over) (c : After-unsigned_abs g) where
  abbrev exact : ℤ
  exact = total g.row.N (λ l. entry g.row.N c.args.a.now c.loop-i.i l *ℤ column_entry c.args.cols.now l c.args.t)

  nearest : to_z w64 (of_z w64 c.low-nearest.result) ≡ rnd exact
  nearest =
      let is = c.rounded-state.ensures.nearest ∙ ap rnd c.column_product-sum.ensures.value in
      let fits = c.requires.fits c.loop-i.i c.loop-i-test.true in
      let whole : SFits w64 c.low-nearest.result = record { sfits = c.low-nearest.type_inv } in
      to_z-of_z whole ∙ c.low-nearest.ensures (subst (λ z. unsigned_abs z ≤ range) (sym is) fits) ∙ is

  size_is : pos c.unsigned_abs.result ≡ magnitude (rnd exact)
  size_is = ap pos (c.unsigned_abs.ensures.value ∙ ap unsigned_abs nearest)

  size_small : c.unsigned_abs.result ≤ 1_000_000_000_000_000_000
  size_small =
      let is = c.unsigned_abs.ensures.value ∙ ap unsigned_abs nearest in
      let fits = c.requires.fits c.loop-i.i c.loop-i-test.true in
      omega (arith, is, fits)

  left_is : pos c.rounded-state.result.residue ≡ residue exact
  left_is = c.rounded-state.ensures.residue ∙ ap residue c.column_product-sum.ensures.value

pub overflow_add-sizes : goal.overflow_add-sizes
overflow_add-sizes g c =
    let h = size_small g (goal.at.overflow_add-sizes g c).After-unsigned_abs in
    let still = (c.loop-i.invariant.still c.loop-i.i (omega arith)).0 in
    let before = c.requires.sizes c.loop-i.i c.loop-i-test.true in
    record { fits = omega (arith, h, still, before) }

pub loop-i-preserved : goal.loop-i-preserved
loop-i-preserved g c =
    let here = (goal.at.loop-i-preserved g c).After-unsigned_abs in
    let i = c.loop-i.i in
    let below : i < 8 = let test = c.loop-i-test.true in let small = c.len.ensures.height_small in omega (arith, test, small) in
    let lt : i < length c.loop-i.moved = let long = c.loop-i.invariant.long in omega (arith, below, long) in
    let lt_sizes : i < length c.loop-i.sizes = let long = c.loop-i.invariant.long_sizes in omega (arith, below, long) in
    let lt_left : i < length c.loop-i.left = let long = c.loop-i.invariant.long_left in omega (arith, below, long) in
    let entry = to_z w64 (of_z w64 c.low-nearest.result) in
    let size = get_or c.loop-i.sizes i 0 + c.unsigned_abs.result in
    let left = get_or c.loop-i.left i 0 + c.rounded-state.result.residue in
    let still = c.loop-i.invariant.still i (omega arith) in
    record {
      long = length-set c.loop-i.moved i entry ∙ c.loop-i.invariant.long;
      long_sizes = length-set c.loop-i.sizes i size ∙ c.loop-i.invariant.long_sizes;
      long_left = length-set c.loop-i.left i left ∙ c.loop-i.invariant.long_left;
      moved = below_more _ _
          (λ k h. let ne : k ≢ i = λ e. omega (arith, h, e) in get_or-set_other c.loop-i.moved i k entry (pos 0) ne ∙ c.loop-i.invariant.moved k h)
          (get_or-set_same c.loop-i.moved i entry (pos 0) lt ∙ nearest g here);
      sizes = below_more _ _
          (λ k h. let ne : k ≢ i = λ e. omega (arith, h, e) in ap pos (get_or-set_other c.loop-i.sizes i k size 0 ne) ∙ c.loop-i.invariant.sizes k h)
          (ap pos (get_or-set_same c.loop-i.sizes i size 0 lt_sizes) ∙ (λ ι. pos (still.0 ι) +ℤ size_is g here ι));
      left = below_more _ _
          (λ k h. let ne : k ≢ i = λ e. omega (arith, h, e) in ap pos (get_or-set_other c.loop-i.left i k left 0 ne) ∙ c.loop-i.invariant.left k h)
          (ap pos (get_or-set_same c.loop-i.left i left 0 lt_left) ∙ (λ ι. pos (still.1 ι) +ℤ left_is g here ι));
      still = λ k h. let ne : k ≢ i = λ e. omega (arith, h, e) in
          let before = c.loop-i.invariant.still k (omega (arith, h)) in
          (get_or-set_other c.loop-i.sizes i k size 0 ne ∙ before.0, get_or-set_other c.loop-i.left i k left 0 ne ∙ before.1);
    }

-- what was written of the new column is all of it
module _ (n i : ℕ) (small : n ≤ 8) (end : i ≡ n) (moved : List ℤ) (long : length moved ≡ 8) (f : ℕ → ℤ) (written : (k : ℕ) → k < i → at moved k ≡ f k) where
  whole : take (n - 0) moved ≡ tabulate n f
  whole =
      let all = length-take-le (n - 0) moved (omega arith) in
      fill_by_all f (take (n - 0) moved) n (pos 0) (omega (arith, all))
      (λ k h. get_or-take (n - 0) moved k (pos 0) (omega (arith, h)) ∙ written k (omega (arith, h, end)))

pub replace-requires : goal.replace-requires
replace-requires g c =
    let end : c.loop-i.i ≡ g.row.N = omega arith in
    let f : ℕ → ℤ = λ i. rnd (total g.row.N (λ l. entry g.row.N c.args.a.now i l *ℤ column_entry c.args.cols.now l c.args.t)) in
    let is = whole g.row.N c.loop-i.i c.len.ensures.height_small end c.loop-i.moved c.loop-i.invariant.long f c.loop-i.invariant.moved in
    let all = length-take-le (g.row.N - 0) c.loop-i.moved (let small = c.len.ensures.height_small in let long = c.loop-i.invariant.long in omega (arith, small, long)) in
    (omega arith, (c.requires.column, (omega (arith, all), filled-all g.row.N f (take (g.row.N - 0) c.loop-i.moved) range is c.requires.fits)))

pub returns-clause-moved : goal.returns-clause-moved
returns-clause-moved g c =
    let end : c.loop-i.i ≡ g.row.N = omega arith in
    let f : ℕ → ℤ = λ i. rnd (total g.row.N (λ l. entry g.row.N c.args.a.now i l *ℤ column_entry c.args.cols.now l c.args.t)) in
    c.replace.ensures ∙ ap (set c.args.cols.now c.args.t) (whole g.row.N c.loop-i.i c.len.ensures.height_small end c.loop-i.moved c.loop-i.invariant.long f c.loop-i.invariant.moved)
