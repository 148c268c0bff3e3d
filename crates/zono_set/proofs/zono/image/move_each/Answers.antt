use Rattle.std.proofs.Common.{◌≡◌, ℕ, zero, suc, ◌<◌, ◌≤◌, [], ◌++◌, length, length-append, length-drop, drop, replicate, set, get_or, List, ℤ, pos, ◌*ℤ◌, ◌≤ℤ◌, unsigned_abs, refl, ap, ◌∙◌, sym, subst, arith}
use Rattle.std.proofs.lemmas.Int.{ints}
use Rattle.set_rules.specs.Sum.{total, magnitude}
use Rattle.set_rules.specs.Columns.{at, entry, column_entry, tabulate}
use Rattle.set_rules.specs.Round.{rnd, residue}
use Rattle.set_rules.specs.Zono.{range}
use Rattle.set_rules.proofs.Sums.{total-zero, magnitude-le-total}
use Rattle.set_rules.proofs.ImageSets.{length-tabulate}
use Rattle.fixed_mat.proofs.Bits.{next_sum}
use Rattle.fixed_mat.proofs.Fits.{total-prefix}
use Rattle.fixed_mat.proofs.Columns.{tabulate-same}
use Rattle.zono_set.proofs.Bound.{residues-within}
use Rattle.zono_set.proofs.Steps.{next_column, replaced_more}
use Rattle.zono_set.proofs.zono.image.move_each.Goals as goal

zeros-at : (n i : ℕ) → ◌≡◌ {A = ℕ} (get_or (replicate n 0) i 0) 0
zeros-at zero zero = refl
zeros-at zero (suc i) = refl
zeros-at (suc n) zero = refl
zeros-at (suc n) (suc i) = zeros-at n i

pub loop-t-init : goal.loop-t-init
loop-t-init g c = record {
  moved = refl;
  sizes = λ i h. ap pos (zeros-at 8 i) ∙ sym (total-zero _);
  left = λ i h. ap pos (zeros-at 8 i) ∙ sym (total-zero _);
}

-- the column that is next is as it was
module _ (n : ℕ) (a : List ℤ) (old now : List (List ℤ)) (t : ℕ) (below : t < length old)
    (moved : now ≡ tabulate t (λ t. tabulate n (λ i. rnd (total n (λ j. entry n a i j *ℤ column_entry old j t)))) ++ drop t old) where
  abbrev product : ℕ → ℕ → ℤ
  product i t = total n (λ j. entry n a i j *ℤ column_entry old j t)

  abbrev column : ℕ → List ℤ
  column t = tabulate n (λ i. rnd (product i t))

  same_column : get_or now t [] ≡ get_or old t []
  same_column = ap (λ xs. get_or xs t []) moved ∙ next_column old column t below

  same_product : (i : ℕ) → total n (λ l. entry n a i l *ℤ column_entry now l t) ≡ product i t
  same_product i = ap (λ (column : List ℤ). total n (λ l. entry n a i l *ℤ at column l)) same_column

  in_place : t < length now
  in_place =
      let long = ap length moved ∙ length-append (tabulate t column) (drop t old) in
      let first = length-tabulate t column in
      let rest = length-drop t old in
      omega (arith, long, first, rest, below)

  module _ (i : ℕ) (fits : total (length old) (λ t. magnitude (rnd (product i t))) ≤ℤ pos range) where
    entry_fits : unsigned_abs (rnd (total n (λ l. entry n a i l *ℤ column_entry now l t))) ≤ range
    entry_fits =
        let one = magnitude-le-total (length old) t (λ t. rnd (product i t)) below in
        let is = ap (λ z. magnitude (rnd z)) (same_product i) in
        omega (arith, ints, one, is, fits)

    sum_fits : (size : ℕ) → pos size ≡ total t (λ t. magnitude (rnd (product i t))) → size ≤ range
    sum_fits size is =
        let first = total-prefix t (length old) (λ t. rnd (product i t)) (omega (arith, below)) in
        omega (arith, ints, first, is, fits)

left_small : (t : ℕ) (f : ℕ → ℤ) (left : ℕ) → t ≤ 128 → pos left ≡ total t (λ t. residue (f t)) → left ≤ 1_000_000_000_000
left_small t f left few is = let within = (residues-within t f).1 in omega (arith, ints, within, is)

pub move_column-requires : goal.move_column-requires
move_column-requires g c =
    let below : c.loop-t.t < length c.args.cols.now = let n = c.len-t-end.ensures.value in omega arith in
    let few : c.loop-t.t ≤ 128 = let n = c.len-t-end.ensures.few in omega arith in
    let n = g.row.N in
    let a = c.args.a.now in
    let old = c.args.cols.now in
    let now = c.loop-t.cols in
    let t = c.loop-t.t in
    let moved = c.loop-t.invariant.moved in (
      omega arith,
      (
        omega arith,
        (
          in_place n a old now t below moved,
          (
            λ i h. subst (λ (column : List ℤ). total n (λ l. magnitude (entry n a i l *ℤ at column l)) ≤ℤ pos g.W.Whole.limit) (sym (same_column n a old now t below moved)) (c.requires.products i h t below),
            (
              λ i h. entry_fits n a old now t below moved i (c.requires.fits i h),
              (
                λ i h. sum_fits n a old now t below moved i (c.requires.fits i h) (get_or c.loop-t.sizes i 0) (c.loop-t.invariant.sizes i h),
                λ i h. left_small t (product n a old now t below moved i) (get_or c.loop-t.left i 0) few (c.loop-t.invariant.left i h),
              ),
            ),
          ),
        ),
      ),
    )

pub loop-t-preserved : goal.loop-t-preserved
loop-t-preserved g c =
    let below : c.loop-t.t < length c.args.cols.now = let n = c.len-t-end.ensures.value in omega arith in
    let n = g.row.N in
    let a = c.args.a.now in
    let old = c.args.cols.now in
    let now = c.loop-t.cols in
    let t = c.loop-t.t in
    let moved = c.loop-t.invariant.moved in
    let f = product n a old now t below moved in
    let here : ℕ → ℤ = λ i. total n (λ j. entry n a i j *ℤ column_entry now j t) in
    let same = same_product n a old now t below moved in
    let new : List ℤ = tabulate n (λ i. rnd (here i)) in
    let is : new ≡ tabulate n (λ i. rnd (f i t)) = tabulate-same n (λ i. rnd (here i)) (λ i. rnd (f i t)) (λ i _. ap rnd (same i)) in
    record {
      moved = c.move_column.ensures.moved ∙ (λ i. set (moved i) t new) ∙ replaced_more old (column n a old now t below moved) t below new is;
      sizes = λ i h. c.move_column.ensures.sizes i h ∙ next_sum (pos (get_or c.loop-t.sizes i 0)) (magnitude (rnd (here i))) t (λ t. magnitude (rnd (f i t))) (c.loop-t.invariant.sizes i h) (ap (λ z. magnitude (rnd z)) (same i));
      left = λ i h. c.move_column.ensures.left i h ∙ next_sum (pos (get_or c.loop-t.left i 0)) (residue (here i)) t (λ t. residue (f i t)) (c.loop-t.invariant.left i h) (ap residue (same i));
    }
