-- Two rows of which the code knows the sums and what each has to itself.
use Rattle.std.proofs.Common.{◌≡◌, ℕ, ◌*◌, ◌<◌, ◌≤◌, List, [], ◌∷◌, length, Bool, true, false, Some, None, cond, find, if◌then◌else◌, ℤ, pos, ◌+ℤ◌, ◌*ℤ◌, ◌-ℤ◌, ◌≤ℤ◌, int_lt, nat_lt, unsigned_abs, mul-le-mul, le_refl, sum_by, refl, sym, ap, ◌∙◌, arith, subst₂, suc, ◌+◌}
use Rattle.std.proofs.lemmas.Int.{ints, unsigned_abs-mul}
use Rattle.std.proofs.lemmas.Bool.Decides.{nat_tests}
use Rattle.std.proofs.lemmas.List.Sums.{sum_by-cons}
use Rattle.set_rules.specs.Sum.{total, magnitude}
use Rattle.set_rules.specs.Columns.{at}
use Rattle.set_rules.specs.Rows.{Row, row_at}
use Rattle.set_rules.specs.Farkas.{coefficient, passes, unit_list, pair_at}
use Rattle.set_rules.proofs.Sums.{total-zero, total-more, total-split, total-same}
use Rattle.fixed_mat.specs.Rows.{Table}
use Rattle.farkas_check.specs.declared.pair.Pair.{Pair}
use Rattle.farkas_check.specs.Two.{right_side, row_sum, own_of, left_of_two, right_of_two, pair_passes, least_left}
use Rattle.farkas_check.specs.Search.{first_at, first_in_column}
use Rattle.farkas_check.specs.Sides.{IsPair, right_by, least_by, AllWithin, OpposedAt, OpposedWithin}
use Rattle.farkas_check.proofs.Least.{left-least, own-total}
use Rattle.farkas_check.proofs.PairLists.{unit-passes, pair-passes}
use Rattle.farkas_check.proofs.Found.{missed-part}

-- the magnitudes of a row, as a sum over its places
pub sum-is : (a : List ℤ) → pos (sum_by unsigned_abs a) ≡ total (length a) (λ t. magnitude (at a t))
sum-is [] = sym (total-zero _)
sum-is (x ∷ a) =
    let f : ℕ → ℤ = λ t. magnitude (at (x ∷ a) t) in
    let split = ap (λ n. total n f) (let e : suc (length a) ≡ 1 + length a = omega arith in e) ∙ total-split 1 (length a) f in
    let head : total 1 f ≡ total 0 f +ℤ f 0 = total-more 0 f in
    let none : total 0 f ≡ pos 0 = total-zero f in
    let first : f 0 ≡ pos (unsigned_abs x) = refl in
    let sum : sum_by unsigned_abs (x ∷ a) ≡ unsigned_abs x + sum_by unsigned_abs a = sum_by-cons unsigned_abs x a in
    let same = total-same (length a) (λ t. f (1 + t)) (λ t. magnitude (at a t)) (λ t _. ap f (let e : 1 + t ≡ suc t = omega arith in e)) in
    let rest = sum-is a in
    omega (arith, ints, split, head, none, first, sum, same, rest)

-- the kept sum of a row
pub row_sum-is : (width : ℕ) (rows : List Row) (r : ℕ) (a : List ℤ) (sum : ℕ) → a ≡ (row_at rows r).coefficients → length a ≡ width → sum ≡ sum_by unsigned_abs a
    → pos sum ≡ row_sum width rows r
row_sum-is width rows r a sum is wide e = ap pos e ∙ sum-is a ∙ (λ i. total (wide i) (λ t. magnitude (at (is i) t)))

-- what a row has to itself is part of its sum
pub own-within : (a b : List ℤ) (own sum : ℕ) → own ≤ own_of (length a) (at a) (at b) → sum ≡ sum_by unsigned_abs a → own ≤ sum
own-within a b own sum e f = let all = own-total (length a) (at a) (at b) in let whole = sum-is a in omega (arith, ints)

-- a row alone passes where its right side is above its sum
pub unit-passes-by : (width : ℕ) (rows : List Row) (r sum reach : ℕ) → r < length rows → pos sum ≡ row_sum width rows r → reach ≡ unsigned_abs (right_side rows r)
    → passes width rows (unit_list (length rows) r) ≡ nat_lt sum reach
unit-passes-by width rows r sum reach h e f = unit-passes width rows r h ∙ compared sum reach (row_sum width rows r) (right_side rows r) e f
  where
    compared : (sum reach : ℕ) (left right : ℤ) → pos sum ≡ left → reach ≡ unsigned_abs right → int_lt left (magnitude right) ≡ nat_lt sum reach
    compared sum reach left right e f = grind (arith, ints, nat_tests)

-- a test of the order that fails
pub not_less : (x y : ℤ) → y ≤ℤ x → int_lt x y ≡ false
not_less x y h = grind (arith, ints)

module _ (t : Table) (p : Pair) (is : IsPair t p) where
  least-left : (x y : ℤ) → least_by p x y ≤ℤ left_of_two t.width t.rows p.r p.s x y
  least-left x y =
      left-least t.width t.rows p.r p.s x y p.first.sum p.first.own p.second.sum p.second.own is.first.own_within is.second.own_within is.first.sum_is is.second.sum_is

  pub right-is : (x y : ℤ) → magnitude (right_by p x y) ≡ right_of_two t.rows p.r p.s x y
  right-is x y = (λ i. magnitude (x *ℤ is.first.right_is i +ℤ y *ℤ is.second.right_is i))

  -- two multipliers fail where the right side is no greater
  pub within-fails : (x y : ℤ) → magnitude (right_by p x y) ≤ℤ least_by p x y → pair_passes t.width t.rows p.r p.s x y ≡ false
  within-fails x y h =
      pair-passes t.width t.rows p.r p.s x y is.order is.within
      ∙ not_less (left_of_two t.width t.rows p.r p.s x y) (right_of_two t.rows p.r p.s x y)
      (through (magnitude (right_by p x y)) (least_by p x y) (left_of_two t.width t.rows p.r p.s x y) (right-is x y) h (least-left x y))
    where
      through : (x y z : ℤ) {u : ℤ} → x ≡ u → x ≤ℤ y → y ≤ℤ z → u ≤ℤ z
      through x y z e h k = omega (arith, ints)

  by-test : (b : Bool) (list : List ℤ) → passes t.width t.rows list ≡ false → find (passes t.width t.rows) (if b then [] else list ∷ []) ≡ None
  by-test true list e = refl
  by-test false list e = ap (λ b. cond b (Some list) None) e

  -- the candidate at a column does where the right sides take from each other and are then within what is left
  pub opposed-none : (column : ℕ) → OpposedWithin p → OpposedAt p (coefficient t.rows p.r column) (coefficient t.rows p.s column) → first_in_column t.width t.rows p.r p.s column ≡ None
  opposed-none column within opposed = by-test _ _ (within-fails _ _ (within _ _ (opposed _)))

  -- all do where none has a right side above what is left
  module _ (within : AllWithin p) where
    none-at : (column : ℕ) → first_in_column t.width t.rows p.r p.s column ≡ None
    none-at column = by-test _ _ (within-fails _ _ (within _ _))

    pub none-first : first_at t.width t.rows p.r p.s ≡ None
    none-first = missed-part (passes t.width t.rows) (pair_at t.rows p.r p.s) 0 t.width (λ column _ _. none-at column)
