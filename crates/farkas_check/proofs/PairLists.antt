-- Whether a list with one row or two passes, by its entries alone.
use Rattle.std.proofs.Common.{◌≡◌, ℕ, ◌<◌, ◌≤◌, ◌⊎◌, ⊎_elim, List, length, Bool, true, ◌==◌, ◌&&◌, nat_eq, if◌then◌else◌, ℤ, pos, ◌+ℤ◌, ◌*ℤ◌, int_lt, sym, ap, ◌∙◌, arith, subst}
use Rattle.std.proofs.lemmas.Int.{ints}
use Rattle.std.proofs.lemmas.Bool.Decides.{nat_tests}
use Rattle.std.proofs.lemmas.List.{get_or_past}
use lib.IntN.{zero-*ℤ, *ℤ-zero}
use Rattle.set_rules.specs.Sum.{total, magnitude}
use Rattle.set_rules.specs.Columns.{at, tabulate}
use Rattle.set_rules.specs.Rows.{Row, no_row}
use Rattle.set_rules.specs.Farkas.{coefficient, combined_coefficient, passes, unit_list, pair_list}
use Rattle.set_rules.proofs.Sums.{total-same, total-single}
use Rattle.set_rules.proofs.ImageSets.{length-tabulate, get_or-tabulate}
use Rattle.farkas_check.specs.Two.{right_side, row_sum, left_of_two, right_of_two, pair_passes}
use Rattle.farkas_check.proofs.TwoTerms.{total-two}

-- past the last row all is 0
coefficient-past : (rows : List Row) (r t : ℕ) → length rows ≤ r → coefficient rows r t ≡ pos 0
coefficient-past rows r t h = ap (λ row. at row.coefficients t) (get_or_past rows r no_row h)

right-past : (rows : List Row) (r : ℕ) → length rows ≤ r → right_side rows r ≡ pos 0
right-past rows r h = ap (λ row. row.right) (get_or_past rows r no_row h)

-- a list of the right length passes by its sums
by_sums : (n : ℕ) (list : List ℤ) (left right m k : ℤ) → length list ≡ n → left ≡ m → right ≡ k
    → ((length list == n) && int_lt left right) ≡ int_lt m k
by_sums n list left right m k long e f = (λ i. long_is (length list) n long i && int_lt (e i) (f i)) ∙ whole (int_lt m k)
  where
    long_is : (a b : ℕ) → a ≡ b → (a == b) ≡ true
    long_is a b e = grind (arith, nat_tests)

    whole : (b : Bool) → (true && b) ≡ b
    whole b = grind arith

-- an entry of a list made from a function that is 0 there
at-none : (count : ℕ) (f : ℕ → ℤ) (i : ℕ) → f i ≡ pos 0 → at (tabulate count f) i ≡ pos 0
at-none count f i e = ⊎_elim
    (λ (l : i < count). get_or-tabulate count f i (pos 0) l ∙ e)
    (λ (l : count ≤ i). get_or_past (tabulate count f) i (pos 0) (subst (λ n. n ≤ i) (sym (length-tabulate count f)) l))
    (side i count)
  where
    side : (i n : ℕ) → (i < n) ⊎ (n ≤ i)
    side i n = grind arith

-- ---- one row

module _ (count r : ℕ) where
  unit-off : (i : ℕ) → ¬ (i ≡ r) → at (unit_list count r) i ≡ pos 0
  unit-off i h = at-none count (λ i. if nat_eq i r then pos 1 else pos 0) i (off i h)
    where
      off : (i : ℕ) → ¬ (i ≡ r) → (if nat_eq i r then pos 1 else pos 0) ≡ pos 0
      off i h = grind (arith, nat_tests)

  unit-at : r < count → at (unit_list count r) r ≡ pos 1
  unit-at h = get_or-tabulate count (λ i. if nat_eq i r then pos 1 else pos 0) r (pos 0) h ∙ on
    where
      on : (if nat_eq r r then pos 1 else pos 0) ≡ pos 1
      on = grind (arith, nat_tests)

  -- that row's terms alone are left
  unit-total : (c : ℕ → ℤ) → r < count → total count (λ i. at (unit_list count r) i *ℤ c i) ≡ c r
  unit-total c h =
      total-single count r (λ i. at (unit_list count r) i *ℤ c i) h (λ i _ ne. ap (λ z. z *ℤ c i) (unit-off i ne) ∙ zero-*ℤ (c i))
      ∙ ap (λ z. z *ℤ c r) (unit-at h) ∙ once (c r)
    where
      once : (z : ℤ) → pos 1 *ℤ z ≡ z
      once z = omega (arith, ints)

-- a row alone passes by its sum
pub unit-passes : (width : ℕ) (rows : List Row) (r : ℕ) → r < length rows
    → passes width rows (unit_list (length rows) r) ≡ int_lt (row_sum width rows r) (magnitude (right_side rows r))
unfolding passes
unit-passes width rows r h =
    by_sums (length rows) (unit_list (length rows) r) _ _ _ _ (length-tabulate (length rows) _)
    (total-same width (λ t. magnitude (combined_coefficient rows (unit_list (length rows) r) t)) (λ t. magnitude (coefficient rows r t)) (λ t _. ap magnitude (unit-total (length rows) r (λ i. coefficient rows i t) h)))
    (ap magnitude (unit-total (length rows) r (right_side rows) h))

-- ---- two rows

module _ (count r s : ℕ) (x y : ℤ) where
  pair-off : (i : ℕ) → ¬ (i ≡ r) → ¬ (i ≡ s) → at (pair_list count r s x y) i ≡ pos 0
  pair-off i ne other = at-none count (λ i. if nat_eq i r then x else (if nat_eq i s then y else pos 0)) i (off i ne other)
    where
      off : (i : ℕ) → ¬ (i ≡ r) → ¬ (i ≡ s) → (if nat_eq i r then x else (if nat_eq i s then y else pos 0)) ≡ pos 0
      off i h k = grind (arith, nat_tests)

  pair-first : r < count → at (pair_list count r s x y) r ≡ x
  pair-first h = get_or-tabulate count (λ i. if nat_eq i r then x else (if nat_eq i s then y else pos 0)) r (pos 0) h ∙ on
    where
      on : (if nat_eq r r then x else (if nat_eq r s then y else pos 0)) ≡ x
      on = grind (arith, nat_tests)

  pair-second : ¬ (s ≡ r) → s < count → at (pair_list count r s x y) s ≡ y
  pair-second ne h = get_or-tabulate count (λ i. if nat_eq i r then x else (if nat_eq i s then y else pos 0)) s (pos 0) h ∙ on
    where
      on : (if nat_eq s r then x else (if nat_eq s s then y else pos 0)) ≡ y
      on = grind (arith, nat_tests)

  -- the terms of those two rows alone are left
  pair-total : (c : ℕ → ℤ) → r < s → s < count → ((i : ℕ) → count ≤ i → c i ≡ pos 0) → total count (λ i. at (pair_list count r s x y) i *ℤ c i) ≡ x *ℤ c r +ℤ y *ℤ c s
  pair-total c less h past =
      total-two count r s (λ i. at (pair_list count r s x y) i *ℤ c i) (λ e. omega arith)
      (λ i ne other. ap (λ z. z *ℤ c i) (pair-off i ne other) ∙ zero-*ℤ (c i))
      (λ i l. ap (λ z. at (pair_list count r s x y) i *ℤ z) (past i l) ∙ *ℤ-zero (at (pair_list count r s x y) i))
      ∙ (λ i. pair-first (omega arith) i *ℤ c r +ℤ pair-second (λ e. omega arith) h i *ℤ c s)

-- two rows pass by what is left of them
pub pair-passes : (width : ℕ) (rows : List Row) (r s : ℕ) (x y : ℤ) → r < s → s < length rows
    → pair_passes width rows r s x y ≡ int_lt (left_of_two width rows r s x y) (right_of_two rows r s x y)
unfolding passes
pair-passes width rows r s x y less h =
    by_sums (length rows) (pair_list (length rows) r s x y) _ _ _ _ (length-tabulate (length rows) _)
    (total-same width (λ t. magnitude (combined_coefficient rows (pair_list (length rows) r s x y) t)) (λ t. magnitude (x *ℤ coefficient rows r t +ℤ y *ℤ coefficient rows s t))
    (λ t _. ap magnitude (pair-total (length rows) r s x y (λ i. coefficient rows i t) less h (λ i. coefficient-past rows i t))))
    (ap magnitude (pair-total (length rows) r s x y (right_side rows) less h (right-past rows)))
