-- Where the magnitudes of all terms add up to no more than a limit, so does each term and each sum of the first ones.
use Rattle.std.proofs.Common.{◌≡◌, ℕ, zero, suc, ◌+◌, ◌-◌, ◌*◌, ◌^◌, ◌<◌, ◌≤◌, List, length, ℤ, pos, ◌*ℤ◌, ◌≤ℤ◌, unsigned_abs, mul-le-mul, sym, ap, ◌∙◌, arith}
use Rattle.std.proofs.lemmas.Int.{ints, unsigned_abs-mul}
use Rattle.std.proofs.lemmas.List.Elements.{All-get_or}
use Rattle.std.specs.List.{All}
use Rattle.set_rules.specs.Sum.{total, magnitude}
use Rattle.set_rules.specs.Columns.{entry, column_entry}
use Rattle.set_rules.specs.Limits.{most_states, wide_limit}
use Rattle.fixed_mat.specs.Fits.{FitsRow, widest_product}
use Rattle.fixed_mat.proofs.Columns.{place_within}
use Rattle.set_rules.proofs.Sums.{total-zero, total-suc, total-split, total-magnitudes-low, magnitude-total, magnitude-le-total}

-- the first terms add up to no more than all
pub total-prefix : (n k : ℕ) (f : ℕ → ℤ) → n ≤ k → total n (λ t. magnitude (f t)) ≤ℤ total k (λ t. magnitude (f t))
total-prefix n k f h =
    let whole : n + (k - n) ≡ k = omega arith in
    let parts = ap (λ m. total m (λ t. magnitude (f t))) (sym whole) ∙ total-split n (k - n) (λ t. magnitude (f t)) in
    let low = total-magnitudes-low (k - n) (λ t. f (n + t)) in
    omega (arith, ints)

module _ (limit n : ℕ) (f : ℕ → ℤ) (fits : total n (λ t. magnitude (f t)) ≤ℤ pos limit) where
  pub term_fits : (t : ℕ) → t < n → unsigned_abs (f t) ≤ limit
  term_fits t h = let one = magnitude-le-total n t f h in omega (arith, ints)

  pub sum_fits : (k : ℕ) → k ≤ n → unsigned_abs (total k f) ≤ limit
  sum_fits k h =
      let sum = magnitude-total k f in
      let first = total-prefix k n f h in
      omega (arith, ints)

  pub sizes_fit : (k : ℕ) → k ≤ n → unsigned_abs (total k (λ t. magnitude (f t))) ≤ limit
  sizes_fit k h =
      let first = total-prefix k n f h in
      let low = total-magnitudes-low k f in
      omega (arith, ints)

-- terms that are each within a bound
pub total-each : (n m : ℕ) (f : ℕ → ℤ) → ((t : ℕ) → t < n → f t ≤ℤ pos m) → total n f ≤ℤ pos (n * m)
total-each zero m f h = let none = total-zero f in omega (arith, ints)
total-each (suc n) m f h =
    let more = total-suc n f in
    let before = total-each n m f (λ t l. h t (omega arith)) in
    let last = h n (omega arith) in
    omega (arith, ints, more, before, last)

-- each product of an entry within 10 ^ 12 and one within 10 ^ 18
module _ (n : ℕ) (a : List ℤ) (r : ℕ) (g : List (List ℤ)) (t : ℕ)
    (row : (l : ℕ) → l < n → unsigned_abs (entry n a r l) ≤ 1_000_000_000_000) (column : (i t : ℕ) → unsigned_abs (column_entry g i t) ≤ 1_000_000_000_000_000_000) where
  pub all_fit : total n (λ l. magnitude (entry n a r l *ℤ column_entry g l t)) ≤ℤ pos (widest_product n)
  all_fit = total-each n (10 ^ 30) (λ l. magnitude (entry n a r l *ℤ column_entry g l t)) (λ l h. one (entry n a r l) (column_entry g l t) (row l h) (column l t))
    where
      one : (x y : ℤ) → unsigned_abs x ≤ 1_000_000_000_000 → unsigned_abs y ≤ 1_000_000_000_000_000_000 → magnitude (x *ℤ y) ≤ℤ pos (10 ^ 30)
      one x y hx hy =
          let size = unsigned_abs-mul x y in
          let most : unsigned_abs x * unsigned_abs y ≤ 1_000_000_000_000 * 1_000_000_000_000_000_000 = mul-le-mul hx hy in
          omega (arith, ints)

-- the products of each row of a matrix with each column
pub rows_fit : (rows n : ℕ) (a : List ℤ) (g : List (List ℤ)) → length a ≡ rows * n → All (λ z. unsigned_abs z ≤ 1_000_000_000_000) a
    → ((i t : ℕ) → unsigned_abs (column_entry g i t) ≤ 1_000_000_000_000_000_000) → (r : ℕ) → r < rows → FitsRow (widest_product n) n a r g
rows_fit rows n a g long row column r h t _ =
    all_fit n a r g t
    (λ l k. let place = place_within n rows l r k h in All-get_or (λ z. unsigned_abs z ≤ 1_000_000_000_000) a (r * n + l) (pos 0) (omega (arith, long, place)) row) column

-- so they fit 128 bits
pub wide_row : (n : ℕ) (a : List ℤ) (r : ℕ) (g : List (List ℤ)) → n ≤ most_states → FitsRow (widest_product n) n a r g → FitsRow wide_limit n a r g
wide_row n a r g few fits t h = let column = fits t h in omega (arith, ints, column)
