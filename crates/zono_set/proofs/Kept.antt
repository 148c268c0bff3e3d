-- The radii that a set keeps.
use Rattle.std.proofs.Common.{◌≡◌, ℕ, ◌+◌, ◌<◌, ◌≤◌, ◌⊎◌, ⊎_elim, max, List, [], length, ℤ, pos, unsigned_abs, ap, ◌∙◌, sym, arith}
use Rattle.std.proofs.lemmas.Int.{ints}
use Rattle.std.proofs.lemmas.List.{get_or_past}
use Rattle.std.proofs.lemmas.List.FromFn.{length-map-range_with_len, take-map-range_with_len}
use Rattle.std.specs.List.{All}
use Rattle.set_rules.specs.Columns.{at, column_entry, row_magnitude, tabulate}
use Rattle.set_rules.specs.Zono.{Zono, range, InRange}
use Rattle.set_rules.specs.Reduce.{greatest}
use Rattle.set_rules.proofs.Sums.{total-magnitudes-low, magnitude-le-total}
use Rattle.set_rules.proofs.Greatest.{greatest_more, greatest-at}
use Rattle.set_rules.proofs.ImageSets.{get_or-tabulate}
use Rattle.zono_set.proofs.Steps.{filled-all}

-- radii that were added up are those of the columns
pub added-are : (n : ℕ) (f : ℕ → ℤ) (radii : List ℤ) → radii ≡ tabulate n f → (i : ℕ) → i < n → at radii i ≡ f i
added-are n f radii is i h = ap (λ xs. at xs i) is ∙ get_or-tabulate n f i (pos 0) h

-- no radius of a set in range is past the range
pub radius-within : (n : ℕ) (z : Zono) → InRange n z → (i : ℕ) → i < n → unsigned_abs (row_magnitude z.columns i) ≤ range
radius-within n z fits i h =
    let low = total-magnitudes-low (length z.columns) (column_entry z.columns i) in
    let most = fits i h in
    omega (arith, ints)

pub added-within : (n : ℕ) (z : Zono) (radii : List ℤ) → InRange n z → radii ≡ tabulate n (row_magnitude z.columns) → All (λ r. unsigned_abs r ≤ range) radii
added-within n z radii fits is = filled-all n (row_magnitude z.columns) radii range is (radius-within n z fits)

-- the greatest of some radii, and of one more
pub greatest-tabulate : (n : ℕ) (f : ℕ → ℤ) → greatest (tabulate (n + 1) f) ≡ max (greatest (tabulate n f)) (unsigned_abs (f n))
greatest-tabulate n f =
    let xs : List ℤ = tabulate (n + 1) f in
    let long = length-map-range_with_len f 0 (n + 1) in
    ap greatest (sym (take-map-range_with_len f 0 (n + 1) (n + 1) (omega arith))) ∙ greatest_more xs n (omega arith)
    ∙ (λ i. max (greatest (take-map-range_with_len f 0 (n + 1) n (omega arith) i)) (unsigned_abs (get_or-tabulate (n + 1) f n (pos 0) (omega arith) i)))

entry-within : (g : List (List ℤ)) (i t : ℕ) → (t < length g) ⊎ (length g ≤ t) → unsigned_abs (column_entry g i t) ≤ unsigned_abs (row_magnitude g i)
entry-within g i t side = ⊎_elim
    (λ (h : t < length g). let one = magnitude-le-total (length g) t (column_entry g i) h in let low = total-magnitudes-low (length g) (column_entry g i) in omega (arith, ints))
    (λ (h : length g ≤ t). let none = ap unsigned_abs (ap (λ column. at column i) (get_or_past g t [] h) ∙ get_or_past [] i (pos 0) (omega arith)) in omega arith)
    side

-- no entry is above the greatest radius
pub entries-within : (n : ℕ) (g : List (List ℤ)) (i t : ℕ) → i < n → unsigned_abs (column_entry g i t) ≤ greatest (tabulate n (row_magnitude g))
entries-within n g i t h =
    let radius = greatest-at (tabulate n (row_magnitude g)) i in
    let is = ap unsigned_abs (get_or-tabulate n (row_magnitude g) i (pos 0) h) in
    let entry = entry-within g i t (grind arith) in
    omega arith
