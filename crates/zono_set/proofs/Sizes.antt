-- How large the sum of rounded products is.
use Rattle.std.proofs.Common.{◌≡◌, ℕ, zero, suc, ◌+◌, ◌*◌, ◌^◌, ◌<◌, ◌≤◌, List, length, ℤ, pos, ◌+ℤ◌, ◌-ℤ◌, ◌*ℤ◌, ◌≤ℤ◌, unsigned_abs, mul-le-mul, le_refl, ap, arith}
use Rattle.std.proofs.lemmas.Int.{ints, unsigned_abs-mul}
use Rattle.std.proofs.lemmas.List.Sums.{get_or-le-sum_by}
use Rattle.std.specs.List.{sum_by}
use Rattle.set_rules.specs.Sum.{total, magnitude}
use Rattle.set_rules.specs.Columns.{at, entry, column_entry, row_magnitude}
use Rattle.set_rules.specs.Round.{rnd}
use Rattle.set_rules.proofs.Sums.{total-zero, total-suc}
use Rattle.set_rules.proofs.Rounds.{rnd-within}
use Rattle.fixed_mat.proofs.Fits.{sum_fits, total-each}
use Rattle.fixed_mat.specs.Fits.{FitsRow, widest_product}
use Rattle.set_rules.specs.Products.{rounded_size}

-- where each product is within b, its rounding is within m
pub sizes-within : (b m n : ℕ) (a : List ℤ) (r : ℕ) (g : List (List ℤ)) → b + 500_000_000 < 1_000_000_000 * (m + 1) → FitsRow b n a r g
    → total (length g) (λ t. magnitude (rnd (total n (λ l. entry n a r l *ℤ column_entry g l t)))) ≤ℤ pos (length g * m)
sizes-within b m n a r g room fits =
    total-each (length g) m (λ t. magnitude (rnd (total n (λ l. entry n a r l *ℤ column_entry g l t))))
    (λ t h.
    let one = sum_fits b n (λ l. entry n a r l *ℤ column_entry g l t) (fits t h) n (omega arith) in
    let near = rnd-within (total n (λ l. entry n a r l *ℤ column_entry g l t)) in
    omega (arith, ints, one, near, room))

-- products in 64 bits
pub narrow-sizes : (n : ℕ) (a : List ℤ) (r : ℕ) (g : List (List ℤ)) → length g ≤ 128 → FitsRow 9_000_000_000_000_000_000 n a r g
    → total (length g) (λ t. magnitude (rnd (total n (λ l. entry n a r l *ℤ column_entry g l t)))) ≤ℤ pos 2_000_000_000_000
narrow-sizes n a r g few fits = let all = sizes-within 9_000_000_000_000_000_000 9_000_000_000 n a r g (omega arith) fits in omega (arith, ints, all, few)

-- any products
pub wide-sizes : (n : ℕ) (a : List ℤ) (r : ℕ) (g : List (List ℤ)) → n ≤ 8 → length g ≤ 128 → FitsRow (widest_product n) n a r g → rounded_size n a r g ≤ℤ pos (10 ^ 25)
wide-sizes n a r g small few fits =
    let all = sizes-within (8 * 10 ^ 30) (8 * 10 ^ 21) n a r g (omega arith) (λ t h. let one = fits t h in omega (arith, ints, one, small)) in
    omega (arith, ints, all, few)

-- what is left of some entries once a number is taken from each
taken-within : (n m : ℕ) (e s : ℕ → ℤ) → ((t : ℕ) → t < n → unsigned_abs (s t) ≤ m) → total n (λ t. magnitude (e t -ℤ s t)) ≤ℤ (total n (λ t. magnitude (e t)) +ℤ pos (n * m))
taken-within zero m e s h =
    let a = total-zero (λ t. magnitude (e t -ℤ s t)) in
    let b = total-zero (λ t. magnitude (e t)) in
    omega (arith, ints, a, b)
taken-within (suc n) m e s h =
    let before = taken-within n m e s (λ t l. h t (omega arith)) in
    let a = total-suc n (λ t. magnitude (e t -ℤ s t)) in
    let b = total-suc n (λ t. magnitude (e t)) in
    let last = h n (omega arith) in
    omega (arith, ints, before, a, b, last)

-- what is left of a state once a gain takes its share of a row
pub left-within : (b m : ℕ) (gain : ℤ) (a : List ℤ) (g : List (List ℤ)) (i : ℕ) → b + 500_000_000 < 1_000_000_000 * (m + 1) → unsigned_abs gain * sum_by unsigned_abs a ≤ b
    → length g ≡ length a → row_magnitude g i ≤ℤ pos 1_000_000_000_000_000_000
    → total (length a) (λ t. magnitude (column_entry g i t -ℤ rnd (gain *ℤ at a t))) ≤ℤ pos (1_000_000_000_000_000_000 + length a * m)
left-within b m gain a g i room products long radius =
    let each : (t : ℕ) → t < length a → unsigned_abs (rnd (gain *ℤ at a t)) ≤ m = λ t h.
    let size = unsigned_abs-mul gain (at a t) in
    let one = get_or-le-sum_by unsigned_abs a t (pos 0) h in
    let most : unsigned_abs gain * unsigned_abs (at a t) ≤ unsigned_abs gain * sum_by unsigned_abs a = mul-le-mul (le_refl (unsigned_abs gain)) one in
    let near = rnd-within (gain *ℤ at a t) in
    omega (arith, size, most, products, near, room) in
    let all = taken-within (length a) m (column_entry g i) (λ t. rnd (gain *ℤ at a t)) each in
    let same = ap (λ n. total n (λ t. magnitude (column_entry g i t))) long in
    omega (arith, ints, all, same, radius)
