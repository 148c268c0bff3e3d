-- The bound of an image's reach: products are no greater than the products of magnitudes, and each rounding adds at most half a unit.
use Rattle.std.proofs.Common.{◌≡◌, ℕ, zero, suc, ◌+◌, ◌*◌, ◌<◌, ◌≤◌, List, length, ℤ, pos, negsuc, ◌+ℤ◌, ◌*ℤ◌, ◌≤ℤ◌, unsigned_abs, sum_by, mul-le-mul, sym, ap, ◌∙◌, arith}
use Rattle.std.proofs.lemmas.Int.{ints}
use Rattle.set_rules.specs.Sum.{total, magnitude}
use Rattle.std.proofs.lemmas.List.FromFn.{sum_by-map-range_with_len_more}
use Rattle.set_rules.specs.Columns.{at, entry, column_entry, tabulate}
use Rattle.set_rules.specs.Round.{unit, rnd, residue}
use Rattle.set_rules.specs.Zono.{Zono, reach, InRange}
use Rattle.set_rules.specs.Strip.{raw_coefficient}
use Rattle.set_rules.specs.Image.{image, raw_centre, raw_entry, slack}
use Rattle.set_rules.proofs.Ring.{mul_add}
use Rattle.set_rules.proofs.Sums.{total-zero, total-suc, total-same, total-none, total-add, total-scale, total-mono, total-magnitudes-low, magnitude-add, magnitude-mul}
use Rattle.set_rules.proofs.Rounds.{rnd-near, rnd-within, ceil_s-within}
use Rattle.set_rules.proofs.ImageSets.{reach-image}
use Rattle.zono_set.specs.Bound.{reach_bound}

-- a row times the centre and the columns, against its magnitudes times the reach of each state
pub products-within : (n k : ℕ) (a c : ℕ → ℤ) (g : ℕ → ℕ → ℤ)
    → (magnitude (total n (λ l. a l *ℤ c l)) +ℤ total k (λ t. magnitude (total n (λ l. a l *ℤ g l t)))) ≤ℤ total n (λ l. magnitude (a l) *ℤ (magnitude (c l) +ℤ total k (λ t. magnitude (g l t))))
products-within zero k a c g =
    let none = total-zero (λ l. a l *ℤ c l) in
    let all = total-zero (λ l. magnitude (a l) *ℤ (magnitude (c l) +ℤ total k (λ t. magnitude (g l t)))) in
    let each = total-same k (λ t. magnitude (total 0 (λ l. a l *ℤ g l t))) (λ _. pos 0) (λ t _. ap magnitude (total-zero (λ l. a l *ℤ g l t))) ∙ total-none k in
    omega (arith, ints)
products-within (suc n) k a c g =
    let before = products-within n k a c g in
    let x = total n (λ l. a l *ℤ c l) in
    let row : ℕ → ℤ = λ t. total n (λ l. a l *ℤ g l t) in
    let head = ap magnitude (total-suc n (λ l. a l *ℤ c l)) in
    let add = magnitude-add x (a n *ℤ c n) in
    let mul = magnitude-mul (a n) (c n) in
    let each = total-mono k (λ t. magnitude (total (suc n) (λ l. a l *ℤ g l t))) (λ t. magnitude (row t) +ℤ magnitude (a n) *ℤ magnitude (g n t)) (λ t _. one (total (suc n) (λ l. a l *ℤ g l t)) (row t) (a n) (g n t) (total-suc n (λ l. a l *ℤ g l t))) in
    let split = total-add k (λ t. magnitude (row t)) (λ t. magnitude (a n) *ℤ magnitude (g n t)) in
    let scale = total-scale k (magnitude (a n)) (λ t. magnitude (g n t)) in
    let last = total-suc n (λ l. magnitude (a l) *ℤ (magnitude (c l) +ℤ total k (λ t. magnitude (g l t)))) in
    let parts = mul_add (magnitude (a n)) (magnitude (c n)) (total k (λ t. magnitude (g n t))) in
    omega (arith, ints, before, head, add, mul, each, split, scale, last, parts)
  where
    one : (all x a g : ℤ) → all ≡ x +ℤ a *ℤ g → magnitude all ≤ℤ (magnitude x +ℤ magnitude a *ℤ magnitude g)
    one all x a g e =
        let h = ap magnitude e in
        let add = magnitude-add x (a *ℤ g) in
        let mul = magnitude-mul a g in
        omega (arith, ints, h, add, mul)

-- rounding adds at most half a unit to each, and leaves at most half a unit of each
pub rounded-within : (k : ℕ) (f : ℕ → ℤ) → (pos unit *ℤ total k (λ t. magnitude (rnd (f t)))) ≤ℤ (total k (λ t. magnitude (f t)) +ℤ pos (k * 500_000_000))
rounded-within zero f =
    let a = total-zero (λ t. magnitude (rnd (f t))) in
    let b = total-zero (λ t. magnitude (f t)) in
    omega (arith, ints)
rounded-within (suc k) f =
    let before = rounded-within k f in
    let a = total-suc k (λ t. magnitude (rnd (f t))) in
    let b = total-suc k (λ t. magnitude (f t)) in
    let near = rnd-within (f k) in
    let parts = mul_add (pos unit) (total k (λ t. magnitude (rnd (f t)))) (magnitude (rnd (f k))) in
    omega (arith, ints)

pub residue-half : (p : ℤ) → (pos 0 ≤ℤ residue p) × (residue p ≤ℤ pos 500_000_000)
unfolding residue
residue-half p = let near = rnd-near p in (omega (arith, ints), omega (arith, ints))

pub residues-within : (k : ℕ) (f : ℕ → ℤ) → (pos 0 ≤ℤ total k (λ t. residue (f t))) × (total k (λ t. residue (f t)) ≤ℤ pos (k * 500_000_000))
residues-within zero f = let a = total-zero (λ t. residue (f t)) in (omega (arith, ints), omega (arith, ints))
residues-within (suc k) f =
    let before = residues-within k f in
    let a = total-suc k (λ t. residue (f t)) in
    let half = residue-half (f k) in
    (omega (arith, ints, before.0, before.1, half.0, half.1), omega (arith, ints, before.0, before.1, half.0, half.1))

-- so the image reaches no further than the bound
pub reach-bounded : (n w : ℕ) (a shift e : List ℤ) (z : Zono) (i : ℕ) → i < n → (pos unit *ℤ reach (image n w a shift e z) i) ≤ℤ reach_bound n w a shift e z i
reach-bounded n w a shift e z i h =
    let k = length z.columns in
    let p = raw_centre n a shift z i in
    let f : ℕ → ℤ = raw_entry n a z i in
    let is = reach-image n w a shift e z i h in
    let products = products-within n k (entry n a i) (at z.centre) (column_entry z.columns) in
    let add = magnitude-add (total n (λ l. entry n a i l *ℤ at z.centre l)) (at shift i) in
    let one = rnd-within p in
    let all = rounded-within k f in
    let half = residue-half p in
    let left = residues-within k f in
    let slack_is = ceil_s-within (residue p +ℤ total k (λ t. residue (f t))) in
    together k (reach (image n w a shift e z) i) (magnitude (rnd p)) (total k (λ t. magnitude (rnd (f t)))) (total w (λ t. magnitude (entry 8 e i t))) (slack n a shift z i)
    (magnitude (total n (λ l. entry n a i l *ℤ at z.centre l))) (total k (λ t. magnitude (f t))) (magnitude (at shift i)) (residue p +ℤ total k (λ t. residue (f t))) (total n (λ l. magnitude (entry n a i l) *ℤ reach z l))
    is products (omega (arith, ints)) all (omega (arith, ints, half.1, left.1)) slack_is
  where
    together : (k : ℕ) (whole c g noise s x y shift left bound : ℤ) → whole ≡ c +ℤ g +ℤ noise +ℤ s → (x +ℤ y) ≤ℤ bound → (pos unit *ℤ c) ≤ℤ (x +ℤ shift +ℤ pos 500_000_000)
        → (pos unit *ℤ g) ≤ℤ (y +ℤ pos (k * 500_000_000)) → left ≤ℤ pos (500_000_000 + k * 500_000_000) → (pos unit *ℤ s) ≤ℤ (left +ℤ pos 999_999_999)
        → (pos unit *ℤ whole) ≤ℤ (bound +ℤ shift +ℤ pos unit *ℤ (pos (k + 2) +ℤ noise))
    together k whole c g noise s x y shift left bound h₁ h₂ h₃ h₄ h₅ h₆ =
        let scaled = ap (λ v. pos unit *ℤ v) h₁ in
        omega (arith, ints)

total-bounded : (n : ℕ) (f : ℕ → ℤ) (m : ℕ) → ((l : ℕ) → l < n → f l ≤ℤ pos m) → total n f ≤ℤ pos (n * m)
total-bounded zero f m h = let a = total-zero f in omega (arith, ints)
total-bounded (suc n) f m h =
    let before = total-bounded n f m (λ l k. h l (omega arith)) in
    let last = h n (omega arith) in
    let a = total-suc n f in
    omega (arith, ints)

-- a row of coefficients in range meets a set in range no further than this
pub spread-within : (n : ℕ) (c : List ℤ) (z : Zono) → n ≤ 8 → length z.columns ≤ 128 → ((l : ℕ) → l < n → unsigned_abs (at c l) ≤ 1_000_000_000_000) → InRange n z
    → total (length z.columns) (λ t. magnitude (rnd (raw_coefficient n c z t))) ≤ℤ pos 8_100_000_000_000_000_000_000
spread-within n c z small few coefficients fits =
    let k = length z.columns in
    let products = products-within n k (at c) (at z.centre) (column_entry z.columns) in
    let all = rounded-within k (raw_coefficient n c z) in
    let low = magnitude-low (total n (λ l. at c l *ℤ at z.centre l)) in
    let each = total-bounded n (λ l. magnitude (at c l) *ℤ reach z l) (1_000_000_000_000 * 1_000_000_000_000_000_000)
    (λ l h. one (unsigned_abs (at c l)) (reach z l) (coefficients l h) (fits l h) (reach-low l)) in
    omega (arith, ints)
  where
    magnitude-low : (x : ℤ) → pos 0 ≤ℤ magnitude x
    magnitude-low x = omega (arith, ints)

    reach-low : (l : ℕ) → pos 0 ≤ℤ reach z l
    reach-low l = let low = total-magnitudes-low (length z.columns) (column_entry z.columns l) in omega (arith, ints)

    one : (a : ℕ) (r : ℤ) → a ≤ 1_000_000_000_000 → r ≤ℤ pos 1_000_000_000_000_000_000 → pos 0 ≤ℤ r → (pos a *ℤ r) ≤ℤ pos (1_000_000_000_000 * 1_000_000_000_000_000_000)
    one a (pos r) h k l = let small : r ≤ 1_000_000_000_000_000_000 = omega (arith, ints) in let m : a * r ≤ 1_000_000_000_000 * 1_000_000_000_000_000_000 = mul-le-mul h small in omega (arith, ints)
    one a (negsuc r) h k l = absurd (omega (arith, ints))

-- the sum of the magnitudes in a list that was made from a function
pub sum_by-tabulate : (n : ℕ) (f : ℕ → ℤ) → pos (sum_by unsigned_abs (tabulate n f)) ≡ total n (λ t. magnitude (f t))
sum_by-tabulate zero f = sym (total-zero (λ t. magnitude (f t)))
sum_by-tabulate (suc n) f =
    let next : suc n ≡ n + 1 = omega arith in
    let more = ap (λ m. sum_by unsigned_abs (tabulate m f)) next ∙ sum_by-map-range_with_len_more unsigned_abs f 0 n n (omega arith) in
    let before = sum_by-tabulate n f in
    let last = total-suc n (λ t. magnitude (f t)) in
    omega (arith, ints)
