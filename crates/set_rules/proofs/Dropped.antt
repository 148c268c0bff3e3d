-- Sums over what is not kept.
use Rattle.std.proofs.Common.{◌≡◌, ℕ, zero, suc, ◌+◌, ◌≤◌, ◌⊎◌, ⊎_elim, Bool, true, false, if◌then◌else◌, ℤ, pos, ◌+ℤ◌, ◌≤ℤ◌, ap, arith, unsigned_abs}
use Rattle.std.proofs.lemmas.Int.{ints}
use Rattle.set_rules.specs.Sum.{total, magnitude}
use Rattle.set_rules.specs.Reduce.{dropped}
use Rattle.set_rules.proofs.Sums.{total-zero, total-suc, total-more}

-- what a place adds to the sum of what is not kept
pub dropped_yes : (keep : ℕ → Bool) (f : ℕ → ℤ) (t : ℕ) (x y : ℤ) → x ≡ total t (dropped keep f) → keep t ≡ true → y ≡ x → y ≡ total (t + 1) (dropped keep f)
dropped_yes keep f t x y h e is =
    let none : dropped keep f t ≡ pos 0 = ap (λ b. if b then pos 0 else f t) e in
    let more = total-more t (dropped keep f) in
    omega (arith, ints)

pub dropped_no : (keep : ℕ → Bool) (f : ℕ → ℤ) (t : ℕ) (x y : ℤ) → x ≡ total t (dropped keep f) → keep t ≡ false → y ≡ x +ℤ f t → y ≡ total (t + 1) (dropped keep f)
dropped_no keep f t x y h e is =
    let one : dropped keep f t ≡ f t = ap (λ b. if b then pos 0 else f t) e in
    let more = total-more t (dropped keep f) in
    omega (arith, ints)

pub magnitude_on : (x y : ℕ) (z : ℤ) → y ≡ x + unsigned_abs z → pos y ≡ pos x +ℤ magnitude z
magnitude_on x y z h = omega (arith, ints)

-- it lies between 0 and the whole sum
pub dropped-between : (keep : ℕ → Bool) (f : ℕ → ℤ) (k : ℕ) → (pos 0 ≤ℤ total k (dropped keep (λ t. magnitude (f t)))) × (total k (dropped keep (λ t. magnitude (f t))) ≤ℤ total k (λ t. magnitude (f t)))
dropped-between keep f zero =
    let a = total-zero (dropped keep (λ t. magnitude (f t))) in
    let b = total-zero (λ t. magnitude (f t)) in
    (omega (arith, ints), omega (arith, ints))
dropped-between keep f (suc k) =
    let a = total-suc k (dropped keep (λ t. magnitude (f t))) in
    let b = total-suc k (λ t. magnitude (f t)) in
    let before = dropped-between keep f k in
    let one = between (keep k) (f k) in
    (omega (arith, ints, before.0, before.1, one.0, one.1), omega (arith, ints, before.0, before.1, one.0, one.1))
  where
    between : (b : Bool) (x : ℤ) → (pos 0 ≤ℤ (if b then pos 0 else magnitude x)) × ((if b then pos 0 else magnitude x) ≤ℤ magnitude x)
    between true x = (omega (arith, ints), omega (arith, ints))
    between false x = (omega (arith, ints), omega (arith, ints))

-- a sum of magnitudes grows with its terms
pub total-grows : (f : ℕ → ℤ) (t k : ℕ) → t ≤ k → total t (λ s. magnitude (f s)) ≤ℤ total k (λ s. magnitude (f s))
total-grows f t zero h = let same = ap (λ n. total n (λ s. magnitude (f s))) (none t h) in omega (arith, ints)
  where
    none : (t : ℕ) → t ≤ 0 → t ≡ 0
    none t h = omega arith
total-grows f t (suc k) h = ⊎_elim
    (λ (l : t ≤ k).
    let before = total-grows f t k l in
    let last = total-suc k (λ s. magnitude (f s)) in
    omega (arith, ints))
    (λ (is : t ≡ suc k). let same = ap (λ n. total n (λ s. magnitude (f s))) is in omega (arith, ints))
    (side t k h)
  where
    side : (t k : ℕ) → t ≤ suc k → (t ≤ k) ⊎ (t ≡ suc k)
    side t k h = grind arith

-- so what is dropped of the first terms is within the sum of all
pub dropped-within : (keep : ℕ → Bool) (f : ℕ → ℤ) (t k n : ℕ) (x : ℕ) → t ≤ k → pos x ≡ total t (dropped keep (λ s. magnitude (f s))) → total k (λ s. magnitude (f s)) ≤ℤ pos n → x ≤ n
dropped-within keep f t k n x h is most =
    let between = dropped-between keep f t in
    let grows = total-grows f t k h in
    omega (arith, ints, between.1)
