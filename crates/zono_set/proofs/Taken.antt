-- A row taken, and a zero column appended.
use Rattle.std.proofs.Common.{◌≡◌, ℕ, zero, suc, ◌+◌, ◌*◌, ◌^◌, ◌≤◌, List, [], ◌∷◌, ◌++◌, length, length-append, replicate, ℤ, pos, ◌+ℤ◌, ◌-ℤ◌, ◌*ℤ◌, ◌≤ℤ◌, unsigned_abs, to_z, of_z, Bool, true, ◌&&◌, int_le, IsTrue, mul-le-mul, refl, sym, ap, ◌∙◌, subst, arith}
use Rattle.std.proofs.lemmas.Int.{ints, unsigned_abs-mul}
use Rattle.std.proofs.lemmas.List.FromFn.{fill_by_all}
use Rattle.std.proofs.lemmas.Bool.Decides.{nat_tests}
use mir.Syntax.{w128}
use Rattle.set_rules.specs.Sum.{total, magnitude}
use Rattle.set_rules.specs.Symbols.{diagonal}
use Rattle.set_rules.specs.Columns.{at, column_entry, row_magnitude, tabulate}
use Rattle.set_rules.specs.Tests.{all_below}
use Rattle.set_rules.specs.Zono.{Zono, range, InRange}
use Rattle.set_rules.specs.Gain.{in_range, spread, is_used}
use Rattle.set_rules.proofs.Sums.{total-more, total-same}
use Rattle.set_rules.proofs.ImageSets.{Gives-same}
use Rattle.set_rules.proofs.TestsHold.{in_range-tests}
use Rattle.fixed_mat.proofs.Bits.{back}
use Rattle.zono_set.specs.Holds.{HoldsMore}

-- a gain times a number of the row
module _ (a b : ℤ) (la : unsigned_abs a ≤ 10 ^ 12) (lb : unsigned_abs b ≤ 10 ^ 22) where
  product_small : unsigned_abs (a *ℤ b) ≤ 10 ^ 34
  product_small =
      let size = unsigned_abs-mul a b in
      let most : unsigned_abs a * unsigned_abs b ≤ 10 ^ 12 * 10 ^ 22 = mul-le-mul la lb in
      omega arith

  product_back : to_z w128 (of_z w128 (to_z w128 (of_z w128 a) *ℤ to_z w128 (of_z w128 b))) ≡ a *ℤ b
  product_back =
      ap (λ z. to_z w128 (of_z w128 z)) (λ i. back a (omega arith) i *ℤ back b (omega arith) i) ∙ back (a *ℤ b) (let s = product_small in omega arith)

  pub share_small : (r : ℤ) → unsigned_abs (to_z w128 (of_z w128 (to_z w128 (of_z w128 a) *ℤ to_z w128 (of_z w128 b))) -ℤ pos 1_000_000_000 *ℤ r) ≤ 500_000_000 → unsigned_abs r ≤ 2 * 10 ^ 25
  share_small r near = by (a *ℤ b) r product_small (subst (λ z. unsigned_abs (z -ℤ pos 1_000_000_000 *ℤ r) ≤ 500_000_000) product_back near)
    where
      by : (raw r : ℤ) → unsigned_abs raw ≤ 10 ^ 34 → unsigned_abs (raw -ℤ pos 1_000_000_000 *ℤ r) ≤ 500_000_000 → unsigned_abs r ≤ 2 * 10 ^ 25
      by raw r h k = omega (arith, ints)

-- tests of no number, and of one more
pub all_below-none : (p : ℕ → Bool) → all_below 0 p ≡ true
unfolding all_below
all_below-none p = refl

all_below-suc : (n : ℕ) (p : ℕ → Bool) → all_below (suc n) p ≡ (all_below n p && p n)
unfolding all_below
all_below-suc n p = refl

pub all_below-more : (n : ℕ) (p : ℕ → Bool) → all_below (n + 1) p ≡ (all_below n p && p n)
all_below-more n p = let e : n + 1 ≡ suc n = omega arith in ap (λ m. all_below m p) e ∙ all_below-suc n p

-- a substitution that is used is in range
pub used-in_range : (n : ℕ) (old new : Zono) → is_used n old new ≡ true → InRange n new
used-in_range n old new test = (in_range-tests n new).0 (first (in_range n new) (int_le (spread n new) (spread n old)) test)
  where
    first : (a b : Bool) → (a && b) ≡ true → IsTrue a
    first a b h = grind arith

-- a zero column
pub zeros-at : (n i : ℕ) → at (replicate n (pos 0)) i ≡ pos 0
zeros-at zero zero = refl
zeros-at zero (suc i) = refl
zeros-at (suc n) zero = refl
zeros-at (suc n) (suc i) = zeros-at n i

length-zeros : (n : ℕ) → length (replicate n (pos 0)) ≡ n
length-zeros zero = refl
length-zeros (suc n) = ap suc (length-zeros n)

pub zero-column : (n : ℕ) → tabulate n (λ j. diagonal (λ _. pos 0) j 0) ≡ replicate n (pos 0)
zero-column n = sym (fill_by_all (λ j. diagonal (λ _. pos 0) j 0) (replicate n (pos 0)) n (pos 0) (length-zeros n) (λ k h. zeros-at n k ∙ sym (none k)))
  where
    none : (k : ℕ) → diagonal (λ _. pos 0) k 0 ≡ pos 0
    none k = grind (arith, nat_tests)

pub nothing-at : (i : ℕ) → at [] i ≡ pos 0
nothing-at zero = refl
nothing-at (suc i) = refl

-- past the last column there is nothing
pub nothing-past : (g : List (List ℤ)) (i : ℕ) → column_entry g i (length g) ≡ pos 0
nothing-past [] i = nothing-at i
nothing-past (column ∷ g) i = nothing-past g i

-- a zero column appended changes no entry
pub padded : (n : ℕ) (g : List (List ℤ)) (i t : ℕ) → column_entry (g ++ replicate n (pos 0) ∷ []) i t ≡ column_entry g i t
padded n [] i zero = zeros-at n i ∙ sym (nothing-at i)
padded n [] i (suc t) = refl
padded n (column ∷ g) i zero = refl
padded n (column ∷ g) i (suc t) = padded n g i t

pub row_magnitude-padded : (n : ℕ) (g : List (List ℤ)) (i : ℕ) → row_magnitude (g ++ replicate n (pos 0) ∷ []) i ≡ row_magnitude g i
row_magnitude-padded n g i =
    let new = g ++ replicate n (pos 0) ∷ [] in
    ap (λ m. total m (λ t. magnitude (column_entry new i t))) (length-append g (replicate n (pos 0) ∷ []))
    ∙ total-more (length g) (λ t. magnitude (column_entry new i t))
    ∙ (λ ι. total-same (length g) (λ t. magnitude (column_entry new i t)) (λ t. magnitude (column_entry g i t)) (λ t _. ap magnitude (padded n g i t)) ι
    +ℤ ap magnitude (padded n g i (length g) ∙ nothing-past g i) ι)
    ∙ none (row_magnitude g i)
  where
    none : (x : ℤ) → x +ℤ pos 0 ≡ x
    none x = omega (arith, ints)

pub in_range-padded : (n : ℕ) (z : Zono) (g : List (List ℤ)) → g ≡ z.columns ++ replicate n (pos 0) ∷ [] → InRange n z → let new : Zono = record { centre = z.centre; columns = g } in InRange n new
in_range-padded n z g is fits i h =
    subst (λ r. (magnitude (at z.centre i) +ℤ r) ≤ℤ pos range) (sym (ap (λ g. row_magnitude g i) is ∙ row_magnitude-padded n z.columns i)) (fits i h)

pub holds-padded : (n : ℕ) (z : Zono) (g : List (List ℤ)) → g ≡ z.columns ++ replicate n (pos 0) ∷ [] → let new : Zono = record { centre = z.centre; columns = g } in HoldsMore n z new
holds-padded n z g is q x s gives =
    Gives-same n (length g) q s (at z.centre) (at z.centre) (column_entry z.columns) (column_entry g) (at x)
    (λ i l. refl) (λ i l t m. sym (ap (λ g. column_entry g i t) is ∙ padded n z.columns i t)) gives
