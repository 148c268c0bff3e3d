-- Whether a set takes a substitution, decided state by state.
use Rattle.std.proofs.Common.{◌≡◌, ℕ, ◌+◌, ◌-◌, ◌<◌, ◌≤◌, List, ◌++◌, length, ℤ, pos, ◌+ℤ◌, ◌-ℤ◌, ◌*ℤ◌, ◌≤ℤ◌, ◌<ℤ◌, Bool, true, false, IsTrue, ◌&&◌, int_le, refl, sym, ap, ◌∙◌, arith}
use Rattle.std.proofs.lemmas.Int.{ints}
use Rattle.set_rules.specs.Sum.{total}
use Rattle.set_rules.specs.Columns.{at, column_entry, row_magnitude, tabulate}
use Rattle.set_rules.specs.Zono.{Zono, reach, range, InRange}
use Rattle.set_rules.specs.Rows.{Row}
use Rattle.set_rules.specs.Reduce.{diagonal_columns}
use Rattle.set_rules.specs.Round.{rnd}
use Rattle.set_rules.specs.Gain.{substitution, residue_radius, in_range, spread}
use Rattle.set_rules.proofs.Sums.{total-none, total-mono, total-split, total-magnitudes-low}
use Rattle.set_rules.proofs.TestsHold.{in_range-tests}
use Rattle.fixed_mat.proofs.Columns.{tabulate-same}

-- sums of numbers that are not negative grow
pub total-grows : (n k : ℕ) (f : ℕ → ℤ) → n ≤ k → ((i : ℕ) → pos 0 ≤ℤ f i) → total n f ≤ℤ total k f
total-grows n k f h low =
    let whole : n + (k - n) ≡ k = omega arith in
    let parts = ap (λ m. total m f) (sym whole) ∙ total-split n (k - n) f in
    let none = total-none (k - n) in
    let more = total-mono (k - n) (λ t. pos 0) (λ t. f (n + t)) (λ t _. low (n + t)) in
    omega (arith, ints, parts, none, more)

first : (a b : Bool) → (a && b) ≡ true → IsTrue a
first a b h = grind arith

second : (a b : Bool) → (a && b) ≡ true → IsTrue b
second a b h = grind arith

both : (a b : Bool) → IsTrue a → IsTrue b → true ≡ (a && b)
both a b h k = grind arith

never : (test : Bool) → (test ≡ true → ⊥) → false ≡ test
never true h = absurd (h refl)
never false h = refl

no_more : (x y : ℤ) → IsTrue (int_le x y) → x ≤ℤ y
no_more x y h = omega (arith, ints)

is_no_more : (x y : ℤ) → x ≤ℤ y → IsTrue (int_le x y)
is_no_more x y h = grind (arith, ints)

module _ (n : ℕ) (new : Zono) (before : ℤ) where
  -- a state past the range, or with which the sum of the radii passes the one before, decides that the set stays as it was
  pub past-range : (i : ℕ) → i < n → pos range <ℤ reach new i → false ≡ (in_range n new && int_le (spread n new) before)
  past-range i h past = never _ (λ e. let fits = (in_range-tests n new).0 (first _ _ e) i h in omega (arith, ints, fits, past))

  pub past-spread : (i : ℕ) → i < n → before <ℤ total (i + 1) (row_magnitude new.columns) → false ≡ (in_range n new && int_le (spread n new) before)
  past-spread i h past =
      never _ (λ e. let most = no_more (spread n new) before (second _ _ e) in
      let grows = total-grows (i + 1) n (row_magnitude new.columns) (omega arith) (λ j. total-magnitudes-low (length new.columns) (column_entry new.columns j)) in
      omega (arith, ints, most, grows, past))

  -- else it takes it
  pub within-both : InRange n new → spread n new ≤ℤ before → true ≡ (in_range n new && int_le (spread n new) before)
  within-both fits most = both _ _ ((in_range-tests n new).1 fits) (is_no_more (spread n new) before most)

-- a substitution reads the entries of the columns alone
pub substitution-same : (n : ℕ) (gains : List ℤ) (row : Row) (centre : List ℤ) (g h : List (List ℤ)) → ((i t : ℕ) → column_entry g i t ≡ column_entry h i t)
    → let one : Zono = record { centre = centre; columns = g } in let other : Zono = record { centre = centre; columns = h } in substitution n gains row one ≡ substitution n gains row other
unfolding substitution
substitution-same n gains row centre g h same =
    let k = length row.coefficients in
    let share : ℕ → ℕ → ℤ = λ i t. rnd (at gains i *ℤ at row.coefficients t) in
    let columns = tabulate-same k (λ t. tabulate n (λ i. column_entry g i t -ℤ share i t)) (λ t. tabulate n (λ i. column_entry h i t -ℤ share i t))
    (λ t _. tabulate-same n (λ i. column_entry g i t -ℤ share i t) (λ i. column_entry h i t -ℤ share i t) (λ i _. ap (λ v. v -ℤ share i t) (same i t))) in
    λ ι. record {
      centre = tabulate n (λ i. at centre i +ℤ rnd (at gains i *ℤ row.right));
      columns = columns ι ++ diagonal_columns n (residue_radius gains row);
    }
