-- Columns and rows that need no shrinking.
use Rattle.std.proofs.Common.{◌≡◌, ℕ, ◌<◌, ◌≤◌, max, List, [], ◌∷◌, length, map, ℤ, pos, negsuc, unsigned_abs, ◌*ℤ◌, refl, sym, ap, ◌∙◌, arith}
use Rattle.std.proofs.lemmas.Int.{ints}
use Rattle.std.proofs.lemmas.List.Sums.{sum_by-cons}
use Rattle.std.specs.List.{sum_by}
use Rattle.std.proofs.lemmas.List.FromFn.{length-map-range_with_len}
use Rattle.set_rules.specs.Columns.{at, column_entry}
use Rattle.set_rules.specs.Reduce.{greatest}
use Rattle.set_rules.specs.Gain.{shrunk_value, gain_of, gain_shift, greatest_entry, gain_at, gain}
use Rattle.set_rules.proofs.Sums.{total-same}
use Rattle.fixed_mat.proofs.Columns.{tabulate-same}
use Rattle.row_drop.specs.Room.{plain_limit}
use Rattle.row_drop.specs.Rows.{Covers, state_product, row_square, shrunk_state_product, gains_from}
use Rattle.row_drop.proofs.Shrinking.{least_is, gain-is}

whole : (v : ℤ) → shrunk_value 0 v ≡ v
whole (pos n) = omega (arith, ints)
whole (negsuc n) = omega (arith, ints)

same : (a : List ℤ) → a ≡ map (shrunk_value 0) a
same [] = refl
same (x ∷ xs) = let rest = same xs in let first = sym (whole x) in λ i. first i ∷ rest i

-- no number is above the sum of the magnitudes
greatest-le-sum : (xs : List ℤ) → greatest xs ≤ sum_by unsigned_abs xs
greatest-le-sum [] = omega arith
greatest-le-sum (x ∷ xs) = let rest = greatest-le-sum xs in let sum = sum_by-cons unsigned_abs x xs in omega arith

no-shift : (g : List (List ℤ)) (a : List ℤ) → greatest_entry g < plain_limit → greatest a < plain_limit → 0 ≡ gain_shift g a
no-shift g a h k = least_is (max (greatest_entry g) (greatest a)) 0 (omega arith) (λ y l. absurd (omega arith)) (omega arith)

-- the gain, where the columns and the row are small
pub gain-plain : (n : ℕ) (a : List ℤ) (g : List (List ℤ)) (gains : List ℤ) → Covers a g
    → greatest_entry g < plain_limit → sum_by unsigned_abs a < plain_limit
    → gains ≡ gains_from n (state_product g a) (row_square a) → gains ≡ gain n g a
gain-plain n a g gains long entries numbers is =
    let most = greatest-le-sum a in
    gain-is n 0 a g a gains long (same a) (no-shift g a entries (omega arith))
    (is ∙ tabulate-same n (λ i. gain_of (state_product g a i) (row_square a)) (λ i. gain_of (shrunk_state_product 0 g a i) (row_square a))
    (λ i _. ap (λ p. gain_of p (row_square a)) (product-is i)))
  where
    product-is : (i : ℕ) → state_product g a i ≡ shrunk_state_product 0 g a i
    product-is i =
        total-same (length g) (λ t. column_entry g i t *ℤ at a t) (λ t. shrunk_value 0 (column_entry g i t) *ℤ at a t)
        (λ t _. ap (λ v. v *ℤ at a t) (sym (whole (column_entry g i t))))

-- one gain for each state
pub gain-long : (n : ℕ) (g : List (List ℤ)) (a : List ℤ) → length (gain n g a) ≡ n
unfolding gain_at
gain-long n g a = length-map-range_with_len _ 0 n
