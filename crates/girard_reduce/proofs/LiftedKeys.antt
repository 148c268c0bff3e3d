-- The sizes of a column whose coefficients in the rows count as further entries.
use Rattle.std.proofs.Common.{◌≡◌, ℕ, zero, suc, ◌+◌, ◌*◌, ◌<◌, ◌≤◌, ◌⊎◌, ⊎_elim, true, false, List, [], ◌∷◌, ◌++◌, length, get_or, map, take, max, ℤ, pos, ◌+ℤ◌, ◌-ℤ◌, ◌<ℤ◌, ◌≤ℤ◌, int_lt, unsigned_abs, sum_by, refl, sym, ap, ◌∙◌, subst, arith}
use Rattle.std.specs.List.{All, count_by}
use Rattle.std.specs.Int.{int_max}
use Rattle.std.proofs.lemmas.Int.{ints, int_max_is}
use Rattle.std.proofs.lemmas.Bool.Decides.{nat_tests}
use Rattle.std.proofs.lemmas.List.{take_all, append_assoc, map_more}
use Rattle.std.proofs.lemmas.List.Sums.{sum_by-cons, sum_by_push, sum_by-append, sum_by-le}
use Rattle.std.proofs.lemmas.List.FromFn.{fill_by_all, length-map-range_with_len, get_or-map-range_with_len}
use Rattle.set_rules.specs.Sum.{magnitude}
use Rattle.set_rules.specs.Columns.{at, column_entry, tabulate}
use Rattle.set_rules.specs.Reduce.{greatest, key_of}
use Rattle.set_rules.specs.Rows.{Row, row_at, no_row}
use Rattle.set_rules.specs.Zono.{range}
use Rattle.set_rules.proofs.Greatest.{greatest-push}
use Rattle.girard_reduce.specs.Lifted.{lifted_column, lifted_all, all_sizes, IsOrdered}
use Rattle.girard_reduce.proofs.Cutting.{count-mono, count-more, counted-in-all}

-- one number more
pub more_sizes : (xs : List ℤ) (x sum most size sum' most' : ℤ) → sum ≡ pos (sum_by unsigned_abs xs) → most ≡ pos (greatest xs) → size ≡ magnitude x → sum' ≡ sum +ℤ size → most' ≡ int_max most size
    → (sum' ≡ pos (sum_by unsigned_abs (xs ++ x ∷ []))) × (most' ≡ pos (greatest (xs ++ x ∷ [])))
more_sizes xs x sum most size sum' most' is_sum is_most is_size next greater =
    let added = sum_by_push unsigned_abs xs x in
    let first : sum' ≡ pos (sum_by unsigned_abs (xs ++ x ∷ [])) = omega (arith, ints) in
    let same : most' ≡ int_max (pos (greatest xs)) (pos (unsigned_abs x)) = greater ∙ (λ i. int_max (is_most i) (is_size i)) in
    (first, same ∙ natural (greatest xs) (unsigned_abs x) ∙ ap pos (sym (greatest-push xs x)))
  where
    natural : (m n : ℕ) → int_max (pos m) (pos n) ≡ pos (max m n)
    natural m n = let is = int_max_is (pos m) (pos n) in omega (arith, ints)

-- no magnitude is above the sum of all
pub greatest-le : (xs : List ℤ) → greatest xs ≤ sum_by unsigned_abs xs
greatest-le [] = omega arith
greatest-le (x ∷ xs) = let before = greatest-le xs in let more = sum_by-cons unsigned_abs x xs in omega arith

pub size_at-le : (xs : List ℤ) (t : ℕ) → unsigned_abs (at xs t) ≤ sum_by unsigned_abs xs
size_at-le [] zero = omega arith
size_at-le [] (suc t) = omega arith
size_at-le (x ∷ xs) zero = let more = sum_by-cons unsigned_abs x xs in omega arith
size_at-le (x ∷ xs) (suc t) = let before = size_at-le xs t in let more = sum_by-cons unsigned_abs x xs in omega arith

-- the key of a list, from the two
pub key_is : (xs : List ℤ) (sum most : ℤ) → sum ≡ pos (sum_by unsigned_abs xs) → most ≡ pos (greatest xs) → (sum -ℤ most ≡ pos (key_of xs)) × (unsigned_abs (sum -ℤ most) ≤ sum_by unsigned_abs xs)
key_is xs sum most is_sum is_most = let less = greatest-le xs in (omega (arith, ints), omega (arith, ints))

-- a column is the list of its entries
pub column_is : (n : ℕ) (columns : List (List ℤ)) (t : ℕ) → length (get_or columns t []) ≡ n → get_or columns t [] ≡ tabulate n (λ i. column_entry columns i t)
column_is n columns t long = fill_by_all (λ i. column_entry columns i t) (get_or columns t []) n (pos 0) long (λ k m. refl)

pub lifted-at : (n : ℕ) (columns : List (List ℤ)) (rows : List Row) (t : ℕ) → t < length columns → get_or (lifted_all n columns rows) t [] ≡ lifted_column n columns rows t
lifted-at n columns rows t h = get_or-map-range_with_len (lifted_column n columns rows) 0 (length columns) t t [] h (omega arith)

-- the sum of the magnitudes of a column and its coefficients
pub column-part : (n : ℕ) (columns : List (List ℤ)) (rows : List Row) (t limit : ℕ) → length (get_or columns t []) ≡ n → sum_by unsigned_abs (lifted_column n columns rows t) ≤ limit
    → sum_by unsigned_abs (get_or columns t [] ++ map (λ row. at row.coefficients t) rows) ≤ limit
column-part n columns rows t limit long h = subst (λ xs. sum_by unsigned_abs (xs ++ map (λ row. at row.coefficients t) rows) ≤ limit) (sym (column_is n columns t long)) h

-- a column with its coefficients in the first r rows
abbrev pub first_entries : List ℤ → List Row → ℕ → ℕ → List ℤ
first_entries column rows t r = column ++ map (λ row. at row.coefficients t) (take r rows)

pub entries_more : (column : List ℤ) (rows : List Row) (t r : ℕ) → r < length rows → first_entries column rows t (r + 1) ≡ first_entries column rows t r ++ at (row_at rows r).coefficients t ∷ []
entries_more column rows t r h =
    ap (λ xs. column ++ xs) (map_more (λ row. at row.coefficients t) rows r no_row h)
    ∙ sym (append_assoc column (map (λ row. at row.coefficients t) (take r rows)) (at (row_at rows r).coefficients t ∷ []))

-- and in all of them
pub entries_all : (n : ℕ) (columns : List (List ℤ)) (rows : List Row) (t r : ℕ) → length (get_or columns t []) ≡ n → length rows ≤ r → first_entries (get_or columns t []) rows t r ≡ lifted_column n columns rows t
entries_all n columns rows t r long end = λ i. column_is n columns t long i ++ map (λ row. at row.coefficients t) (take_all r rows end i)

-- a sum so far is within the whole
pub entries_within : (column : List ℤ) (rows : List Row) (t r : ℕ) → r < length rows → sum_by unsigned_abs (first_entries column rows t r) + unsigned_abs (at (row_at rows r).coefficients t) ≤ sum_by unsigned_abs (column ++ map (λ row. at row.coefficients t) rows)
entries_within column rows t r h =
    let a = sum_by-append unsigned_abs column (map (λ row. at row.coefficients t) (take r rows)) in
    let b = sum_by-append unsigned_abs column (map (λ row. at row.coefficients t) rows) in
    let c = over rows r h in
    omega arith
  where
    over : (rows : List Row) (r : ℕ) → r < length rows → sum_by unsigned_abs (map (λ row. at row.coefficients t) (take r rows)) + unsigned_abs (at (row_at rows r).coefficients t) ≤ sum_by unsigned_abs (map (λ row. at row.coefficients t) rows)
    over [] r h = absurd (omega arith)
    over (row ∷ rows) zero h = let more = sum_by-cons unsigned_abs (at row.coefficients t) (map (λ row. at row.coefficients t) rows) in omega arith
    over (row ∷ rows) (suc r) h =
        let before = over rows r (omega arith) in
        let more = sum_by-cons unsigned_abs (at row.coefficients t) (map (λ row. at row.coefficients t) rows) in
        let less = sum_by-cons unsigned_abs (at row.coefficients t) (map (λ row. at row.coefficients t) (take r rows)) in
        omega arith

-- the coefficients of a column are within the sum of all rows
coefficients-within : (rows : List Row) (t : ℕ) → sum_by unsigned_abs (map (λ row. at row.coefficients t) rows) ≤ all_sizes rows
coefficients-within [] t = omega arith
coefficients-within (row ∷ rows) t =
    let before = coefficients-within rows t in
    let one = size_at-le row.coefficients t in
    let more = sum_by-cons unsigned_abs (at row.coefficients t) (map (λ row. at row.coefficients t) rows) in
    let all = sum_by-cons (λ row. sum_by unsigned_abs row.coefficients) row rows in
    omega arith

-- so a column with its coefficients is within eight entries and that sum
pub lifted-within : (n : ℕ) (columns : List (List ℤ)) (rows : List Row) (t : ℕ) → n ≤ 8 → ((i t : ℕ) → unsigned_abs (column_entry columns i t) ≤ range) → sum_by unsigned_abs (lifted_column n columns rows t) ≤ 8 * range + all_sizes rows
lifted-within n columns rows t small within =
    let f : ℕ → ℤ = λ i. column_entry columns i t in
    let long = length-map-range_with_len f 0 n in
    let each : All (λ z. unsigned_abs z ≤ range) (tabulate n f) = λ k d l. subst (λ z. unsigned_abs z ≤ range) (sym (get_or-map-range_with_len f 0 n k k d (omega arith) (omega arith))) (within k t) in
    let first = sum_by-le unsigned_abs range (tabulate n f) each in
    let rest = coefficients-within rows t in
    let parts = sum_by-append unsigned_abs (tabulate n f) (map (λ row. at row.coefficients t) rows) in
    omega arith

-- for each key how many are smaller: these numbers are in the order of the keys
abbrev pub smaller : List ℤ → ℕ → ℕ
smaller keys s = count_by (λ key. int_lt key (at keys s)) keys

pub smaller-ordered : (keys : List ℤ) → IsOrdered (length keys) (λ s. pos (smaller keys s)) (at keys)
smaller-ordered keys s t h l = ⊎_elim
    (λ (less : at keys s <ℤ at keys t).
    let a = counted-in-all (λ key. int_lt key (at keys s)) keys in
    let b = counted-in-all (λ key. int_lt key (at keys t)) keys in
    let more = count-more (length keys) (λ u. int_lt (at keys u) (at keys s)) (λ u. int_lt (at keys u) (at keys t)) s (λ u m e. through (at keys u) (at keys s) (at keys t) e less) h (itself (at keys s)) (below (at keys s) (at keys t) less) in
    both (smaller keys s) (smaller keys t) (omega arith) ∙ sym (below (at keys s) (at keys t) less))
    (λ (other : at keys t ≤ℤ at keys s).
    let a = counted-in-all (λ key. int_lt key (at keys s)) keys in
    let b = counted-in-all (λ key. int_lt key (at keys t)) keys in
    let more = count-mono (length keys) (λ u. int_lt (at keys u) (at keys t)) (λ u. int_lt (at keys u) (at keys s)) (λ u m e. up_to (at keys u) (at keys t) (at keys s) e other) in
    neither (smaller keys s) (smaller keys t) (omega arith) ∙ sym (above (at keys s) (at keys t) other))
    (side (at keys s) (at keys t))
  where
    side : (x y : ℤ) → (x <ℤ y) ⊎ (y ≤ℤ x)
    side x y = grind (arith, ints)

    itself : (x : ℤ) → int_lt x x ≡ false
    itself x = grind (arith, ints, nat_tests)

    below : (x y : ℤ) → x <ℤ y → int_lt x y ≡ true
    below x y h = grind (arith, ints, nat_tests)

    above : (x y : ℤ) → y ≤ℤ x → int_lt x y ≡ false
    above x y h = grind (arith, ints, nat_tests)

    through : (z x y : ℤ) → int_lt z x ≡ true → x <ℤ y → int_lt z y ≡ true
    through z x y e h = grind (arith, ints, nat_tests)

    up_to : (z x y : ℤ) → int_lt z x ≡ true → x ≤ℤ y → int_lt z y ≡ true
    up_to z x y e h = grind (arith, ints, nat_tests)

    both : (m n : ℕ) → m < n → int_lt (pos m) (pos n) ≡ true
    both m n h = grind (arith, ints, nat_tests)

    neither : (m n : ℕ) → n ≤ m → int_lt (pos m) (pos n) ≡ false
    neither m n h = grind (arith, ints, nat_tests)
