-- The reduction with rows, from the columns and the rows that are kept one by one.
use Rattle.std.proofs.Common.{◌≡◌, ℕ, zero, suc, ◌+◌, ◌-◌, ◌<◌, ◌≤◌, Bool, true, false, if◌then◌else◌, nat_le, nat_eq, List, [], ◌∷◌, ◌++◌, length, get_or, map, take, ℤ, pos, refl, sym, ap, ◌∙◌, arith, subst}
use Rattle.std.specs.List.{All, range_with_len}
use Rattle.std.proofs.lemmas.Bool.Decides.{nat_tests}
use Rattle.std.proofs.lemmas.List.{map-append, length-map, append_assoc, append-nil, take-append-le, take_all, get_or-map, get_or-take}
use Rattle.std.proofs.lemmas.List.FromFn.{take-map-range_with_len, map-range_with_len_more}
use Rattle.set_rules.specs.Sum.{total, magnitude}
use Rattle.set_rules.specs.Symbols.{diagonal}
use Rattle.set_rules.specs.Columns.{at, column_entry, row_magnitude, tabulate}
use Rattle.set_rules.specs.Reduce.{places, key_at, columns_at, lost_in, diagonal_columns, lowered_set, stays, condense, reduce, reduce_lifted}
use Rattle.set_rules.specs.Rows.{Row, Czono, row_at, InsideAll}
use Rattle.set_rules.proofs.Sums.{total-same, joined-before, joined-after}
use Rattle.set_rules.proofs.ImageSets.{length-tabulate, get_or-tabulate}
use Rattle.set_rules.proofs.Places.{map-places, dropped-same}
use Rattle.set_rules.proofs.ReductionHolds.{reduction-keeps-magnitudes}
use Rattle.set_rules.proofs.LiftedHolds.{length-lifted, column-lifted, lifted-reduction-keeps}
use Rattle.fixed_mat.specs.Rows.{marked, kept_at, lost_at, condensed_row, condensed_rows}
use Rattle.fixed_mat.proofs.Columns.{tabulate-same}
use Rattle.girard_reduce.specs.Keeps.{KeepsAll, set_with}
use Rattle.girard_reduce.specs.Lifted.{lifted_of, lifted_all, reduced_columns, reduced_rows, IsOrdered}
use Rattle.girard_reduce.specs.Marks.{ranked_below}
use Rattle.girard_reduce.proofs.Reduced.{condensed_by, condensed_by-same, same_box, marked-stays, marked-few}
use Rattle.girard_reduce.proofs.LiftedKeys.{column_is, lifted-at}

-- a list by place in two parts
tabulate-split : {A : Type 0} (n m : ℕ) (f : ℕ → A) → tabulate (n + m) f ≡ tabulate n f ++ tabulate m (λ j. f (n + j))
tabulate-split n zero f = let none : n + 0 ≡ n = omega arith in ap (λ k. tabulate k f) none ∙ sym (append-nil (tabulate n f))
tabulate-split n (suc m) f =
    let next : n + suc m ≡ n + m + 1 = omega arith in
    let one : suc m ≡ m + 1 = omega arith in
    ap (λ k. tabulate k f) next ∙ map-range_with_len_more f 0 (n + m) (n + m) (omega arith)
    ∙ ap (λ xs. xs ++ f (n + m) ∷ []) (tabulate-split n m f)
    ∙ append_assoc (tabulate n f) (tabulate m (λ j. f (n + j))) (f (n + m) ∷ [])
    ∙ ap (λ xs. tabulate n f ++ xs) (sym (map-range_with_len_more (λ j. f (n + j)) 0 m m (omega arith)) ∙ ap (λ k. tabulate k (λ j. f (n + j))) (sym one))

map_map : {A B C : Type 0} (g : B → C) (f : A → B) (xs : List A) → map g (map f xs) ≡ map (λ x. g (f x)) xs
map_map g f [] = refl
map_map g f (x ∷ xs) = ap (λ ys. g (f x) ∷ ys) (map_map g f xs)

map-tabulate : {A B : Type 0} (g : A → B) (n : ℕ) (f : ℕ → A) → map g (tabulate n f) ≡ tabulate n (λ j. g (f j))
map-tabulate g n f = map_map g f (range_with_len 0 n)

-- a column of zeros, for a radius of a row
abbrev pub zero_column : ℕ → List ℤ
zero_column n = tabulate n (λ j. diagonal (λ _. pos 0) j 0)

module _ (n : ℕ) (columns : List (List ℤ)) (rows : List Row) (keep : ℕ → Bool)
    (heights : All (λ column. length column ≡ n) columns) (aligned : (r : ℕ) → r < length rows → length (row_at rows r).coefficients ≡ length columns) where
  abbrev lifted : List (List ℤ)
  lifted = lifted_all n columns rows

  abbrev k : ℕ
  k = length columns

  abbrev count : ℕ
  count = length rows

  abbrev made : List (List ℤ)
  made = condensed_by keep (n + count) lifted

  -- the first entries of a lifted column are the column
  front : (t : ℕ) → t < k → take n (get_or lifted t []) ≡ get_or columns t []
  front t h =
      let long = length-tabulate n (λ i. column_entry columns i t) in
      ap (take n) (lifted-at n columns rows t h) ∙ take-append-le n (tabulate n (λ i. column_entry columns i t)) (map (λ row. at row.coefficients t) rows) (omega arith)
      ∙ take_all n (tabulate n (λ i. column_entry columns i t)) (omega arith) ∙ sym (column_is n columns t (heights t [] h))

  -- its entry for a row is the row's coefficient
  behind : (r : ℕ) → r < count → (t : ℕ) → t < k → column_entry lifted (n + r) t ≡ at (row_at rows r).coefficients t
  behind r l t h = column-lifted n (lifted_of columns rows) t h (n + r) (omega arith) ∙ joined-after n (λ i. column_entry columns i t) (λ r. at (row_at rows r).coefficients t) r

  before : (i : ℕ) → i < n → (t : ℕ) → t < k → column_entry lifted i t ≡ column_entry columns i t
  before i l t h = column-lifted n (lifted_of columns rows) t h i (omega arith) ∙ joined-before n (λ i. column_entry columns i t) (λ r. at (row_at rows r).coefficients t) i l

  -- what is lost of a state, and of a row
  lost-state : (i : ℕ) → i < n → lost_in keep lifted i ≡ lost_in keep columns i
  lost-state i l =
      ap (λ m. total m (λ t. if keep t then pos 0 else magnitude (column_entry lifted i t))) (length-lifted n (lifted_of columns rows))
      ∙ dropped-same keep keep (λ t. magnitude (column_entry lifted i t)) (λ t. magnitude (column_entry columns i t)) k (λ t h. refl) (λ t h. ap magnitude (before i l t h))

  lost-row : (r : ℕ) → r < count → lost_in keep lifted (n + r) ≡ lost_at keep (row_at rows r).coefficients
  lost-row r l =
      ap (λ m. total m (λ t. if keep t then pos 0 else magnitude (column_entry lifted (n + r) t))) (length-lifted n (lifted_of columns rows))
      ∙ dropped-same keep keep (λ t. magnitude (column_entry lifted (n + r) t)) (λ t. magnitude (at (row_at rows r).coefficients t)) k (λ t h. refl) (λ t h. ap magnitude (behind r l t h))
      ∙ ap (λ m. total m (λ t. if keep t then pos 0 else magnitude (at (row_at rows r).coefficients t))) (sym (aligned r l))

  kept-front : map (take n) (columns_at keep lifted) ≡ columns_at keep columns
  kept-front =
      map_map (take n) (λ t. get_or lifted t []) (places keep (length lifted))
      ∙ ap (λ m. map (λ t. take n (get_or lifted t [])) (places keep m)) (length-lifted n (lifted_of columns rows))
      ∙ map-places (λ t. take n (get_or lifted t [])) (λ t. get_or columns t []) keep k front

  box-front : map (take n) (diagonal_columns (n + count) (lost_in keep lifted)) ≡ diagonal_columns n (lost_in keep columns) ++ tabulate count (λ _. zero_column n)
  box-front =
      map-tabulate (take n) (n + count) (λ j. tabulate (n + count) (λ i. diagonal (lost_in keep lifted) i j))
      ∙ tabulate-same (n + count) (λ j. take n (tabulate (n + count) (λ i. diagonal (lost_in keep lifted) i j))) (λ j. tabulate n (λ i. diagonal (lost_in keep lifted) i j))
      (λ j h. take-map-range_with_len (λ i. diagonal (lost_in keep lifted) i j) 0 (n + count) n (omega arith))
      ∙ tabulate-split n count (λ j. tabulate n (λ i. diagonal (lost_in keep lifted) i j))
      ∙ (λ ι. same_box n (lost_in keep lifted) (lost_in keep columns) lost-state ι
      ++ tabulate-same count (λ j. tabulate n (λ i. diagonal (lost_in keep lifted) i (n + j))) (λ _. zero_column n)
      (λ j h. tabulate-same n (λ i. diagonal (lost_in keep lifted) i (n + j)) (λ j. diagonal (λ _. pos 0) j 0) (λ i l. none i j l)) ι)
    where
      none : (i j : ℕ) → i < n → diagonal (lost_in keep lifted) i (n + j) ≡ diagonal (λ _. pos 0) i 0
      none i j l =
          let no : nat_eq (n + j) i ≡ false = grind (arith, nat_tests) in
          ap (λ b. if b then lost_in keep lifted (n + j) else pos 0) no ∙ alike (nat_eq 0 i)
        where
          alike : (b : Bool) → pos 0 ≡ (if b then pos 0 else pos 0)
          alike true = refl
          alike false = refl

  -- the columns of the reduction
  pub columns-lowered : map (take n) made ≡ condensed_by keep n columns ++ tabulate count (λ _. zero_column n)
  columns-lowered =
      map-append (take n) (columns_at keep lifted) (diagonal_columns (n + count) (lost_in keep lifted))
      ∙ (λ ι. kept-front ι ++ box-front ι) ∙ sym (append_assoc (columns_at keep columns) (diagonal_columns n (lost_in keep columns)) (tabulate count (λ _. zero_column n)))

  kept-row : (r : ℕ) → r < count → map (λ column. at column (n + r)) (columns_at keep lifted) ≡ kept_at keep (row_at rows r).coefficients
  kept-row r l =
      map_map (λ column. at column (n + r)) (λ t. get_or lifted t []) (places keep (length lifted))
      ∙ ap (λ m. map (λ t. column_entry lifted (n + r) t) (places keep m)) (length-lifted n (lifted_of columns rows))
      ∙ map-places (λ t. column_entry lifted (n + r) t) (at (row_at rows r).coefficients) keep k (behind r l)
      ∙ ap (λ m. map (at (row_at rows r).coefficients) (places keep m)) (sym (aligned r l))

  box-row : (r : ℕ) → r < count → map (λ column. at column (n + r)) (diagonal_columns (n + count) (lost_in keep lifted)) ≡ tabulate (n + count) (diagonal (λ _. lost_at keep (row_at rows r).coefficients) (n + r))
  box-row r l =
      map-tabulate (λ column. at column (n + r)) (n + count) (λ j. tabulate (n + count) (λ i. diagonal (lost_in keep lifted) i j))
      ∙ tabulate-same (n + count) (λ j. at (tabulate (n + count) (λ i. diagonal (lost_in keep lifted) i j)) (n + r)) (diagonal (λ _. lost_at keep (row_at rows r).coefficients) (n + r))
      (λ j h. get_or-tabulate (n + count) (λ i. diagonal (lost_in keep lifted) i j) (n + r) (pos 0) (omega arith) ∙ own j (nat_eq j (n + r)) refl)
    where
      own : (j : ℕ) (b : Bool) → nat_eq j (n + r) ≡ b → diagonal (lost_in keep lifted) (n + r) j ≡ diagonal (λ _. lost_at keep (row_at rows r).coefficients) (n + r) j
      own j true e =
          let is : j ≡ n + r = grind (arith, nat_tests) in
          ap (λ (v : ℤ). if nat_eq j (n + r) then v else pos 0) (ap (lost_in keep lifted) is ∙ lost-row r l)
      own j false e = ap (λ b. if b then lost_in keep lifted j else pos 0) e ∙ ap (λ b. if b then lost_at keep (row_at rows r).coefficients else pos 0) (sym e)

  -- its rows
  pub rows-lowered : (lowered_set n (lifted_of columns rows) made).rows ≡ condensed_rows keep n rows
  rows-lowered = tabulate-same count (λ r. let row : Row = record { coefficients = map (λ column. at column (n + r)) made; right = (row_at rows r).right } in row)
      (λ r. condensed_row keep (n + count) (n + r) (row_at rows r))
      (λ r l. ap (λ xs. let row : Row = record { coefficients = xs; right = (row_at rows r).right } in row)
      (map-append (λ column. at column (n + r)) (columns_at keep lifted) (diagonal_columns (n + count) (lost_in keep lifted)) ∙ (λ ι. kept-row r l ι ++ box-row r l ι)))

  -- where the marked columns are those that stay, both are the reduction
  pub lifted-reduced : (most : ℕ) → most < k → ((t : ℕ) → t < k → keep t ≡ stays lifted (most - (n + count)) t)
      → (condensed_by keep n columns ++ tabulate count (λ _. zero_column n) ≡ reduced_columns n most columns rows) × (condensed_rows keep n rows ≡ reduced_rows n most columns rows)
  unfolding reduce_lifted condense
  lifted-reduced most more same =
      let test : nat_le k most ≡ false = grind (arith, nat_tests) in
      let long = length-lifted n (lifted_of columns rows) in
      let by = condensed_by-same keep (stays lifted (most - (n + count))) (n + count) lifted (λ t h. same t (omega arith)) in
      let whole : (if nat_le k most then lifted_of columns rows else lowered_set n (lifted_of columns rows) (condensed_by (stays lifted (most - (n + count))) (n + count) lifted)) ≡ lowered_set n (lifted_of columns rows) made
      = ap (λ b. if b then lifted_of columns rows else lowered_set n (lifted_of columns rows) (condensed_by (stays lifted (most - (n + count))) (n + count) lifted)) test ∙ ap (lowered_set n (lifted_of columns rows)) (sym by) in
      (sym columns-lowered ∙ ap (λ (z : Czono). z.base.columns) (sym whole), sym rows-lowered ∙ ap (λ (z : Czono). z.rows) (sym whole))

-- columns that are few enough stay, and so do their rows
pub lifted-same : (n most : ℕ) (columns : List (List ℤ)) (rows : List Row) → length columns ≤ most → (columns ≡ reduced_columns n most columns rows) × (rows ≡ reduced_rows n most columns rows)
unfolding reduce_lifted
lifted-same n most columns rows h =
    let test : nat_le (length columns) most ≡ true = grind (arith, nat_tests) in
    let whole : lifted_of columns rows ≡ (if nat_le (length columns) most then lifted_of columns rows else lowered_set n (lifted_of columns rows) (condense (n + length rows) most (lifted_all n columns rows)))
    = ap (λ b. if b then lifted_of columns rows else lowered_set n (lifted_of columns rows) (condense (n + length rows) most (lifted_all n columns rows))) (sym test) in
    (ap (λ (z : Czono). z.base.columns) whole, ap (λ (z : Czono). z.rows) whole)

-- a reduction does not look at the centre
pub reduced-about : (n most : ℕ) (centre : List ℤ) (columns : List (List ℤ)) (rows : List Row) → reduce_lifted n most (set_with centre columns rows) ≡ set_with centre (reduced_columns n most columns rows) (reduced_rows n most columns rows)
unfolding reduce_lifted
reduced-about n most centre columns rows = by (nat_le (length columns) most)
  where
    by : (b : Bool) → (if b then set_with centre columns rows else lowered_set n (set_with centre columns rows) (condense (n + length rows) most (lifted_all n columns rows)))
        ≡ (let z : Czono = if b then lifted_of columns rows else lowered_set n (lifted_of columns rows) (condense (n + length rows) most (lifted_all n columns rows)) in set_with centre z.base.columns z.rows)
    by true = refl
    by false = refl

-- so what is the reduction keeps one choice of symbols for the point and all rows
pub lifted-inside : (n most : ℕ) (columns new : List (List ℤ)) (rows new_rows : List Row) → new ≡ reduced_columns n most columns rows → new_rows ≡ reduced_rows n most columns rows → KeepsAll n columns rows new new_rows
lifted-inside n most columns new rows new_rows e d q centre x inside =
    subst (λ z. InsideAll n z x q) (reduced-about n most centre columns rows ∙ (λ i. set_with centre (sym e i) (sym d i))) (lifted-reduction-keeps n most q (set_with centre columns rows) x inside)

-- the magnitudes of a state are kept, since they are those of the lifted columns
pub lifted-magnitudes : (n most : ℕ) (columns : List (List ℤ)) (rows : List Row) (i : ℕ) → i < n → row_magnitude (reduced_columns n most columns rows) i ≡ row_magnitude columns i
unfolding reduce_lifted reduce
lifted-magnitudes n most columns rows i h = by (nat_le (length columns) most) refl
  where
    z : Czono
    z = lifted_of columns rows

    m : ℕ
    m = n + length rows

    lifted : List (List ℤ)
    lifted = lifted_all n columns rows

    by : (b : Bool) → nat_le (length columns) most ≡ b
        → row_magnitude (let y : Czono = if b then z else lowered_set n z (condense m most lifted) in y.base.columns) i ≡ row_magnitude columns i
    by true e = refl
    by false e =
        let long = length-lifted n z in
        let not_few : nat_le (length lifted) most ≡ false = ap (λ k. nat_le k most) long ∙ e in
        let made = condense m most lifted in
        ap (λ k. total k (λ t. magnitude (column_entry (map (take n) made) i t))) (length-map made (take n))
        ∙ total-same (length made) (λ t. magnitude (column_entry (map (take n) made) i t)) (λ t. magnitude (column_entry made i t))
        (λ t l. ap magnitude (ap (λ c. at c i) (get_or-map (take n) made t [] [] l) ∙ get_or-take n (get_or made t []) i (pos 0) h))
        ∙ ap (λ b. row_magnitude (if b then lifted else made) i) (sym not_few)
        ∙ reduction-keeps-magnitudes m most lifted i (omega arith)
        ∙ ap (λ k. total k (λ t. magnitude (column_entry lifted i t))) long
        ∙ total-same (length columns) (λ t. magnitude (column_entry lifted i t)) (λ t. magnitude (column_entry columns i t))
        (λ t l. ap magnitude (column-lifted n z t l i (omega arith) ∙ joined-before n (λ i. column_entry columns i t) (λ r. at (row_at rows r).coefficients t) i h))

-- the marked columns are those that stay with their coefficients, and there is room for so many
pub lifted-stays : (n : ℕ) (columns : List (List ℤ)) (rows : List Row) (keys : List ℤ) (room : ℕ) (marks : List Bool) → length columns ≤ 128 → (items : List ℤ) → keys ≡ items
    → length items ≡ length columns → IsOrdered (length columns) (at items) (key_at (lifted_all n columns rows)) → marks ≡ ranked_below keys room
    → ((t : ℕ) → t < length columns → marked marks t ≡ stays (lifted_all n columns rows) room t) × (length (places (marked marks) (length columns)) ≤ room)
lifted-stays n columns rows keys room marks few items same long order is =
    let lifted = lifted_all n columns rows in
    let wide = length-lifted n (lifted_of columns rows) in
    let stay : (t : ℕ) → t < length lifted → marked marks t ≡ stays lifted room t =
    marked-stays lifted keys room marks (omega arith) (ap length same ∙ long ∙ sym wide)
    (subst (λ k. IsOrdered k (at keys) (key_at lifted)) (sym wide) (subst (λ ks. IsOrdered (length columns) (at ks) (key_at lifted)) (sym same) order)) is in
    ((λ t h. stay t (omega arith)), subst (λ k. length (places (marked marks) k) ≤ room) wide (marked-few lifted room (marked marks) stay))
