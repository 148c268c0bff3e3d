-- Rows stay aligned with the columns, and a set with room for one more row keeps each point.
use Rattle.std.proofs.Common.{◌≡◌, ℕ, suc, ◌+◌, ◌-◌, ◌<◌, ◌⊎◌, ⊎_elim, List, [], ◌∷◌, ◌++◌, length, map, replicate, get_or, nat_le, nat_lt, Bool, true, false, ℤ, pos, if◌then◌else◌, refl, sym, ap, ◌∙◌, arith, subst, length-append}
use Rattle.std.proofs.lemmas.List.{get_or_append_left, get_or-append_right, length-map, get_or-map, length-replicate}
use Rattle.set_rules.specs.Columns.{at}
use Rattle.set_rules.specs.Zono.{Zono}
use Rattle.set_rules.specs.Rows.{Row, Czono, no_row, row_at, widened_by, InsideAll, IsAligned}
use Rattle.set_rules.specs.Reduce.{condense, lifted_columns, lowered_set, reduce_lifted}
use Rattle.set_rules.specs.Gain.{gain, is_used}
use Rattle.set_rules.specs.Keep.{cut, drop_oldest, used_up, without_oldest}
use Rattle.set_rules.proofs.ImageSets.{length-tabulate}
use Rattle.set_rules.proofs.LiftedHolds.{length-lowered, row-lowered, lifted-reduction-keeps}
use Rattle.set_rules.proofs.SubstitutionHolds.{length-substitution}
use Rattle.set_rules.proofs.RowsHold.{drop-keeps}
use Rattle.observer_step.specs.Sets.{settle, with_room}

lowered-aligned : (n : ℕ) (z : Czono) (columns : List (List ℤ)) → IsAligned (lowered_set n z columns)
lowered-aligned n z columns r h =
    let here : r < length z.rows = subst (λ m. r < m) (length-tabulate (length z.rows) (λ r. let row : Row = record { coefficients = map (λ column. at column (n + r)) columns; right = (row_at z.rows r).right } in row)) h in
    ap (λ (row : Row). length row.coefficients) (row-lowered n z 0 [] columns r here) ∙ length-map columns (λ column. at column (n + r)) ∙ sym (length-lowered n z 0 [] columns)

pub reduce_lifted-aligned : (n most : ℕ) (z : Czono) → IsAligned z → IsAligned (reduce_lifted n most z)
unfolding reduce_lifted
reduce_lifted-aligned n most z aligned = by (nat_le (length z.base.columns) most)
  where
    by : (b : Bool) → IsAligned (if b then z else lowered_set n z (condense (n + length z.rows) most (lifted_columns n z)))
    by true = aligned
    by false = lowered-aligned n z (condense (n + length z.rows) most (lifted_columns n z))

-- rows that are widened by as many zeros as there are new columns
pub widened-aligned : (k j : ℕ) (base : Zono) (rows : List Row) → ((r : ℕ) → r < length rows → length (row_at rows r).coefficients ≡ k) → length base.columns ≡ k + j → IsAligned (record { base = base; rows = map (widened_by j) rows })
widened-aligned k j base rows aligned e r h =
    let here : r < length rows = subst (λ m. r < m) (length-map rows (widened_by j)) h in
    ap (λ (row : Row). length row.coefficients) (get_or-map (widened_by j) rows r no_row no_row here)
    ∙ length-append (row_at rows r).coefficients (replicate j (pos 0)) ∙ (λ i. aligned r here i + length-replicate j (pos 0) i) ∙ sym e

pub cut-aligned : (n : ℕ) (row : Row) (z : Czono) → length row.coefficients ≡ length z.base.columns + 1 → IsAligned z → IsAligned (cut n row z)
unfolding cut
cut-aligned n row z wide aligned r h =
    ⊎_elim
    (λ (l : r < length z.rows).
    let short : r < length (map (widened_by 1) z.rows) = omega (arith, count-widened) in
    ap (λ (row : Row). length row.coefficients) (get_or_append_left (map (widened_by 1) z.rows) (row ∷ []) no_row r short)
    ∙ widened-aligned (length z.base.columns) 1 new z.rows aligned long r short)
    (λ (l : r ≡ length z.rows).
    let back : r - length z.rows ≡ 0 = omega arith in
    ap (λ (row : Row). length row.coefficients) (get_or-append_right (map (widened_by 1) z.rows) (row ∷ []) (length z.rows) r no_row count-widened (omega arith) ∙ ap (λ u. get_or (row ∷ []) u no_row) back) ∙ wide ∙ sym long)
    (side r (length z.rows) (subst (λ m. r < m) (length-append (map (widened_by 1) z.rows) (row ∷ []) ∙ ap (λ m. m + 1) count-widened) h))
  where
    new : Zono
    new = record { centre = z.base.centre; columns = z.base.columns ++ replicate n (pos 0) ∷ [] }

    long : length (z.base.columns ++ replicate n (pos 0) ∷ []) ≡ length z.base.columns + 1
    long = length-append z.base.columns (replicate n (pos 0) ∷ [])

    count-widened : length (map (widened_by 1) z.rows) ≡ length z.rows
    count-widened = length-map z.rows (widened_by 1)

    side : (r m : ℕ) → r < m + 1 → (r < m) ⊎ (r ≡ m)
    side r m h = grind arith

drop-aligned : (n : ℕ) (base : Zono) (rows : List Row) → IsAligned (record { base = base; rows = rows }) → IsAligned (without_oldest n base rows)
unfolding without_oldest
drop-aligned n base [] aligned = aligned
drop-aligned n base (row ∷ rows) aligned = by (is_used n base (used_up n row base))
  where
    by : (b : Bool) → IsAligned (if b then record { base = used_up n row base; rows = map (widened_by n) rows } else record { base = base; rows = rows })
    by true = widened-aligned (length row.coefficients) n (used_up n row base) rows (λ r h. aligned (suc r) (omega arith) ∙ sym (aligned 0 (omega arith)))
        (length-substitution n 0 (gain n base.columns row.coefficients) row base)
    by false = λ r h. aligned (suc r) (omega arith)

pub with_room-aligned : (n : ℕ) (z : Czono) → IsAligned z → IsAligned (with_room n z)
with_room-aligned n z aligned = by (nat_lt (length z.rows) 6)
  where
    by : (b : Bool) → IsAligned (settle n (if b then z else drop_oldest n z))
    by true = reduce_lifted-aligned n 64 z aligned
    by false = reduce_lifted-aligned n 64 (drop_oldest n z) (drop-aligned n z.base z.rows aligned)

pub with_room-keeps : (n q : ℕ) (z : Czono) (x : List ℤ) → IsAligned z → InsideAll n z x q → InsideAll n (with_room n z) x q
with_room-keeps n q z x aligned inside = by (nat_lt (length z.rows) 6)
  where
    by : (b : Bool) → InsideAll n (settle n (if b then z else drop_oldest n z)) x q
    by true = lifted-reduction-keeps n 64 q z x inside
    by false = lifted-reduction-keeps n 64 q (drop_oldest n z) x (drop-keeps n q z x aligned inside)

-- ---- how many rows and columns there are

pub reduce_lifted-count : (n most : ℕ) (z : Czono) → length (reduce_lifted n most z).rows ≡ length z.rows
unfolding reduce_lifted
reduce_lifted-count n most z = by (nat_le (length z.base.columns) most)
  where
    by : (b : Bool) → length (let y : Czono = if b then z else lowered_set n z (condense (n + length z.rows) most (lifted_columns n z)) in y.rows) ≡ length z.rows
    by true = refl
    by false = length-tabulate (length z.rows) (λ r. let row : Row = record { coefficients = map (λ column. at column (n + r)) (condense (n + length z.rows) most (lifted_columns n z)); right = (row_at z.rows r).right } in row)

pub drop-count : (n : ℕ) (base : Zono) (rows : List Row) → length (without_oldest n base rows).rows ≡ length rows - 1
unfolding without_oldest
drop-count n base [] = refl
drop-count n base (row ∷ rows) = by (is_used n base (used_up n row base))
  where
    by : (b : Bool) → length (let y : Czono = if b then record { base = used_up n row base; rows = map (widened_by n) rows } else record { base = base; rows = rows } in y.rows) ≡ length (row ∷ rows) - 1
    by true = let same = length-map rows (widened_by n) in omega arith
    by false = omega arith

pub cut-columns : (n : ℕ) (row : Row) (z : Czono) → length (cut n row z).base.columns ≡ length z.base.columns + 1
unfolding cut
cut-columns n row z = length-append z.base.columns (replicate n (pos 0) ∷ [])
