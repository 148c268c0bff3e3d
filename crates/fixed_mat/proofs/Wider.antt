-- Rows that are changed one after another.
use Rattle.std.proofs.Common.{◌≡◌, ℕ, suc, ◌+◌, ◌-◌, ◌≤◌, ◌<◌, ◌⊎◌, ⊎_elim, Bool, true, false, nat_eq, if◌then◌else◌, List, [], ◌∷◌, ◌++◌, map, take, drop, set, length, length-append, replicate, pos, refl, sym, ap, ◌∙◌, arith, subst, append-nil, drop_of_length-le, get_or, get_or-drop, length-drop, add-zero, ℤ}
use Rattle.std.proofs.Math.Seq.{drop-cons, set-append_seam}
use Rattle.std.proofs.lemmas.Bool.Decides.{nat_tests}
use Rattle.std.proofs.lemmas.List.{length-replicate, length-map, take_all, append_assoc, get_or_append_left, get_or-append_right, get_or-replicate}
use Rattle.std.proofs.lemmas.List.Elements.{All-map}
use Rattle.std.proofs.lemmas.List.FromFn.{length-map-range_with_len, get_or-map-range_with_len, map-range_with_len_more, fill_by_all}
use Rattle.set_rules.specs.Symbols.{diagonal}
use Rattle.set_rules.specs.Columns.{at, tabulate}
use Rattle.set_rules.specs.Reduce.{places}
use Rattle.set_rules.specs.Rows.{Row, no_row, row_at, widened_by}
use Rattle.fixed_mat.specs.Rows.{Table, IsRow, IsTable, kept_at, lost_at, condensed_row, condensed_rows}

IsRow-widened : (w by : ℕ) (r : Row) → IsRow w r → IsRow (w + by) (widened_by by r)
IsRow-widened w by r h =
    let long = length-append r.coefficients (replicate by (pos 0)) in
    let zeros = length-replicate by (pos 0) in
    let wide = h.wide in
    record { wide = omega arith; right_small = h.right_small }

-- a table whose rows were widened one after another
pub IsTable-widened : (w by i : ℕ) (rows made : List Row) → (let t : Table = record { width = w; rows = rows } in IsTable t) → w + by ≤ 128
    → length rows ≤ i → made ≡ map (widened_by by) (take i rows) ++ drop i rows
    → let t : Table = record { width = w + by; rows = made } in IsTable t
IsTable-widened w by i rows made h room end e =
    let all : made ≡ map (widened_by by) rows =
    e ∙ (λ ι. map (widened_by by) (take_all i rows end ι) ++ drop_of_length-le rows end ι) ∙ append-nil (map (widened_by by) rows) in
    let few = h.few in
    let same = length-map rows (widened_by by) in
    subst (λ rs. let t : Table = record { width = w + by; rows = rs } in IsTable t) (sym all) (record {
      few = omega arith;
      narrow = room;
      each = All-map (IsRow (w + by)) (widened_by by) rows (λ k d l. IsRow-widened w by (get_or rows k d) (h.each k d l));
    })

-- a loop that writes f r in the place of item r
pub tabulated_more : {A : Type 0} (f : ℕ → A) (old now : List A) (r : ℕ) (v : A) → r < length old → now ≡ tabulate r f ++ drop r old → v ≡ f r
    → set now r v ≡ tabulate (r + 1) f ++ drop (r + 1) old
tabulated_more f old now r v below so_far is =
    let long : length (tabulate r f) ≡ r = length-map-range_with_len f 0 r in
    let next : r + 1 ≡ suc r = omega arith in
    ap (λ xs. set xs r v) (so_far ∙ ap (λ xs. tabulate r f ++ xs) (drop-cons old r (get_or old r v) below))
    ∙ ap (λ k. set (tabulate r f ++ get_or old r (get_or old r v) ∷ drop (suc r) old) k v) (sym long)
    ∙ set-append_seam (tabulate r f) (get_or old r (get_or old r v)) (drop (suc r) old) v
    ∙ ap (λ x. tabulate r f ++ x ∷ drop (suc r) old) is
    ∙ sym (append_assoc (tabulate r f) (f r ∷ []) (drop (suc r) old))
    ∙ ap (λ xs. xs ++ drop (suc r) old) (sym (map-range_with_len_more f 0 r r (omega arith)))
    ∙ ap (λ k. tabulate (r + 1) f ++ drop k old) (sym next)

-- zeros but for one place, made of zeros, the number there and zeros again
pub spread_out : (more place : ℕ) (v : ℤ) → place < more → replicate place (pos 0) ++ (v ∷ replicate (more - place - 1) (pos 0)) ≡ tabulate more (diagonal (λ _. v) place)
spread_out more place v h =
    let before = length-replicate place (pos 0) in
    let after = length-replicate (more - place - 1) (pos 0) in
    let whole = length-append (replicate place (pos 0)) (v ∷ replicate (more - place - 1) (pos 0)) in
    fill_by_all (diagonal (λ _. v) place) (replicate place (pos 0) ++ (v ∷ replicate (more - place - 1) (pos 0))) more (pos 0) (omega arith)
    (λ k m. entry k m (side k))
  where
    side : (k : ℕ) → (k < place) ⊎ ((k ≡ place) ⊎ (place < k))
    side k = grind arith

    entry : (k : ℕ) → k < more → (k < place) ⊎ ((k ≡ place) ⊎ (place < k)) → get_or (replicate place (pos 0) ++ (v ∷ replicate (more - place - 1) (pos 0))) k (pos 0) ≡ diagonal (λ _. v) place k
    entry k m s = ⊎_elim
        (λ (l : k < place).
        let no : nat_eq k place ≡ false = grind (arith, nat_tests) in
        get_or_append_left (replicate place (pos 0)) (v ∷ replicate (more - place - 1) (pos 0)) (pos 0) k (let n = length-replicate place (pos 0) in omega arith)
        ∙ get_or-replicate place k (pos 0) (pos 0) l ∙ ap (λ b. if b then v else pos 0) (sym no))
        (λ rest. ⊎_elim
        (λ (is : k ≡ place).
        let yes : nat_eq k place ≡ true = grind (arith, nat_tests) in
        get_or-append_right (replicate place (pos 0)) (v ∷ replicate (more - place - 1) (pos 0)) place k (pos 0) (length-replicate place (pos 0)) (omega arith)
        ∙ ap (λ u. get_or (v ∷ replicate (more - place - 1) (pos 0)) u (pos 0)) (let e : k - place ≡ 0 = omega arith in e) ∙ ap (λ b. if b then v else pos 0) (sym yes))
        (λ (l : place < k).
        let no : nat_eq k place ≡ false = grind (arith, nat_tests) in
        get_or-append_right (replicate place (pos 0)) (v ∷ replicate (more - place - 1) (pos 0)) place k (pos 0) (length-replicate place (pos 0)) (omega arith)
        ∙ get_or-append_right (v ∷ []) (replicate (more - place - 1) (pos 0)) 1 (k - place) (pos 0) refl (omega arith)
        ∙ get_or-replicate (more - place - 1) (k - place - 1) (pos 0) (pos 0) (omega arith) ∙ ap (λ b. if b then v else pos 0) (sym no))
        rest)
        s

-- the row, once its numbers are kept and followed by those
pub condensed : (keep : ℕ → Bool) (more place : ℕ) (row : Row) (kept wider pushed last : List ℤ) (lost : ℕ) (v : ℤ) → place < more
    → kept ≡ kept_at keep row.coefficients → pos lost ≡ lost_at keep row.coefficients → v ≡ pos lost → wider ≡ kept ++ replicate place (pos 0)
    → pushed ≡ wider ++ v ∷ [] → last ≡ pushed ++ replicate (more - place - 1) (pos 0)
    → (let new : Row = record { coefficients = last; right = row.right } in new ≡ condensed_row keep more place row)
condensed keep more place row kept wider pushed last lost v h is_kept is_lost is_v is_wider is_pushed is_last =
    let all : last ≡ kept_at keep row.coefficients ++ tabulate more (diagonal (λ _. lost_at keep row.coefficients) place) =
    is_last ∙ ap (λ xs. xs ++ replicate (more - place - 1) (pos 0)) (is_pushed ∙ (λ i. is_wider i ++ v ∷ []))
    ∙ append_assoc (kept ++ replicate place (pos 0)) (v ∷ []) (replicate (more - place - 1) (pos 0))
    ∙ append_assoc kept (replicate place (pos 0)) (v ∷ replicate (more - place - 1) (pos 0))
    ∙ ap (λ xs. kept ++ xs) (spread_out more place v h)
    ∙ (λ i. is_kept i ++ tabulate more (diagonal (λ _. (is_v ∙ is_lost) i) place)) in
    ap (λ xs. let new : Row = record { coefficients = xs; right = row.right } in new) all

-- a row of this width is condensed to one of the width that is left
IsRow-condensed : (keep : ℕ → Bool) (width count more place : ℕ) (row : Row) → IsRow width row → count ≡ length (places keep width) → IsRow (count + more) (condensed_row keep more place row)
IsRow-condensed keep width count more place row h is = record {
  wide =
      let wide = ap (λ k. length (places keep k)) h.wide in
      let kept = length-map (places keep (length row.coefficients)) (at row.coefficients) in
      let rest = length-map-range_with_len (diagonal (λ _. lost_at keep row.coefficients) place) 0 more in
      let whole = length-append (kept_at keep row.coefficients) (tabulate more (diagonal (λ _. lost_at keep row.coefficients) place)) in
      omega arith;
  right_small = h.right_small;
}

-- a table whose rows were condensed one after another
pub IsTable-condensed : (keep : ℕ → Bool) (width count n i : ℕ) (rows made : List Row) → (let t : Table = record { width = width; rows = rows } in IsTable t)
    → count ≡ length (places keep width) → count + n + length rows ≤ 128 → length rows ≤ i
    → made ≡ tabulate i (λ r. condensed_row keep (n + length rows) (n + r) (row_at rows r)) ++ drop i rows → i ≤ length rows
    → (let t : Table = record { width = count + n + length rows; rows = made } in IsTable t) × (made ≡ condensed_rows keep n rows)
IsTable-condensed keep width count n i rows made h is room end e low =
    let none = drop_of_length-le rows end in
    let last : i ≡ length rows = omega arith in
    let all : made ≡ condensed_rows keep n rows = e ∙ (λ ι. tabulate (last ι) (λ r. condensed_row keep (n + length rows) (n + r) (row_at rows r)) ++ none ι) ∙ append-nil (condensed_rows keep n rows) in
    let count_is = ap length all ∙ length-map-range_with_len (λ r. condensed_row keep (n + length rows) (n + r) (row_at rows r)) 0 (length rows) in
    let few = h.few in
    let sum : count + (n + length rows) ≡ count + n + length rows = omega arith in (
      subst (λ rs. let t : Table = record { width = count + n + length rows; rows = rs } in IsTable t) (sym all) (record {
        few = (let same = length-map-range_with_len (λ r. condensed_row keep (n + length rows) (n + r) (row_at rows r)) 0 (length rows) in omega arith);
        narrow = room;
        each = λ k d l.
            let below : k < length rows = (let same = length-map-range_with_len (λ r. condensed_row keep (n + length rows) (n + r) (row_at rows r)) 0 (length rows) in omega arith) in
            subst (IsRow (count + n + length rows)) (sym (get_or-map-range_with_len (λ r. condensed_row keep (n + length rows) (n + r) (row_at rows r)) 0 (length rows) k k d below (omega arith)))
            (subst (λ w. IsRow w (condensed_row keep (n + length rows) (n + k) (row_at rows k))) sum (IsRow-condensed keep width count (n + length rows) (n + k) (row_at rows k) (h.each k no_row below) is));
      }),
      all,
    )

-- how long the rows are meanwhile, and which stands at r
pub tabulated_long : {A : Type 0} (f : ℕ → A) (old now : List A) (r : ℕ) → r ≤ length old → now ≡ tabulate r f ++ drop r old → length now ≡ length old
tabulated_long f old now r below so_far =
    let long = ap length so_far ∙ length-append (tabulate r f) (drop r old) in
    let front = length-map-range_with_len f 0 r in
    let rest = length-drop r old in
    omega arith

pub tabulated_here : {A : Type 0} (f : ℕ → A) (old now : List A) (r : ℕ) (d : A) → now ≡ tabulate r f ++ drop r old → get_or now r d ≡ get_or old r d
tabulated_here f old now r d so_far =
    let none : r - r ≡ 0 = omega arith in
    ap (λ xs. get_or xs r d) so_far ∙ get_or-append_right (tabulate r f) (drop r old) r r d (length-map-range_with_len f 0 r) (omega arith)
    ∙ ap (λ k. get_or (drop r old) k d) none ∙ get_or-drop r old 0 d ∙ ap (λ k. get_or old k d) (add-zero r)
