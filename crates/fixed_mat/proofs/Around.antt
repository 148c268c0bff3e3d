-- Rows in a ring: which slot each is in, and what a change of a slot makes of them.
use Rattle.std.proofs.Common.{◌≡◌, ◌≢◌, ℕ, ◌+◌, ◌-◌, ◌%◌, ◌≤◌, ◌<◌, ◌⊎◌, inl, inr, List, [], ◌∷◌, ◌++◌, drop, set, length, get_or, get_or-drop, length-drop, sym, ap, ◌∙◌, arith, mod-eq_of_lt}
use native.Mathlib.Nat.{mod-eq-sub-mod}
use Rattle.std.proofs.Math.Nat.{mod-add-mod}
use Rattle.std.proofs.lemmas.Bool.{cases_lt}
use Rattle.std.proofs.lemmas.List.{length-set, get_or_default, get_or-set_same, get_or-set_other}
use Rattle.std.proofs.lemmas.List.FromFn.{length-map-range_with_len, get_or-map-range_with_len, map-range_with_len_more, fill_by_all}
use Rattle.set_rules.specs.Rows.{Row, row_at, no_row}
use Rattle.fixed_mat.specs.Ring.{around}

-- a slot past the last comes round once at most
pub comes_round : (j : ℕ) → j < 12 → ((j < 6) × (j % 6 ≡ j)) ⊎ ((6 ≤ j) × (j % 6 ≡ j - 6))
comes_round j below = elim (cases_lt j 6) [
  | inl low ↦ inl (low, mod-eq_of_lt low)
  | inr high ↦ inr (high, mod-eq-sub-mod high ∙ mod-eq_of_lt (omega arith))
]

pub slot_within : (first r : ℕ) → first < 6 → r < 6 → (first + r) % 6 < 6
slot_within first r starts low = elim (comes_round (first + r) (omega arith)) [
  | inl before ↦ omega arith
  | inr past ↦ omega arith
]

-- two rows are in two slots
slots_apart : (first r k : ℕ) → first < 6 → r < 6 → k < 6 → k ≢ r → (first + k) % 6 ≢ (first + r) % 6
slots_apart first r k starts low high apart same = elim (comes_round (first + r) (omega arith)) [
  | inl before ↦ elim (comes_round (first + k) (omega arith)) [
    | inl b ↦ apart (omega arith)
    | inr p ↦ apart (omega arith)
  ]
  | inr past ↦ elim (comes_round (first + k) (omega arith)) [
    | inl b ↦ apart (omega arith)
    | inr p ↦ apart (omega arith)
  ]
]

pub length-around : (first count : ℕ) (slots : List Row) → length (around first count slots) ≡ count
length-around first count slots = length-map-range_with_len (λ r. row_at slots ((first + r) % 6)) 0 count

-- row r is in slot (first + r) % 6
pub row-around : (first count r : ℕ) (slots : List Row) (d : Row) → r < count → get_or (around first count slots) r d ≡ row_at slots ((first + r) % 6)
row-around first count r slots d below = get_or-map-range_with_len (λ k. row_at slots ((first + k) % 6)) 0 count r r d below (omega arith)

-- what callers see as row r, which is one of the rows that are kept
pub below_count : (first count r : ℕ) (slots rows : List Row) → around first count slots ≡ rows → r < length rows → r < count
below_count first count r slots rows seen below =
    let long = length-around first count slots in
    let same = ap length seen in
    omega arith

pub seen_row : (first count r : ℕ) (slots rows : List Row) (d : Row) → first < 6 → count ≤ 6 → length slots ≡ 6 → around first count slots ≡ rows → r < length rows
    → get_or slots ((first + r) % 6) d ≡ row_at rows r
seen_row first count r slots rows d starts few six seen below =
    let low = below_count first count r slots rows seen below in
    let within = slot_within first r starts (omega arith) in
    get_or_default slots ((first + r) % 6) d no_row (omega arith) ∙ sym (row-around first count r slots no_row low) ∙ ap (λ seen_rows. row_at seen_rows r) seen

-- without the oldest row
pub around_dropped : (first count : ℕ) (slots : List Row) → 0 < count → around ((first + 1) % 6) (count - 1) slots ≡ drop 1 (around first count slots)
around_dropped first count slots some =
    let long = length-around first count slots in
    let rest = length-drop 1 (around first count slots) in
    sym (fill_by_all (λ r. row_at slots (((first + 1) % 6 + r) % 6)) (drop 1 (around first count slots)) (count - 1) no_row (omega arith) (λ k below.
    let next : first + (1 + k) ≡ first + 1 + k = omega arith in
    get_or-drop 1 (around first count slots) k no_row
    ∙ row-around first count (1 + k) slots no_row (omega arith)
    ∙ ap (λ j. row_at slots (j % 6)) next
    ∙ ap (row_at slots) (sym (mod-add-mod (first + 1) 6 k))))

-- with another row in the slot of row r
pub around_set : (first count r : ℕ) (slots : List Row) (v : Row) → first < 6 → count ≤ 6 → length slots ≡ 6 → r < count
    → around first count (set slots ((first + r) % 6) v) ≡ set (around first count slots) r v
around_set first count r slots v starts few six below =
    let made = set slots ((first + r) % 6) v in
    let within = slot_within first r starts (omega arith) in
    let long = length-set (around first count slots) r v ∙ length-around first count slots in
    sym (fill_by_all (λ k. row_at made ((first + k) % 6)) (set (around first count slots) r v) count no_row long (λ k low. entry k low (side k)))
  where
    side : (k : ℕ) → (k ≡ r) ⊎ (k ≢ r)
    side k = elim (cases_lt k r) [
      | inl less ↦ inr (λ same. omega arith)
      | inr more ↦ elim (cases_lt r k) [
        | inl greater ↦ inr (λ same. omega arith)
        | inr most ↦ inl (omega arith)
      ]
    ]

    entry : (k : ℕ) → k < count → (k ≡ r) ⊎ (k ≢ r) → get_or (set (around first count slots) r v) k no_row ≡ row_at (set slots ((first + r) % 6) v) ((first + k) % 6)
    entry k low s = elim s [
      | inl same ↦
          let within = slot_within first r starts (omega arith) in
          ap (λ j. get_or (set (around first count slots) r v) j no_row) same
          ∙ get_or-set_same (around first count slots) r v no_row (let long = length-around first count slots in omega arith)
          ∙ sym (get_or-set_same slots ((first + r) % 6) v no_row (omega arith))
          ∙ ap (λ j. row_at (set slots ((first + r) % 6) v) ((first + j) % 6)) (sym same)
      | inr apart ↦
          get_or-set_other (around first count slots) r k v no_row apart
          ∙ row-around first count k slots no_row low
          ∙ sym (get_or-set_other slots ((first + r) % 6) ((first + k) % 6) v no_row (slots_apart first r k starts (omega arith) (omega arith) apart))
    ]

-- with one more row, in the slot behind the others
pub around_pushed : (first count : ℕ) (slots : List Row) (v : Row) → first < 6 → count < 6 → length slots ≡ 6
    → around first (count + 1) (set slots ((first + count) % 6) v) ≡ around first count slots ++ v ∷ []
around_pushed first count slots v starts room six =
    let made = set slots ((first + count) % 6) v in
    let within = slot_within first count starts room in
    map-range_with_len_more (λ k. row_at made ((first + k) % 6)) 0 count count (omega arith)
    ∙ ap (λ rows. rows ++ row_at made ((first + count) % 6) ∷ [])
    (sym (fill_by_all (λ k. row_at made ((first + k) % 6)) (around first count slots) count no_row (length-around first count slots) (λ k low.
    row-around first count k slots no_row low
    ∙ sym (get_or-set_other slots ((first + count) % 6) ((first + k) % 6) v no_row (slots_apart first count k starts room (omega arith) (λ same. omega arith))))))
    ∙ ap (λ row. around first count slots ++ row ∷ []) (get_or-set_same slots ((first + count) % 6) v no_row (omega arith))
