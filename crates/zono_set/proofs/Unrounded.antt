-- A row that surely spreads a set: what makes up for the rounding adds no less than the rounding takes away, so the unrounded shares bound the sum of the radii from below.
use Rattle.std.proofs.Common.{◌≡◌, ℕ, ◌+◌, ◌*◌, ◌<◌, ◌≤◌, ◌⊎◌, ⊎_elim, List, [], ◌∷◌, length, ℤ, pos, ◌+ℤ◌, ◌-ℤ◌, ◌*ℤ◌, ◌≤ℤ◌, ◌<ℤ◌, unsigned_abs, refl, sym, ap, ◌∙◌, arith}
use Rattle.std.proofs.lemmas.Int.{ints}
use Rattle.std.proofs.lemmas.List.FromFn.{fill_by_all}
use Rattle.std.proofs.lemmas.List.Sums.{get_or-le-sum_by}
use Rattle.std.specs.List.{sum_by}
use Rattle.set_rules.specs.Sum.{total, magnitude}
use Rattle.set_rules.specs.Columns.{at, column_entry, row_magnitude}
use Rattle.set_rules.specs.Zono.{Zono}
use Rattle.set_rules.specs.Rows.{Row}
use Rattle.set_rules.specs.Round.{unit, rnd, residue}
use Rattle.set_rules.specs.Gain.{substitution, spread}
use Rattle.set_rules.proofs.Sums.{total-more, total-same, total-add, total-scale, total-mono, total-magnitudes-low, magnitude-mul, magnitude-le-total}
use Rattle.set_rules.proofs.Rounds.{ceil_s-least}
use Rattle.set_rules.proofs.SubstitutionHolds.{size-substitution}
use Rattle.fixed_mat.proofs.Fits.{total-prefix}
use Rattle.zono_set.proofs.Bound.{residue-half, sum_by-tabulate}
use Rattle.zono_set.proofs.Taken.{nothing-at, nothing-past}

-- what is left of an entry, and what the rounding leaves, make up for what is left unrounded
left-unrounded : (g p : ℤ) → magnitude (pos unit *ℤ g -ℤ p) ≤ℤ (pos unit *ℤ magnitude (g -ℤ rnd p) +ℤ residue p)
unfolding residue
left-unrounded g p = by g p (rnd p)
  where
    by : (g p r : ℤ) → magnitude (pos unit *ℤ g -ℤ p) ≤ℤ (pos unit *ℤ magnitude (g -ℤ r) +ℤ magnitude (p -ℤ pos unit *ℤ r))
    by g p r = omega (arith, ints)

-- a list's end
at-past : (xs : List ℤ) → at xs (length xs) ≡ pos 0
at-past [] = nothing-at 0
at-past (x ∷ xs) = at-past xs

module _ (gains a : List ℤ) (z : Zono) where
  -- what is left of the entries, unrounded, in units of a unit
  abbrev raw : ℕ → ℕ → ℤ
  raw i t = pos unit *ℤ column_entry z.columns i t -ℤ at gains i *ℤ at a t

  -- its magnitudes in state i: over the columns, and of a new symbol
  abbrev pub raw_size : ℕ → ℤ
  raw_size i = total (length z.columns) (λ t. magnitude (raw i t)) +ℤ magnitude (at gains i) *ℤ magnitude (at a (length z.columns))

  module _ (long : (length a ≡ length z.columns) ⊎ (length a ≡ length z.columns + 1)) where
    raw_size-is : (i : ℕ) → raw_size i ≡ total (length a) (λ t. magnitude (raw i t))
    raw_size-is i = ⊎_elim
        (λ e. let none = ap magnitude (ap (at a) (sym e) ∙ at-past a) in
        (λ ι. total (length z.columns) (λ t. magnitude (raw i t)) +ℤ magnitude (at gains i) *ℤ none ι)
        ∙ nothing (total (length z.columns) (λ t. magnitude (raw i t))) (magnitude (at gains i))
        ∙ ap (λ m. total m (λ t. magnitude (raw i t))) (sym e))
        (λ e. (λ ι. total (length z.columns) (λ t. magnitude (raw i t)) +ℤ (last (at gains i) (at a (length z.columns)) ∙ ap (λ v. magnitude (pos unit *ℤ v -ℤ at gains i *ℤ at a (length z.columns))) (sym (nothing-past z.columns i))) ι)
        ∙ sym (total-more (length z.columns) (λ t. magnitude (raw i t)))
        ∙ ap (λ m. total m (λ t. magnitude (raw i t))) (sym e))
        long
      where
        nothing : (x y : ℤ) → x +ℤ y *ℤ pos 0 ≡ x
        nothing x y = omega (arith, ints)

        same : (p : ℤ) → magnitude p ≡ magnitude (pos unit *ℤ pos 0 -ℤ p)
        same p = omega (arith, ints)

        last : (l v : ℤ) → magnitude l *ℤ magnitude v ≡ magnitude (pos unit *ℤ pos 0 -ℤ l *ℤ v)
        last l v = sym (magnitude-mul l v) ∙ same (l *ℤ v)

    module _ (n : ℕ) (b : ℤ) where
      abbrev row : Row
      row = record { coefficients = a; right = b }

      abbrev new : Zono
      new = substitution n gains row z

      abbrev left : ℕ → ℕ → ℤ
      left i t = column_entry z.columns i t -ℤ rnd (at gains i *ℤ at a t)

      -- each state then spreads no less
      state-spreads : (i : ℕ) → i < n → raw_size i ≤ℤ (pos unit *ℤ row_magnitude new.columns i)
      state-spreads i h =
          let lost : ℕ → ℤ = λ t. residue (at gains i *ℤ at a t) in
          let of_right = residue (at gains i *ℤ b) in
          let each = total-mono (length a) (λ t. magnitude (raw i t)) (λ t. pos unit *ℤ magnitude (left i t) +ℤ lost t) (λ t _. left-unrounded (column_entry z.columns i t) (at gains i *ℤ at a t)) in
          let split = total-add (length a) (λ t. pos unit *ℤ magnitude (left i t)) lost in
          let scale = total-scale (length a) (pos unit) (λ t. magnitude (left i t)) in
          let covers = (ceil_s-least (of_right +ℤ total (length a) lost)).covers in
          let low = (residue-half (at gains i *ℤ b)).0 in
          let is = size-substitution n 0 gains row z i h in
          let whole = raw_size-is i in
          omega (arith, ints, each, split, scale, covers, low, is, whole)

      -- so where they add up to more than the sum of all radii, that sum grows
      pub spreads : (pos unit *ℤ spread n z) <ℤ total n raw_size → spread n z <ℤ spread n new
      spreads more =
          let most = total-mono n raw_size (λ j. pos unit *ℤ row_magnitude new.columns j) state-spreads in
          let scale = total-scale n (pos unit) (row_magnitude new.columns) in
          by (spread n z) (spread n new) (total n raw_size) (total n (λ j. pos unit *ℤ row_magnitude new.columns j)) more most scale
        where
          by : (x y s t : ℤ) → (pos unit *ℤ x) <ℤ s → s ≤ℤ t → t ≡ pos unit *ℤ y → x <ℤ y
          by x y s t h₁ h₂ h₃ = omega (arith, ints)

-- the magnitudes of a list's numbers
sum-of : (a : List ℤ) → pos (sum_by unsigned_abs a) ≡ total (length a) (λ t. magnitude (at a t))
sum-of a = ap (λ xs. pos (sum_by unsigned_abs xs)) (fill_by_all (at a) a (length a) (pos 0) refl (λ k h. refl)) ∙ sum_by-tabulate (length a) (at a)

-- where they add up to a number that fits 64 bits, so does each
pub number-narrow : (a : List ℤ) (t : ℕ) → t < length a → sum_by unsigned_abs a ≤ 9_000_000_000_000_000_000 → unsigned_abs (at a t) ≤ 9_000_000_000_000_000_000
number-narrow a t h most = let one = get_or-le-sum_by unsigned_abs a t (pos 0) h in omega arith

-- where the magnitudes of the entries and of the shares add up to a number that fits 64 bits, so does all that is computed of them
module _ (k : ℕ) (g : ℕ → ℤ) (gain : ℤ) (a : List ℤ) (few : k ≤ length a)
    (sizes : (pos unit *ℤ total k (λ t. magnitude (g t)) +ℤ pos (unsigned_abs gain * sum_by unsigned_abs a)) ≤ℤ pos 9_000_000_000_000_000_000) where
  shares-within : total k (λ t. magnitude (gain *ℤ at a t)) ≤ℤ pos (unsigned_abs gain * sum_by unsigned_abs a)
  shares-within =
      let first = total-prefix k (length a) (λ t. gain *ℤ at a t) few in
      let is = total-same (length a) (λ t. magnitude (gain *ℤ at a t)) (λ t. magnitude gain *ℤ magnitude (at a t)) (λ t _. magnitude-mul gain (at a t))
      ∙ total-scale (length a) (magnitude gain) (λ t. magnitude (at a t)) ∙ ap (λ s. magnitude gain *ℤ s) (sym (sum-of a)) in
      omega (arith, ints, first, is)

  entries-are : total k (λ t. magnitude (pos unit *ℤ g t)) ≡ pos unit *ℤ total k (λ t. magnitude (g t))
  entries-are = total-same k (λ t. magnitude (pos unit *ℤ g t)) (λ t. pos unit *ℤ magnitude (g t)) (λ t _. magnitude-mul (pos unit) (g t)) ∙ total-scale k (pos unit) (λ t. magnitude (g t))

  pub entry-narrow : (t : ℕ) → t < k → unsigned_abs (pos unit *ℤ g t) ≤ 9_000_000_000_000_000_000
  entry-narrow t h = let one = magnitude-le-total k t (λ t. pos unit *ℤ g t) h in let is = entries-are in omega (arith, ints, one, is, sizes)

  pub share-narrow : (t : ℕ) → t < k → unsigned_abs (gain *ℤ at a t) ≤ 9_000_000_000_000_000_000
  share-narrow t h =
      let one = magnitude-le-total k t (λ t. gain *ℤ at a t) h in
      let all = shares-within in
      let low = total-magnitudes-low k g in
      omega (arith, ints, one, all, low, sizes)

  pub all-narrow : total k (λ t. magnitude (pos unit *ℤ g t -ℤ gain *ℤ at a t)) ≤ℤ pos 9_000_000_000_000_000_000
  all-narrow =
      let each = total-mono k (λ t. magnitude (pos unit *ℤ g t -ℤ gain *ℤ at a t)) (λ t. magnitude (pos unit *ℤ g t) +ℤ magnitude (gain *ℤ at a t)) (λ t _. one (pos unit *ℤ g t) (gain *ℤ at a t)) in
      let split = total-add k (λ t. magnitude (pos unit *ℤ g t)) (λ t. magnitude (gain *ℤ at a t)) in
      let shares = shares-within in
      let is = entries-are in
      omega (arith, ints, each, split, shares, is, sizes)
    where
      one : (x y : ℤ) → magnitude (x -ℤ y) ≤ℤ (magnitude x +ℤ magnitude y)
      one x y = omega (arith, ints)

  pub some-narrow : (j : ℕ) → j ≤ k → total j (λ t. magnitude (pos unit *ℤ g t -ℤ gain *ℤ at a t)) ≤ℤ pos 9_000_000_000_000_000_000
  some-narrow j h = let first = total-prefix j k (λ t. pos unit *ℤ g t -ℤ gain *ℤ at a t) h in let all = all-narrow in omega (arith, ints, first, all)

  pub raw-narrow : (t : ℕ) → t < k → unsigned_abs (pos unit *ℤ g t -ℤ gain *ℤ at a t) ≤ 9_000_000_000_000_000_000
  raw-narrow t h = let one = magnitude-le-total k t (λ t. pos unit *ℤ g t -ℤ gain *ℤ at a t) h in let all = all-narrow in omega (arith, ints, one, all)
