-- What rounding gives of numbers that come from their bits.
use Rattle.std.proofs.Common.{◌≡◌, ℕ, ◌+◌, ◌*◌, ◌^◌, ◌<◌, ◌≤◌, List, [], ◌∷◌, ◌++◌, length, get_or, drop, set, ℤ, pos, ◌+ℤ◌, ◌-ℤ◌, ◌*ℤ◌, ◌≤ℤ◌, unsigned_abs, to_z, of_z, to_z-of_z, SFits, arith, sym, ap, ◌∙◌, subst, append_assoc}
use Rattle.std.proofs.lemmas.Int.{ints, fits_signed_from_abs}
use Rattle.std.proofs.lemmas.List.{drop_more, set_at, get_or_at}
use Rattle.std.proofs.lemmas.List.FromFn.{map-range_with_len_more, length-map-range_with_len, get_or-map-range_with_len}
use Rattle.std.proofs.lemmas.List.Elements.{All-from_get_or}
use Rattle.std.specs.List.{All}
use mir.Syntax.{w64, w128}
use Rattle.set_rules.specs.Sum.{total, magnitude}
use Rattle.set_rules.specs.Round.{rnd, residue, ceil_s}
use Rattle.set_rules.specs.Columns.{at, entry, tabulate}
use Rattle.set_rules.proofs.Sums.{total-same}
use Rattle.set_rules.proofs.Rounds.{ceil_s-within, ceil_s-least}
use Rattle.fixed_mat.proofs.Bits.{back, small_fits}

-- the rounding of an argument that is this number
module _ (argument exact r : ℤ) (is : argument ≡ exact) (small : unsigned_abs exact ≤ 8_010_000_000_000_000_000_000_000_000_000) where
  pub nearest_is : r ≡ rnd argument → r ≡ rnd exact
  nearest_is e = e ∙ ap rnd is

  pub residue_is : r ≡ residue argument → r ≡ residue exact
  residue_is e = e ∙ ap residue is

  pub nearest_small : unsigned_abs (argument -ℤ pos 1_000_000_000 *ℤ r) ≤ 500_000_000 → unsigned_abs r ≤ 8_100_000_000_000_000_000_000
  nearest_small near = by exact r small (subst (λ z. unsigned_abs (z -ℤ pos 1_000_000_000 *ℤ r) ≤ 500_000_000) is near)
    where
      by : (raw r : ℤ) → unsigned_abs raw ≤ 8_010_000_000_000_000_000_000_000_000_000 → unsigned_abs (raw -ℤ pos 1_000_000_000 *ℤ r) ≤ 500_000_000 → unsigned_abs r ≤ 8_100_000_000_000_000_000_000
      by raw r h k = omega (arith, ints)

-- a magnitude that comes from its bits
pub abs_of : (x v b : ℤ) → unsigned_abs x ≤ 10 ^ 36 → b ≡ pos (unsigned_abs (to_z w128 (of_z w128 x))) → x ≡ v → b ≡ magnitude v
abs_of x v b small e is = e ∙ ap magnitude (back x (omega arith) ∙ is)

pub abs_small : (x b : ℤ) → unsigned_abs x ≤ 20_000_000_000_000_000_000_000 → b ≡ pos (unsigned_abs (to_z w128 (of_z w128 x))) → (unsigned_abs b ≤ 20_000_000_000_000_000_000_000) × (pos 0 ≤ℤ b)
abs_small x b small e = let is = e ∙ ap magnitude (back x (omega arith)) in (omega (arith, ints), omega (arith, ints))

-- a difference of two numbers that come from their bits
pub difference_back : (x y : ℤ) → unsigned_abs x ≤ 10 ^ 36 → unsigned_abs y ≤ 10 ^ 36 → to_z w128 (of_z w128 (to_z w128 (of_z w128 x) -ℤ to_z w128 (of_z w128 y))) ≡ x -ℤ y
difference_back x y h k =
    ap (λ z. to_z w128 (of_z w128 z)) (λ i. back x (omega arith) i -ℤ back y (omega arith) i) ∙ back (x -ℤ y) (omega (arith, ints))

-- a number that is this one comes back as this one
pub fold : (z v : ℤ) → z ≡ v → unsigned_abs v ≤ 10 ^ 37 → to_z w128 (of_z w128 z) ≡ v
fold z v e h = ap (λ x. to_z w128 (of_z w128 x)) e ∙ back v h

-- a number that is not negative is its magnitude
pub natural : (r z : ℤ) → pos 0 ≤ℤ r → z ≡ r → pos (unsigned_abs z) ≡ r
natural r z low is = omega (arith, ints)

-- what the rounding leaves of one number, in 64 bits
pub left_back : (r : ℤ) → pos 0 ≤ℤ r → r ≤ℤ pos 500_000_000 → pos (unsigned_abs (to_z w128 (of_z w128 r))) ≡ r
left_back r low half = natural r (to_z w128 (of_z w128 r)) low (back r (omega (arith, ints)))

-- the sum of a bound, in 128 bits
module _ (bits : ℕ) (a : ℤ) (count : ℕ) (noise : ℤ) (hb : unsigned_abs (to_z w128 bits) ≤ 10 ^ 33) (ha : unsigned_abs a ≤ 10 ^ 33) (hc : count ≤ 128) (hn : unsigned_abs noise ≤ 10 ^ 20) where
  front : to_z w128 (of_z w128 (to_z w128 bits +ℤ to_z w128 (of_z w128 a))) ≡ to_z w128 bits +ℤ a
  front = fold _ (to_z w128 bits +ℤ a) (ap (λ z. to_z w128 bits +ℤ z) (back a (omega arith))) (omega (arith, ints))

  two : to_z w128 (of_z w128 (to_z w128 count +ℤ pos 2)) ≡ pos (count + 2)
  two = fold (to_z w128 count +ℤ pos 2) (pos (count + 2)) (omega (arith, ints)) (omega (arith, ints))

  more : to_z w128 (of_z w128 (to_z w128 (of_z w128 (to_z w128 count +ℤ pos 2)) +ℤ to_z w128 (of_z w128 noise))) ≡ pos (count + 2) +ℤ noise
  more = fold _ (pos (count + 2) +ℤ noise) (λ i. two i +ℤ back noise (omega arith) i) (omega (arith, ints))

  units : to_z w128 (of_z w128 (pos 1_000_000_000 *ℤ to_z w128 (of_z w128 (to_z w128 (of_z w128 (to_z w128 count +ℤ pos 2)) +ℤ to_z w128 (of_z w128 noise))))) ≡ pos 1_000_000_000 *ℤ (pos (count + 2) +ℤ noise)
  units = fold _ (pos 1_000_000_000 *ℤ (pos (count + 2) +ℤ noise)) (ap (λ z. pos 1_000_000_000 *ℤ z) more) (omega (arith, ints))

  pub bound_back : to_z w128 (of_z w128 (to_z w128 (of_z w128 (to_z w128 bits +ℤ to_z w128 (of_z w128 a)))
      +ℤ to_z w128 (of_z w128 (pos 1_000_000_000 *ℤ to_z w128 (of_z w128 (to_z w128 (of_z w128 (to_z w128 count +ℤ pos 2)) +ℤ to_z w128 (of_z w128 noise)))))))
      ≡ to_z w128 bits +ℤ a +ℤ pos 1_000_000_000 *ℤ (pos (count + 2) +ℤ noise)
  bound_back = fold _ (to_z w128 bits +ℤ a +ℤ pos 1_000_000_000 *ℤ (pos (count + 2) +ℤ noise)) (λ i. front i +ℤ units i) (omega (arith, ints))

  pub bound_fits : SFits w128 (to_z w128 (of_z w128 (to_z w128 bits +ℤ to_z w128 (of_z w128 a)))
      +ℤ to_z w128 (of_z w128 (pos 1_000_000_000 *ℤ to_z w128 (of_z w128 (to_z w128 (of_z w128 (to_z w128 count +ℤ pos 2)) +ℤ to_z w128 (of_z w128 noise))))))
  bound_fits = subst (SFits w128) (sym (λ i. front i +ℤ units i)) (small_fits (to_z w128 bits +ℤ a +ℤ pos 1_000_000_000 *ℤ (pos (count + 2) +ℤ noise)) (omega (arith, ints)))

-- the same with what a loop holds behind
pub sum_behind : (x : ℤ) (bits : ℕ) → unsigned_abs x ≤ 10 ^ 36 → unsigned_abs (to_z w128 bits) ≤ 10 ^ 36 → to_z w128 (of_z w128 (to_z w128 (of_z w128 x) +ℤ to_z w128 bits)) ≡ x +ℤ to_z w128 bits
sum_behind x bits h k = fold (to_z w128 (of_z w128 x) +ℤ to_z w128 bits) (x +ℤ to_z w128 bits) (ap (λ z. z +ℤ to_z w128 bits) (back x (omega arith))) (omega (arith, ints))

-- what makes up for the rounding is little where what it leaves is
pub slack_small : (left s : ℤ) → pos 0 ≤ℤ left → left ≤ℤ pos (2 * 10 ^ 12) → s ≡ ceil_s left → unsigned_abs s ≤ 10 ^ 12
slack_small left s low high is =
    let covers = (ceil_s-least left).covers in
    let within = ceil_s-within left in
    omega (arith, ints)

-- the first row of a matrix of one row is the row
pub first_row : (n : ℕ) (row : List ℤ) (g : ℕ → ℤ) → total n (λ l. entry n row 0 l *ℤ g l) ≡ total n (λ l. at row l *ℤ g l)
first_row n row g = total-same n (λ l. entry n row 0 l *ℤ g l) (λ l. at row l *ℤ g l) (λ l _. let same : 0 * n + l ≡ l = omega arith in ap (λ i. at row i *ℤ g l) same)

-- a list that was filled place by place, in range at each
pub filled-all : (n : ℕ) (f : ℕ → ℤ) (xs : List ℤ) (m : ℕ) → xs ≡ tabulate n f → ((i : ℕ) → i < n → unsigned_abs (f i) ≤ m) → All (λ z. unsigned_abs z ≤ m) xs
filled-all n f xs m is h =
    let long = ap length is ∙ length-map-range_with_len f 0 n in
    All-from_get_or (λ z. unsigned_abs z ≤ m) xs (pos 0) (λ i l. let below : i < n = omega arith in subst (λ z. unsigned_abs z ≤ m) (sym (ap (λ ys. get_or ys i (pos 0)) is ∙ get_or-map-range_with_len f 0 n i i (pos 0) below (omega arith))) (h i below))

-- columns of which the first t were replaced by those of f
module _ (old : List (List ℤ)) (f : ℕ → List ℤ) (t : ℕ) (h : t < length old) where
  begun : List (List ℤ)
  begun = tabulate t f ++ drop t old

  opened : tabulate t f ++ drop t old ≡ tabulate t f ++ get_or old t [] ∷ drop (t + 1) old
  opened = ap (λ xs. tabulate t f ++ xs) (drop_more old t [] h)

  pub next_column : get_or (tabulate t f ++ drop t old) t [] ≡ get_or old t []
  next_column = ap (λ xs. get_or xs t []) opened ∙ get_or_at (tabulate t f) (get_or old t []) (drop (t + 1) old) [] t (length-map-range_with_len f 0 t)

  pub replaced_more : (v : List ℤ) → v ≡ f t → set (tabulate t f ++ drop t old) t v ≡ tabulate (t + 1) f ++ drop (t + 1) old
  replaced_more v e =
      ap (λ xs. set xs t v) opened ∙ set_at (tabulate t f) (get_or old t []) (drop (t + 1) old) v t (length-map-range_with_len f 0 t)
      ∙ (λ i. tabulate t f ++ e i ∷ drop (t + 1) old) ∙ sym (append_assoc (tabulate t f) (f t ∷ []) (drop (t + 1) old))
      ∙ ap (λ xs. xs ++ drop (t + 1) old) (sym (map-range_with_len_more f 0 t t (omega arith)))

-- a number of at most 19 digits fits 64 bits, and comes back from them
pub fits64 : (z : ℤ) → unsigned_abs z ≤ 9_200_000_000_000_000_000 → SFits w64 z
fits64 z h = fits_signed_from_abs w64 z (omega arith)

pub back64 : (z : ℤ) → unsigned_abs z ≤ 9_200_000_000_000_000_000 → to_z w64 (of_z w64 z) ≡ z
back64 z h = to_z-of_z (fits64 z h)

-- a magnitude of a number of 64 bits
pub abs64 : (x v b : ℤ) → SFits w64 x → b ≡ pos (unsigned_abs (to_z w64 (of_z w64 x))) → x ≡ v → b ≡ magnitude v
abs64 x v b fits e is = e ∙ ap magnitude (to_z-of_z fits ∙ is)

-- sums and differences of two numbers of 64 bits
pub sum64 : (x y : ℤ) → unsigned_abs x ≤ 9_200_000_000_000_000_000 → unsigned_abs y ≤ 9_200_000_000_000_000_000 → unsigned_abs (x +ℤ y) ≤ 9_200_000_000_000_000_000
    → to_z w64 (of_z w64 (to_z w64 (of_z w64 x) +ℤ to_z w64 (of_z w64 y))) ≡ x +ℤ y
sum64 x y h k l = ap (λ z. to_z w64 (of_z w64 z)) (λ i. back64 x h i +ℤ back64 y k i) ∙ back64 (x +ℤ y) l

pub difference64 : (x y : ℤ) → unsigned_abs x ≤ 9_200_000_000_000_000_000 → unsigned_abs y ≤ 9_200_000_000_000_000_000 → unsigned_abs (x -ℤ y) ≤ 9_200_000_000_000_000_000
    → to_z w64 (of_z w64 (to_z w64 (of_z w64 x) -ℤ to_z w64 (of_z w64 y))) ≡ x -ℤ y
difference64 x y h k l = ap (λ z. to_z w64 (of_z w64 z)) (λ i. back64 x h i -ℤ back64 y k i) ∙ back64 (x -ℤ y) l

-- a number of 128 bits that is this one, brought to 64 bits
module _ (z v : ℤ) (is : z ≡ v) (small : unsigned_abs v ≤ 9_200_000_000_000_000_000) where
  wide_is : to_z w128 (of_z w128 z) ≡ v
  wide_is = fold z v is (omega arith)

  pub narrow_fits : SFits w64 (to_z w128 (of_z w128 z))
  narrow_fits = subst (SFits w64) (sym wide_is) (fits64 v small)

  pub narrowed : to_z w64 (of_z w64 (to_z w128 (of_z w128 z))) ≡ v
  narrowed = ap (λ x. to_z w64 (of_z w64 x)) wide_is ∙ back64 v small
