-- Shrunk columns and rows, and the gain made of them.
use Rattle.std.proofs.Common.{◌≡◌, ℕ, ◌+◌, ◌*◌, ◌/◌, ◌^◌, ◌<◌, ◌≤◌, ⊎_elim, List, [], length, map, ℤ, pos, negsuc, suc, unsigned_abs, int_div, to_z, of_z, to_z-of_z, SFits, ◌+ℤ◌, ◌*ℤ◌, sym, ap, ◌∙◌, arith, le_refl, mul-le-mul}
use Rattle.std.proofs.lemmas.Nat.{pow_pos}
use Rattle.std.proofs.lemmas.List.{get_or_past, get_or-map, length-map}
use Rattle.std.proofs.lemmas.Int.{ints}
use Rattle.std.proofs.Math.Nat.{zero-div, div-le_self}
use mir.Syntax.{w128}
use lib.Ieee.Nearest.{div_mono}
use Rattle.set_rules.specs.Sum.{total}
use Rattle.set_rules.specs.Columns.{at, column_entry}
use Rattle.set_rules.specs.Gain.{shift_below, shrunk_value, shrunk_product, shrunk_square, gain_of, gain_at, gain_shift, gain}
use Rattle.row_drop.specs.Rows.{Covers, row_square, shrunk_state_product, gains_from}
use Rattle.set_rules.proofs.Sums.{total-more, total-same}
use Rattle.set_rules.proofs.ShiftHolds.{shift-least}
use Rattle.fixed_mat.proofs.Bits.{back}
use Rattle.fixed_mat.proofs.Columns.{tabulate-same}

-- what is no greater shrinks below the limit too
pub shrinks : (x m z limit : ℕ) → x ≤ m → m / 2 ^ z < limit → x / 2 ^ z < limit
shrinks x m z limit h below =
    let less = div_mono x (2 ^ z) m (2 ^ z) (pow_pos z) (pow_pos z) (mul-le-mul h (le_refl (2 ^ z))) in
    omega arith

-- a quotient is no greater than what is divided
pub quotient-within : (x d : ℤ) → unsigned_abs (int_div x d) ≤ unsigned_abs x
quotient-within (pos a) (pos b) = div-le_self a b
quotient-within (pos a) (negsuc b) = let h = div-le_self a (suc b) in omega (arith, ints)
quotient-within (negsuc a) (pos b) = let h = div-le_self (suc a) b in omega (arith, ints)
quotient-within (negsuc a) (negsuc b) = let h = div-le_self (suc a) (suc b) in omega (arith, ints)

-- a unit times this, divided, in 128 bits
pub quotient_back : (x d : ℤ) → unsigned_abs x ≤ 128 * 2 ^ 80 → SFits w128 d
    → to_z w128 (of_z w128 (int_div (to_z w128 (of_z w128 (pos 1_000_000_000 *ℤ to_z w128 (of_z w128 x)))) (to_z w128 (of_z w128 d))))
    ≡ int_div (pos 1_000_000_000 *ℤ x) d
quotient_back x d small fits =
    let size : unsigned_abs (pos 1_000_000_000 *ℤ x) ≤ 10 ^ 36 = omega (arith, ints) in
    let less = quotient-within (pos 1_000_000_000 *ℤ x) d in
    (λ i. to_z w128 (of_z w128 (int_div (to_z w128 (of_z w128 (pos 1_000_000_000 *ℤ back x (omega arith) i))) (to_z-of_z fits i))))
    ∙ ap (λ z. to_z w128 (of_z w128 (int_div z d))) (back (pos 1_000_000_000 *ℤ x) (omega arith))
    ∙ back (int_div (pos 1_000_000_000 *ℤ x) d) (omega arith)

pub quotient_small : (x d : ℤ) → unsigned_abs x ≤ 128 * 2 ^ 80 → unsigned_abs (int_div (pos 1_000_000_000 *ℤ x) d) ≤ 10 ^ 36
quotient_small x d small =
    let size : unsigned_abs (pos 1_000_000_000 *ℤ x) ≤ 10 ^ 36 = omega (arith, ints) in
    let less = quotient-within (pos 1_000_000_000 *ℤ x) d in
    omega arith

-- a shift that is enough, where none below it is, is the least
pub least_is : (size z : ℕ) → size < 2 ^ 128 → ((y : ℕ) → y < z → 2 ^ 40 ≤ size / 2 ^ y) → size / 2 ^ z < 2 ^ 40
    → z ≡ shift_below (2 ^ 40) size
least_is size z small above below =
    let least = shift-least (2 ^ 40) size (omega arith) small in
    by (shift_below (2 ^ 40) size) (least.1 z below) (λ l. let h = above (shift_below (2 ^ 40) size) l in let k = least.0 in omega arith)
  where
    by : (s : ℕ) → s ≤ z → (s < z → ⊥) → z ≡ s
    by s low high = ⊎_elim (λ (l : s < z). absurd (high l)) (λ (e : z ≡ s). e) (grind arith)

module _ (z : ℕ) (a : List ℤ) where
  abbrev shrink : List ℤ
  shrink = map (shrunk_value z) a

  entry-shrunk : (t : ℕ) → t < length a → at shrink t ≡ shrunk_value z (at a t)
  entry-shrunk t h = get_or-map (shrunk_value z) a t (pos 0) (pos 0) h

  pub square-shrunk : row_square shrink ≡ shrunk_square z a
  square-shrunk =
      ap (λ n. total n (λ t. at shrink t *ℤ at shrink t)) (length-map a (shrunk_value z))
      ∙ total-same (length a) (λ t. at shrink t *ℤ at shrink t) (λ t. shrunk_value z (at a t) *ℤ shrunk_value z (at a t))
      (λ t h. (λ i. entry-shrunk t h i *ℤ entry-shrunk t h i))

  module _ (g : List (List ℤ)) (long : Covers a g) where
    abbrev term : ℕ → ℕ → ℤ
    term i t = shrunk_value z (column_entry g i t) *ℤ shrunk_value z (at a t)

    past : (i : ℕ) → column_entry g i (length g) ≡ pos 0
    past i = ap (λ column. at column i) (get_or_past g (length g) [] (le_refl (length g))) ∙ get_or_past [] i (pos 0) (omega arith)

    none : shrunk_value z (pos 0) ≡ pos 0
    none = ap pos (zero-div (2 ^ z))

    last : (i : ℕ) → term i (length g) ≡ pos 0
    last i =
        ap (λ v. shrunk_value z v *ℤ shrunk_value z (at a (length g))) (past i) ∙ ap (λ v. v *ℤ shrunk_value z (at a (length g))) none
        ∙ times (shrunk_value z (at a (length g)))
      where
        times : (v : ℤ) → pos 0 *ℤ v ≡ pos 0
        times v = omega (arith, ints)

    pub reaches : length g ≤ length a
    reaches = ⊎_elim (λ (e : length a ≡ length g). omega arith) (λ (e : length a ≡ length g + 1). omega arith) long

    product-shrunk : (i : ℕ) → shrunk_state_product z g shrink i ≡ shrunk_product z g a i
    product-shrunk i =
        total-same (length g) (λ t. shrunk_value z (column_entry g i t) *ℤ at shrink t) (term i)
        (λ t h. ap (λ v. shrunk_value z (column_entry g i t) *ℤ v) (entry-shrunk t (let r = reaches in omega arith)))
        ∙ ⊎_elim (λ (e : length a ≡ length g). ap (λ n. total n (term i)) (sym e))
        (λ (e : length a ≡ length g + 1). sym (ap (λ n. total n (term i)) e ∙ total-more (length g) (term i)
        ∙ dropped (total (length g) (term i)) (term i (length g)) (last i)))
        long
      where
        dropped : (x y : ℤ) → y ≡ pos 0 → x +ℤ y ≡ x
        dropped x y e = omega (arith, ints)

    pub gain-shrunk : (n : ℕ) → gains_from n (shrunk_state_product z g shrink) (row_square shrink) ≡ gain_at n z g a
    unfolding gain_at
    gain-shrunk n = tabulate-same n _ _ (λ i _. (λ ι. gain_of (product-shrunk i ι) (square-shrunk ι)))

-- the gain, where the row and the shift are those
pub gain-is : (n z : ℕ) (a : List ℤ) (g : List (List ℤ)) (row gains : List ℤ) → Covers a g
    → row ≡ map (shrunk_value z) a → z ≡ gain_shift g a
    → gains ≡ gains_from n (shrunk_state_product z g row) (row_square row) → gains ≡ gain n g a
gain-is n z a g row gains long shrunk shift is =
    is ∙ ap (λ r. gains_from n (shrunk_state_product z g r) (row_square r)) shrunk
    ∙ gain-shrunk z a g long n ∙ ap (λ y. gain_at n y g a) shift
