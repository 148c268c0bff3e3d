-- How great the products of a row with columns and with itself are.
use Rattle.std.proofs.Common.{◌≡◌, ℕ, zero, suc, ◌+◌, ◌*◌, ◌/◌, ◌^◌, ◌<◌, ◌≤◌, List, [], ◌∷◌, length, take, ℤ, pos, ◌+ℤ◌, ◌*ℤ◌, ◌≤ℤ◌, unsigned_abs, SFits, to_z, of_z, to_z-of_z, ap, ◌∙◌, arith, add-one, le_refl, mul-le-mul}
use Rattle.std.proofs.lemmas.Int.{ints, unsigned_abs-mul, to_z_pos, fits_signed_from_abs}
use Rattle.std.proofs.lemmas.List.Sums.{sum_by_more, sum_by-take-le, get_or-le-sum_by}
use Rattle.std.proofs.Math.Nat.{div-mul-le_self}
use Rattle.std.specs.List.{All, sum_by}
use mir.Syntax.{w64, w128}
use Rattle.set_rules.specs.Sum.{total, magnitude}
use Rattle.set_rules.specs.Columns.{at, column_entry}
use Rattle.set_rules.specs.Limits.{narrow_limit}
use Rattle.set_rules.specs.Reduce.{greatest}
use Rattle.set_rules.specs.Gain.{greatest_entry}
use Rattle.set_rules.proofs.Sums.{total-zero, total-more}
use Rattle.row_drop.specs.Room.{room, plain_limit}
use Rattle.row_drop.specs.Rows.{FitsSquare}

-- a number of a row of a small sum is the same in 64 bits
pub number_is : (a : List ℤ) (t : ℕ) (z : ℤ) → t < length a → sum_by unsigned_abs a < plain_limit → SFits w128 z → z ≡ at a t
    → to_z w64 (of_z w64 (to_z w128 (of_z w128 z))) ≡ at a t
number_is a t z below small whole is =
    let one = get_or-le-sum_by unsigned_abs a t (pos 0) below in
    let fits : SFits w64 (at a t) = fits_signed_from_abs w64 (at a t) (omega (arith, one, small)) in
    ap (λ v. to_z w64 (of_z w64 v)) (to_z-of_z whole ∙ is) ∙ to_z-of_z fits

-- products with numbers that are each within a bound add up to no more than that many of the row
sizes-taken : (most n : ℕ) (e : ℕ → ℤ) (a : List ℤ) → n ≤ length a → ((t : ℕ) → t < n → unsigned_abs (e t) ≤ most)
    → total n (λ t. magnitude (e t *ℤ at a t)) ≤ℤ pos (most * sum_by unsigned_abs (take n a))
sizes-taken most zero e a long small = let none = total-zero (λ t. magnitude (e t *ℤ at a t)) in omega (arith, ints, none)
sizes-taken most (suc n) e a long small =
    let before = sizes-taken most n e a (omega arith) (λ t l. small t (omega arith)) in
    let more = total-more n (λ t. magnitude (e t *ℤ at a t)) in
    let size = unsigned_abs-mul (e n) (at a n) in
    let one : unsigned_abs (e n) * unsigned_abs (at a n) ≤ most * unsigned_abs (at a n) =
    mul-le-mul (small n (omega arith)) (le_refl (unsigned_abs (at a n))) in
    let next = ap (λ s. most * s) (sum_by_more unsigned_abs a n (pos 0) (omega arith)) in
    rw (← add-one n) (omega (arith, ints, before, more, size, one, next))

-- so they fit where that fits
pub sizes-within : (limit most n : ℕ) (e : ℕ → ℤ) (a : List ℤ) → n ≤ length a → ((t : ℕ) → t < n → unsigned_abs (e t) ≤ most)
    → most * sum_by unsigned_abs a ≤ limit → total n (λ t. magnitude (e t *ℤ at a t)) ≤ℤ pos limit
sizes-within limit most n e a long small room =
    let taken = sizes-taken most n e a long small in
    let less : most * sum_by unsigned_abs (take n a) ≤ most * sum_by unsigned_abs a =
    mul-le-mul (le_refl most) (sum_by-take-le unsigned_abs a n) in
    omega (arith, ints, taken, less, room)

-- the square of a row whose sum is within a bound
pub square-within : (limit most : ℕ) (a : List ℤ) → sum_by unsigned_abs a ≤ most → most * most ≤ limit → FitsSquare limit a
square-within limit most a small room =
    let least : most * sum_by unsigned_abs a ≤ most * most = mul-le-mul (le_refl most) small in
    sizes-within limit most (length a) (at a) a (le_refl (length a))
    (λ t h. let one = get_or-le-sum_by unsigned_abs a t (pos 0) h in omega (arith, one, small)) (omega (arith, least, room))

-- no entry is above a bound that none at its place is above
greatest-within : (xs : List ℤ) (most : ℕ) → ((i : ℕ) → i < length xs → unsigned_abs (at xs i) ≤ most) → greatest xs ≤ most
greatest-within [] most h = omega arith
greatest-within (x ∷ xs) most h =
    let first = h 0 (omega arith) in
    let rest = greatest-within xs most (λ i l. h (suc i) (omega arith)) in
    omega arith

-- the same of columns of this height
pub columns-within : (n : ℕ) (g : List (List ℤ)) (most : ℕ) → All (λ column. length column ≡ n) g
    → ((i t : ℕ) → i < n → unsigned_abs (column_entry g i t) ≤ most) → greatest_entry g ≤ most
columns-within n [] most tall h = omega arith
columns-within n (column ∷ g) most tall h =
    let size = tall 0 [] (omega arith) in
    let first = greatest-within column most (λ i l. h i 0 (omega (arith, size, l))) in
    let rest = columns-within n g most (λ k d l. tall (suc k) d (omega arith)) (λ i t l. h i (suc t) l) in
    omega (arith, first, rest)

-- what is raised to the low bits alone is no greater than what it was raised by
pub raised-small : (x : ℤ) (limit bits : ℕ) → unsigned_abs x ≤ 10 ^ 18 → limit ≤ 2 ^ 39 → bits ≡ of_z w64 (x +ℤ pos limit) → bits < 2 * limit
    → unsigned_abs x ≤ limit
raised-small x limit bits small high is low =
    let read = to_z_pos w64 bits (omega arith) in
    let fits : SFits w64 (x +ℤ pos limit) = fits_signed_from_abs w64 (x +ℤ pos limit) (omega (arith, ints)) in
    let back = ap (to_z w64) is ∙ to_z-of_z fits in
    omega (arith, ints)

-- what there is room for
pub room-small : (sum : ℕ) → room sum ≤ 2 ^ 39
unfolding room
room-small sum = omega arith

pub room-product : (sum : ℕ) → room sum * sum ≤ narrow_limit
unfolding room
room-product sum =
    let small : room sum ≤ narrow_limit / (sum + 1) = omega arith in
    by (room sum) (narrow_limit / (sum + 1)) sum small (div-mul-le_self narrow_limit (sum + 1))
  where
    by : (most quotient sum : ℕ) → most ≤ quotient → quotient * (sum + 1) ≤ narrow_limit → most * sum ≤ narrow_limit
    by most quotient sum h whole =
        let less : most * (sum + 1) ≤ quotient * (sum + 1) = mul-le-mul h (le_refl (sum + 1)) in
        omega arith
