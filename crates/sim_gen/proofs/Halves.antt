-- Half of a number, rounded up, and what is odd of it.
use Rattle.std.proofs.Common.{◌≡◌, ◌+◌, ◌/◌, ◌%◌, ◌≤◌, ℤ, pos, negsuc, neg_ℤ, ◌+ℤ◌, ◌*ℤ◌, ◌≤ℤ◌, ◌<ℤ◌, unsigned_abs, arith}
use Rattle.std.proofs.lemmas.Int.{ints}
use Rattle.std.specs.Int.{int_div_euclid}
use Rattle.sim_gen.specs.Process.{odd_part, half_up}

pub odd_part_small : (x : ℤ) → unsigned_abs (odd_part x) ≤ 1
unfolding odd_part
odd_part_small (pos n) = omega arith
odd_part_small (negsuc n) = omega arith

-- with what is odd of it, a number is even
even_with : (x : ℤ) → (e : ℤ) × (x +ℤ odd_part x ≡ pos 2 *ℤ e)
unfolding odd_part
even_with (pos n) = (pos (n / 2 + n % 2), omega (arith, ints))
even_with (negsuc n) = (neg_ℤ (pos (n / 2 + n % 2)), omega (arith, ints))

half-low : (p : ℤ) → (pos 2 *ℤ int_div_euclid p (pos 2)) ≤ℤ p
half-low (pos a) = omega (arith, ints)
half-low (negsuc a) = omega (arith, ints)

half-high : (p : ℤ) → p <ℤ (pos 2 *ℤ int_div_euclid p (pos 2) +ℤ pos 2)
half-high (pos a) = omega (arith, ints)
half-high (negsuc a) = omega (arith, ints)

-- twice the half is the number with what is odd of it
pub twice-half_up : (x : ℤ) → pos 2 *ℤ half_up x ≡ x +ℤ odd_part x
unfolding half_up
twice-half_up x =
    let even = even_with x in
    let same : x +ℤ odd_part x ≡ pos 2 *ℤ even.0 = even.1 in
    let low : (pos 2 *ℤ half_up x) ≤ℤ (x +ℤ odd_part x) = half-low (x +ℤ odd_part x) in
    let high : (x +ℤ odd_part x) <ℤ (pos 2 *ℤ half_up x +ℤ pos 2) = half-high (x +ℤ odd_part x) in
    omega (arith, ints)

pub half_up_small : (x : ℤ) → unsigned_abs (half_up x) ≤ unsigned_abs x + 1
half_up_small x =
    let odd = odd_part_small x in
    let twice = twice-half_up x in
    omega (arith, ints)
