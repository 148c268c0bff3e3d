-- Signs of products and of quotients.
use Rattle.std.proofs.Common.{◌≡◌, ℕ, Bool, true, false, not, ℤ, pos, negsuc, ◌*ℤ◌, ◌≤ℤ◌, neg_ℤ, int_div, int_lt, IsTrue, refl, arith}
use Rattle.std.proofs.lemmas.Int.{ints}
use Rattle.std.proofs.Math.Bool.{beq}
use Rattle.std.proofs.Math.IntN.{pos-*ℤ-pos}
use Rattle.std.proofs.Math.Nat.{div-le_self}
use Rattle.set_rules.proofs.Ring.{mul_neg, neg_mul}

-- one of two, and not both
abbrev pub differ : Bool → Bool → Bool
differ true b = not b
differ false b = b

-- v is not above 0, or not below it
abbrev pub Signed : Bool → ℤ → Type 0
Signed true v = v ≤ℤ pos 0
Signed false v = pos 0 ≤ℤ v

both : (u v : ℤ) → pos 0 ≤ℤ u → pos 0 ≤ℤ v → pos 0 ≤ℤ (u *ℤ v)
both (pos m) (pos n) h k = rw pos-*ℤ-pos (omega (arith, ints))
both (pos m) (negsuc n) h k = omega (arith, ints)
both (negsuc m) v h k = omega (arith, ints)

first : (u v : ℤ) → u ≤ℤ pos 0 → pos 0 ≤ℤ v → (u *ℤ v) ≤ℤ pos 0
first u v h k = let l = both (neg_ℤ u) v (omega (arith, ints)) k in let e = neg_mul u v in omega (arith, ints)

-- the sign of a product
pub product-signed : (s t : Bool) (u v : ℤ) → Signed s u → Signed t v → Signed (differ s t) (u *ℤ v)
product-signed true true u v h k =
    let l = first u (neg_ℤ v) h (omega (arith, ints)) in let e = mul_neg u v in omega (arith, ints)
product-signed true false u v h k = first u v h k
product-signed false true u v h k =
    let l = both u (neg_ℤ v) h (omega (arith, ints)) in let e = mul_neg u v in omega (arith, ints)
product-signed false false u v h k = both u v h k

-- a quotient keeps the sign
pub quotient-signed : (s : Bool) (v : ℤ) (d : ℕ) → Signed s v → Signed s (int_div v (pos d))
quotient-signed true (pos a) d h = let none : a ≡ 0 = omega (arith, ints) in let less = div-le_self a d in omega (arith, ints)
quotient-signed true (negsuc a) d h = omega (arith, ints)
quotient-signed false (pos a) d h = omega (arith, ints)
quotient-signed false (negsuc a) d h = omega (arith, ints)

-- the sign that the test shows
pub signed : (v : ℤ) → Signed (int_lt v (pos 0)) v
signed v = by (int_lt v (pos 0)) refl
  where
    by : (s : Bool) → int_lt v (pos 0) ≡ s → Signed s v
    by true e = grind (arith, ints)
    by false e = grind (arith, ints)

-- two signs that differ as two others do
pub differing : (a b r s : Bool) → IsTrue (beq (beq a b) (beq r s)) → differ b r ≡ differ a s
differing true true true true h = refl
differing true true true false h = grind arith
differing true true false true h = grind arith
differing true true false false h = refl
differing true false true true h = grind arith
differing true false true false h = refl
differing true false false true h = refl
differing true false false false h = grind arith
differing false true true true h = grind arith
differing false true true false h = refl
differing false true false true h = refl
differing false true false false h = grind arith
differing false false true true h = refl
differing false false true false h = grind arith
differing false false false true h = grind arith
differing false false false false h = refl
