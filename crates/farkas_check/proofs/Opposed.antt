-- Coefficients under whose multipliers two right sides take from each other.
use Rattle.std.proofs.Common.{◌≡◌, ℕ, ◌^◌, Bool, true, false, IsTrue, inl, inr, ℤ, pos, ◌*ℤ◌, ◌≤ℤ◌, neg_ℤ, int_lt, arith}
use Rattle.std.proofs.lemmas.Int.{ints}
use Rattle.std.proofs.Math.Bool.{beq}
use Rattle.set_rules.specs.Gain.{shrunk_value}
use Rattle.set_rules.proofs.Ring.{neg_mul}
use Rattle.farkas_check.specs.declared.pair.Pair.{Pair}
use Rattle.farkas_check.specs.Sides.{AreOpposed, OpposedAt}
use Rattle.farkas_check.proofs.Signs.{Signed, signed, product-signed, quotient-signed, differing}

abbrev is_negative : ℤ → Bool
is_negative v = int_lt v (pos 0)

module _ (p : Pair) (x z : ℤ) where
  -- two products of one sign, of which one is turned round
  turned : (k l : Bool) → k ≡ l → Signed k (x *ℤ p.first.right) → Signed l (z *ℤ p.second.right) → AreOpposed p x (neg_ℤ z)
  turned true true e h j = let t = neg_mul z p.second.right in inl (h, omega (arith, ints))
  turned false false e h j = let t = neg_mul z p.second.right in inr (h, omega (arith, ints))
  turned true false e h j = grind arith
  turned false true e h j = grind arith

-- where the coefficients differ in sign as the right sides do
pub opposed-at : (p : Pair) (a b : ℤ) → IsTrue (beq (beq (is_negative a) (is_negative b)) (beq (is_negative p.first.right) (is_negative p.second.right))) → OpposedAt p a b
opposed-at p a b h halvings =
    turned p (shrunk_value halvings b) (shrunk_value halvings a) _ _ (differing (is_negative a) (is_negative b) (is_negative p.first.right) (is_negative p.second.right) h)
    (product-signed (is_negative b) (is_negative p.first.right) (shrunk_value halvings b) p.first.right (quotient-signed (is_negative b) b (2 ^ halvings) (signed b)) (signed p.first.right))
    (product-signed (is_negative a) (is_negative p.second.right) (shrunk_value halvings a) p.second.right (quotient-signed (is_negative a) a (2 ^ halvings) (signed a)) (signed p.second.right))
