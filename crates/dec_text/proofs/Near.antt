-- A rounded reading is near: twice its distance from the exact value is at most its slack.
use Rattle.std.proofs.Common.{◌≡◌, ℕ, zero, suc, ◌+◌, ◌-◌, ◌*◌, ◌/◌, ◌%◌, ◌<◌, ◌≤◌, Bool, true, false, ℤ, pos, negsuc, neg_ℤ, ◌+ℤ◌, refl, ◌∙◌, ap, arith}
use Rattle.std.specs.Prelude.{◌-ℤ◌, unsigned_abs, nat_lt, nat_le}
use Rattle.std.proofs.lemmas.Nat.{div-add-mod', mod_below}
use Rattle.std.proofs.Math.Nat.{div-eq_of_lt-le, div-eq_of_lt, mod-eq_of_lt, zero-mul}
use Rattle.std.proofs.lemmas.Bool.Decides.{nat_tests}
use Rattle.dec_text.specs.Reading.{nearest, slack_of, IsNear}
use Rattle.dec_text.proofs.Rounds.{sub_pos, sub_neg, not_zero}

-- the distance of two numbers that are as near
dist_pos : (a b c : ℕ) → 2 * a ≤ 2 * b + c → 2 * b ≤ 2 * a + c → 2 * unsigned_abs (pos a -ℤ pos b) ≤ c
dist_pos a zero c h k = omega (arith, h, k)
dist_pos a (suc b) c h k = by_order (nat_lt a (suc b)) refl
  where
    by_order : (t : Bool) → nat_lt a (suc b) ≡ t → 2 * unsigned_abs (pos a -ℤ pos (suc b)) ≤ c
    by_order true e = let lt : a < suc b = grind (arith, nat_tests, e) in rw e (omega (arith, h, k, lt))
    by_order false e = let le : suc b ≤ a = grind (arith, nat_tests, e) in rw e (omega (arith, h, k, le))

-- the same below nothing
dist_neg : (a b c : ℕ) → 2 * a ≤ 2 * b + c → 2 * b ≤ 2 * a + c → 2 * unsigned_abs (neg_ℤ (pos a) -ℤ neg_ℤ (pos b)) ≤ c
dist_neg zero zero c h k = omega (arith, h, k)
dist_neg zero (suc b) c h k = omega (arith, h, k)
dist_neg (suc a) zero c h k = let yes : nat_lt 0 (suc a) ≡ true = grind (arith, nat_tests) in rw yes (omega (arith, h, k))
dist_neg (suc a) (suc b) c h k = by_order (nat_lt (suc b) (suc a)) refl
  where
    by_order : (t : Bool) → nat_lt (suc b) (suc a) ≡ t → 2 * unsigned_abs (negsuc a +ℤ pos (suc b)) ≤ c
    by_order true e = let lt : suc b < suc a = grind (arith, nat_tests, e) in rw e (omega (arith, h, k, lt))
    by_order false e = let le : suc a ≤ suc b = grind (arith, nat_tests, e) in rw e (omega (arith, h, k, le))

-- the parts of a division
divided : (n q : ℕ) → 0 < q → (n / q * q + n % q ≡ n) × (n % q < q)
divided n q h = (div-add-mod' n q, mod_below n q h)

module _ (negative : Bool) (p q : ℕ) where
  -- another name of the number and of the slack
  renamed : (v w : ℤ) (s t : ℕ) → v ≡ w → s ≡ t → IsNear negative p q w t → IsNear negative p q v s
  renamed v w s t e f h = rw (e, f) h

-- where q divides p there is no slack, and else it is 1
no_slack : (p q : ℕ) → p % q ≡ 0 → slack_of p q ≡ 0
no_slack p q e = rw e refl

some_slack : (p q r : ℕ) → p % q ≡ suc r → slack_of p q ≡ 1
some_slack p q r e = rw (e, not_zero (suc r) (λ z. omega (arith, z))) refl

-- a number that q divides
times : (p q : ℕ) → 0 < q → p % q ≡ 0 → p ≡ p / q * q
times p q some e = let parts = divided p q some in omega (arith, parts.0, e)

module _ (p q : ℕ) (some : 0 < q) where
  near_up : IsNear false p q (nearest false p q) (slack_of p q)
  near_up = by_slack (p % q) refl
    where
      by_slack : (r : ℕ) → p % q ≡ r → IsNear false p q (nearest false p q) (slack_of p q)
      by_slack zero e =
          let whole = times p q some e in
          let same : (2 * p + q) / (2 * q) ≡ p / q = div-eq_of_lt-le (2 * q) {m = 2 * p + q} (omega (arith, whole, some)) (omega (arith, whole, some)) in
          renamed false p q (nearest false p q) (pos (p / q)) (slack_of p q) 0 (ap pos same) (no_slack p q e) (dist_pos (p / q * q) p (0 * q) (omega (arith, whole)) (omega (arith, whole)))
      by_slack (suc r) e =
          let parts = divided (2 * p + q) (2 * q) (omega (arith, some)) in
          renamed false p q (nearest false p q) (pos ((2 * p + q) / (2 * q))) (slack_of p q) 1 refl (some_slack p q r e)
          (dist_pos ((2 * p + q) / (2 * q) * q) p (1 * q) (omega (arith, parts.0, parts.1)) (omega (arith, parts.0, parts.1)))

  -- nothing, beside what is a little below it
  beside_zero : (c : ℕ) → 2 * p ≤ c → 2 * unsigned_abs (pos (0 * q) -ℤ neg_ℤ (pos p)) ≤ c
  beside_zero c h = rw (zero-mul q) (dist_neg 0 p c (omega arith) (omega (arith, h)))

  -- at most half a billionth below nothing
  half_down : 2 * p ≤ q → IsNear true p q (nearest true p q) (slack_of p q)
  half_down le = by_slack (p % q) refl
    where
      zero_is : nearest true p q ≡ neg_ℤ (pos 0)
      zero_is = rw (sub_pos (2 * p) q le, div-eq_of_lt {n = q - 2 * p} {m = 2 * q} (omega (arith, some))) refl

      small : p % q ≡ p
      small = mod-eq_of_lt {n = p} {m = q} (omega (arith, le, some))

      by_slack : (r : ℕ) → p % q ≡ r → IsNear true p q (nearest true p q) (slack_of p q)
      by_slack zero e =
          let none : p ≡ 0 = omega (arith, small, e) in
          renamed true p q (nearest true p q) (neg_ℤ (pos 0)) (slack_of p q) 0 zero_is (no_slack p q e) (beside_zero (0 * q) (omega (arith, none)))
      by_slack (suc r) e =
          renamed true p q (nearest true p q) (neg_ℤ (pos 0)) (slack_of p q) 1 zero_is (some_slack p q r e) (beside_zero (1 * q) (omega (arith, le)))

  -- more than that
  more_down : q < 2 * p → IsNear true p q (nearest true p q) (slack_of p q)
  more_down lt = by_slack (p % q) refl
    where
      is_k : nearest true p q ≡ negsuc ((2 * p - suc q) / (2 * q))
      is_k = rw (sub_neg (2 * p) q lt) refl

      by_slack : (r : ℕ) → p % q ≡ r → IsNear true p q (nearest true p q) (slack_of p q)
      by_slack zero e = by_times (p / q) refl
        where
          by_times : (m : ℕ) → p / q ≡ m → IsNear true p q (nearest true p q) (slack_of p q)
          by_times zero f = let whole = times p q some e in absurd (none (p / q) f whole)
            where
              none : (m : ℕ) → m ≡ 0 → p ≡ m * q → ⊥
              none m f g = let nothing : p ≡ 0 * q = rw f at g in omega (arith, nothing, lt)
          by_times (suc n) f =
              let whole : p ≡ suc n * q = rw f at (times p q some e) in
              let same : (2 * p - suc q) / (2 * q) ≡ n = div-eq_of_lt-le (2 * q) {m = 2 * p - suc q} (omega (arith, whole, some)) (omega (arith, whole, some)) in
              renamed true p q (nearest true p q) (negsuc n) (slack_of p q) 0 (is_k ∙ ap negsuc same) (no_slack p q e) (dist_neg (suc n * q) p (0 * q) (omega (arith, whole)) (omega (arith, whole)))
      by_slack (suc r) e =
          let parts = divided (2 * p - suc q) (2 * q) (omega (arith, some)) in
          renamed true p q (nearest true p q) (negsuc ((2 * p - suc q) / (2 * q))) (slack_of p q) 1 is_k (some_slack p q r e)
          (dist_neg (suc ((2 * p - suc q) / (2 * q)) * q) p (1 * q) (omega (arith, parts.0, parts.1, lt)) (omega (arith, parts.0, parts.1, lt)))

-- the law: a rounded reading is near
pub near : (negative : Bool) (p q : ℕ) → 0 < q → IsNear negative p q (nearest negative p q) (slack_of p q)
near false p q some = near_up p q some
near true p q some = by_half (nat_le (2 * p) q) refl
  where
    by_half : (b : Bool) → nat_le (2 * p) q ≡ b → IsNear true p q (nearest true p q) (slack_of p q)
    by_half true e = half_down p q some (grind (arith, nat_tests, e))
    by_half false e = more_down p q some (grind (arith, nat_tests, e))
