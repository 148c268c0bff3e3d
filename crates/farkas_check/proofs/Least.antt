-- What two rows leave in the columns at the least.
use Rattle.std.proofs.Common.{◌≡◌, ℕ, zero, suc, ◌+◌, ◌≤◌, max, nat_eq, if◌then◌else◌, ◌⊎◌, ⊎_elim, List, ℤ, pos, ◌+ℤ◌, ◌-ℤ◌, ◌*ℤ◌, ◌≤ℤ◌, neg_ℤ, unsigned_abs, ap, ◌∙◌, arith, subst}
use Rattle.std.proofs.lemmas.Int.{ints}
use Rattle.std.proofs.lemmas.Bool.Decides.{nat_tests}
use lib.IntN.{*ℤ-zero, +ℤ_comm}
use Rattle.set_rules.specs.Sum.{total, magnitude}
use Rattle.set_rules.specs.Rows.{Row}
use Rattle.set_rules.specs.Farkas.{coefficient}
use Rattle.set_rules.proofs.Ring.{mul_add, mul_neg, neg_mul, mul_mono}
use Rattle.set_rules.proofs.Sums.{total-zero, total-suc, total-same, total-add, total-scale, magnitude-mul}
use Rattle.farkas_check.specs.Two.{own_of, row_sum, left_of_two, least_left}

-- what a has to itself is part of its sum
pub own-total : (n : ℕ) (a b : ℕ → ℤ) → pos (own_of n a b) ≤ℤ total n (λ t. magnitude (a t))
unfolding own_of
own-total zero a b = rw total-zero (omega (arith, ints))
own-total (suc n) a b = rw total-suc (more (own_of n a b) (unsigned_abs (a n)) (unsigned_abs (b n)) (total n (λ t. magnitude (a t))) (own-total n a b))
  where
    part : (own m k : ℕ) → max own (if nat_eq k 0 then m else 0) ≤ own + m
    part own m k = grind (arith, nat_tests)

    more : (own m k : ℕ) (sum : ℤ) → pos own ≤ℤ sum → pos (max own (if nat_eq k 0 then m else 0)) ≤ℤ (sum +ℤ pos m)
    more own m k sum h = let l = part own m k in omega (arith, ints)

module _ (a b : ℕ → ℤ) (x y : ℤ) where
  -- what is left in column t over |x| times the first magnitude less |y| times the second
  over : ℕ → ℤ
  over t = magnitude (x *ℤ a t +ℤ y *ℤ b t) +ℤ (neg_ℤ (magnitude x) *ℤ magnitude (a t) +ℤ magnitude y *ℤ magnitude (b t))

  -- it is never below 0
  over-low : (t : ℕ) → pos 0 ≤ℤ over t
  unfolding over
  over-low t =
      low (x *ℤ a t) (y *ℤ b t) (magnitude x *ℤ magnitude (a t)) (magnitude y *ℤ magnitude (b t)) (neg_ℤ (magnitude x) *ℤ magnitude (a t))
      (magnitude-mul x (a t)) (magnitude-mul y (b t)) (neg_mul (magnitude x) (magnitude (a t)))
    where
      low : (u v m n k : ℤ) → magnitude u ≡ m → magnitude v ≡ n → k ≡ neg_ℤ m → pos 0 ≤ℤ (magnitude (u +ℤ v) +ℤ (k +ℤ n))
      low u v m n k e f g = omega (arith, ints)

  -- and twice |y| times the second magnitude where the first is 0
  over-own : (t : ℕ) → unsigned_abs (a t) ≡ 0 → over t ≡ magnitude y *ℤ magnitude (b t) +ℤ magnitude y *ℤ magnitude (b t)
  unfolding over
  over-own t e =
      close (a t) (x *ℤ a t) (y *ℤ b t) (neg_ℤ (magnitude x) *ℤ magnitude (a t)) (magnitude y *ℤ magnitude (b t))
      (ap (λ z. x *ℤ z) (none (a t) e) ∙ *ℤ-zero x) (ap (λ n. neg_ℤ (magnitude x) *ℤ pos n) e ∙ *ℤ-zero (neg_ℤ (magnitude x))) (magnitude-mul y (b t))
    where
      none : (z : ℤ) → unsigned_abs z ≡ 0 → z ≡ pos 0
      none z h = omega (arith, ints)

      close : (z u v k n : ℤ) → u ≡ pos 0 → k ≡ pos 0 → magnitude v ≡ n → magnitude (u +ℤ v) +ℤ (k +ℤ n) ≡ n +ℤ n
      close z u v k n e f g = omega (arith, ints)

  -- so the sum is no less than twice |y| times the greatest that the second has to itself
  total-own : (n : ℕ) → (magnitude y *ℤ pos (own_of n b a) +ℤ magnitude y *ℤ pos (own_of n b a)) ≤ℤ total n over
  unfolding own_of
  total-own zero = let none = *ℤ-zero (magnitude y) in rw total-zero (omega (arith, ints))
  total-own (suc n) = rw total-suc (by (own_of n b a) (unsigned_abs (b n)) (unsigned_abs (a n)) (total n over) (over n) (total-own n) (over-low n) (over-own n) (low n))
    where
      low : (n : ℕ) → pos 0 ≤ℤ total n over
      low zero = rw total-zero (omega (arith, ints))
      low (suc n) = let before = low n in let last = over-low n in rw total-suc (omega (arith, ints))

      by : (own m k : ℕ) (sum last : ℤ) → (magnitude y *ℤ pos own +ℤ magnitude y *ℤ pos own) ≤ℤ sum → pos 0 ≤ℤ last
          → (k ≡ 0 → last ≡ magnitude y *ℤ pos m +ℤ magnitude y *ℤ pos m) → pos 0 ≤ℤ sum
          → (magnitude y *ℤ pos (max own (if nat_eq k 0 then m else 0)) +ℤ magnitude y *ℤ pos (max own (if nat_eq k 0 then m else 0))) ≤ℤ (sum +ℤ last)
      by own m k sum last h k' e j = ⊎_elim
          (λ (o : max own (if nat_eq k 0 then m else 0) ≡ own). subst (λ z. (magnitude y *ℤ pos z +ℤ magnitude y *ℤ pos z) ≤ℤ (sum +ℤ last)) (flip o) (more (magnitude y *ℤ pos own +ℤ magnitude y *ℤ pos own) sum last h k'))
          (λ (o : (k ≡ 0) × (max own (if nat_eq k 0 then m else 0) ≡ m)). subst (λ z. (magnitude y *ℤ pos z +ℤ magnitude y *ℤ pos z) ≤ℤ (sum +ℤ last)) (flip o.1) (less (magnitude y *ℤ pos m +ℤ magnitude y *ℤ pos m) sum last (e o.0) j))
          (which own m k)
        where
          flip : {p q : ℕ} → p ≡ q → q ≡ p
          flip e = cc

          more : (o sum last : ℤ) → o ≤ℤ sum → pos 0 ≤ℤ last → o ≤ℤ (sum +ℤ last)
          more o sum last h k = omega (arith, ints)

          less : (o sum last : ℤ) → last ≡ o → pos 0 ≤ℤ sum → o ≤ℤ (sum +ℤ last)
          less o sum last e h = omega (arith, ints)

          which : (own m k : ℕ) → (max own (if nat_eq k 0 then m else 0) ≡ own) ⊎ ((k ≡ 0) × (max own (if nat_eq k 0 then m else 0) ≡ m))
          which own m k = grind (arith, nat_tests)

  total-part : (n q : ℕ) → q ≤ own_of n b a → (magnitude y *ℤ pos q +ℤ magnitude y *ℤ pos q) ≤ℤ total n over
  total-part n q h = let less = mul_mono (unsigned_abs y) (pos q) (pos (own_of n b a)) (omega (arith, ints)) in let all = total-own n in omega (arith, ints)

  total-over : (n : ℕ) → total n over ≡ total n (λ t. magnitude (x *ℤ a t +ℤ y *ℤ b t)) +ℤ (neg_ℤ (magnitude x) *ℤ total n (λ t. magnitude (a t)) +ℤ magnitude y *ℤ total n (λ t. magnitude (b t)))
  unfolding over
  total-over n =
      total-add n (λ t. magnitude (x *ℤ a t +ℤ y *ℤ b t)) (λ t. neg_ℤ (magnitude x) *ℤ magnitude (a t) +ℤ magnitude y *ℤ magnitude (b t))
      ∙ ap (λ z. total n (λ t. magnitude (x *ℤ a t +ℤ y *ℤ b t)) +ℤ z)
      (total-add n (λ t. neg_ℤ (magnitude x) *ℤ magnitude (a t)) (λ t. magnitude y *ℤ magnitude (b t))
      ∙ ap (λ z. z +ℤ total n (λ t. magnitude y *ℤ magnitude (b t))) (total-scale n (neg_ℤ (magnitude x)) (λ t. magnitude (a t)))
      ∙ ap (λ z. neg_ℤ (magnitude x) *ℤ total n (λ t. magnitude (a t)) +ℤ z) (total-scale n (magnitude y) (λ t. magnitude (b t))))

  -- the columns leave at least |x| times one sum less |y| times the other, and twice |y| times what the second has to itself
  left-over : (n q : ℕ) → q ≤ own_of n b a → (magnitude x *ℤ total n (λ t. magnitude (a t)) -ℤ magnitude y *ℤ total n (λ t. magnitude (b t)) +ℤ (magnitude y *ℤ pos q +ℤ magnitude y *ℤ pos q))
      ≤ℤ total n (λ t. magnitude (x *ℤ a t +ℤ y *ℤ b t))
  left-over n q h =
      close (magnitude x *ℤ total n (λ t. magnitude (a t))) (magnitude y *ℤ total n (λ t. magnitude (b t))) (neg_ℤ (magnitude x) *ℤ total n (λ t. magnitude (a t)))
      (total n (λ t. magnitude (x *ℤ a t +ℤ y *ℤ b t))) (total n over) (magnitude y *ℤ pos q) (total-over n) (neg_mul (magnitude x) (total n (λ t. magnitude (a t)))) (total-part n q h)
    where
      close : (m n k f o own : ℤ) → o ≡ f +ℤ (k +ℤ n) → k ≡ neg_ℤ m → (own +ℤ own) ≤ℤ o → (m -ℤ n +ℤ (own +ℤ own)) ≤ℤ f
      close m n k f o own e g h = omega (arith, ints)

-- both rows' sums, and what each has to itself
at_least : (n : ℕ) (a b : ℕ → ℤ) (x y : ℤ) (m p k q : ℕ) → p ≤ own_of n a b → q ≤ own_of n b a → pos m ≡ total n (λ t. magnitude (a t)) → pos k ≡ total n (λ t. magnitude (b t))
    → least_left m p k q x y ≤ℤ total n (λ t. magnitude (x *ℤ a t +ℤ y *ℤ b t))
at_least n a b x y m p k q less more first second =
    let turned : total n (λ t. magnitude (y *ℤ b t +ℤ x *ℤ a t)) ≡ total n (λ t. magnitude (x *ℤ a t +ℤ y *ℤ b t)) =
    total-same n _ _ (λ t _. ap magnitude (+ℤ_comm (y *ℤ b t) (x *ℤ a t))) in
    both (magnitude x *ℤ pos m) (magnitude y *ℤ pos k) (total n (λ t. magnitude (x *ℤ a t +ℤ y *ℤ b t))) (magnitude x *ℤ pos p) (magnitude y *ℤ pos q)
    (magnitude x *ℤ (pos m -ℤ pos p)) (magnitude y *ℤ (pos k -ℤ pos q)) (mul_sub (magnitude x) (pos m) (pos p)) (mul_sub (magnitude y) (pos k) (pos q))
    (ap (λ z. magnitude x *ℤ z) first) (ap (λ z. magnitude y *ℤ z) second) (left-over a b x y n q more)
    (subst (λ z. (magnitude y *ℤ total n (λ t. magnitude (b t)) -ℤ magnitude x *ℤ total n (λ t. magnitude (a t)) +ℤ (magnitude x *ℤ pos p +ℤ magnitude x *ℤ pos p)) ≤ℤ z) turned (left-over b a y x n p less))
  where
    mul_sub : (k s o : ℤ) → k *ℤ (s -ℤ o) ≡ k *ℤ s -ℤ k *ℤ o
    mul_sub k s o = mul_add k s (neg_ℤ o) ∙ ap (λ z. k *ℤ s +ℤ z) (mul_neg k o)

    both : (m n f p q r s : ℤ) {u v : ℤ} → r ≡ m -ℤ p → s ≡ n -ℤ q → m ≡ u → n ≡ v → (u -ℤ v +ℤ (q +ℤ q)) ≤ℤ f → (v -ℤ u +ℤ (p +ℤ p)) ≤ℤ f → (p +ℤ q +ℤ magnitude (r -ℤ s)) ≤ℤ f
    both m n f p q r s d e g i h k = omega (arith, ints)

-- two rows leave no less than their sums and what each has to itself show
pub left-least : (width : ℕ) (rows : List Row) (r s : ℕ) (x y : ℤ) (m p k q : ℕ) → p ≤ own_of width (coefficient rows r) (coefficient rows s) → q ≤ own_of width (coefficient rows s) (coefficient rows r)
    → pos m ≡ row_sum width rows r → pos k ≡ row_sum width rows s → least_left m p k q x y ≤ℤ left_of_two width rows r s x y
left-least width rows r s x y m p k q less more first second = at_least width (coefficient rows r) (coefficient rows s) x y m p k q less more first second
