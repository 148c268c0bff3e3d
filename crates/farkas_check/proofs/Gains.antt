-- No multipliers of two rows pass where the gain of the one is outweighed by the other.
use Rattle.std.proofs.Common.{◌≡◌, ◌⊎◌, inl, inr, ℕ, ◌+◌, ◌-◌, ◌*◌, ◌≤◌, ℤ, pos, ◌+ℤ◌, ◌-ℤ◌, ◌*ℤ◌, ◌≤ℤ◌, unsigned_abs, refl, sym, ap, ◌∙◌, arith, subst}
use Rattle.std.proofs.Math.Nat.{mul-le-mul_left}
use Rattle.std.proofs.lemmas.Int.{ints, unsigned_abs-mul}
use Rattle.set_rules.specs.Sum.{magnitude}
use Rattle.farkas_check.specs.declared.side.Side.{Side}
use Rattle.farkas_check.specs.declared.pair.Pair.{Pair}
use Rattle.farkas_check.specs.Sides.{right_by, least_by, gain_of, margin_of, shared_of, IsOutweighed, IsOutweighedBy, AllWithin, AreOpposed, OpposedWithin}
use Rattle.farkas_check.proofs.Outweighed.{no_more}

times-add : (a b c : ℕ) → a * (b + c) ≡ a * b + a * c
times-add a b c = grind arith

-- so many times a right side, by what its row has to itself and by the gain
by-gain : (u : ℕ) (s : Side) → u * unsigned_abs s.right ≤ u * s.own + u * gain_of s
by-gain u s =
    let parts : unsigned_abs s.right ≤ s.own + gain_of s = omega arith in
    let more = mul-le-mul_left u parts in
    let split = times-add u s.own (gain_of s) in
    omega arith

-- and by the margin, where there is no gain
by-margin : (v : ℕ) (s : Side) → gain_of s ≡ 0 → v * unsigned_abs s.right + v * margin_of s ≡ v * s.own
by-margin v s none =
    let parts : unsigned_abs s.right + margin_of s ≡ s.own = omega (arith, none) in
    sym (times-add v (unsigned_abs s.right) (margin_of s)) ∙ ap (λ n. v * n) parts

-- how far the shared sums are apart, so many times
abbrev apart : ℕ → ℕ → Side → Side → ℕ
apart u v s o = unsigned_abs (pos (u * shared_of s) -ℤ pos (v * shared_of o))

-- both right sides are within what is left where the other row gains nothing and outweighs this one
together : (u v : ℕ) (s o : Side) → gain_of o ≡ 0 → IsOutweighed s (margin_of o) o
    → u * unsigned_abs s.right + v * unsigned_abs o.right ≤ u * s.own + v * o.own + apart u v s o
together u v s o none outweighed =
    let gained = by-gain u s in
    let lost = by-margin v o none in
    let more = no_more u v (gain_of s) (shared_of s) (margin_of o) (shared_of o) outweighed.within outweighed.outweighed in
    omega arith

-- the one right side is within what is left and the other
against : (u v : ℕ) (s o : Side) → IsOutweighed s (unsigned_abs o.right + o.own) o
    → u * unsigned_abs s.right ≤ v * unsigned_abs o.right + (u * s.own + v * o.own + apart u v s o)
against u v s o outweighed =
    let gained = by-gain u s in
    let split = times-add v (unsigned_abs o.right) o.own in
    let more = no_more u v (gain_of s) (shared_of s) (unsigned_abs o.right + o.own) (shared_of o) outweighed.within outweighed.outweighed in
    omega arith

other-way : (m n : ℕ) → unsigned_abs (pos m -ℤ pos n) ≡ unsigned_abs (pos n -ℤ pos m)
other-way m n = omega (arith, ints)

module _ (p : Pair) (x y : ℤ) where
  abbrev u : ℕ
  u = unsigned_abs x

  abbrev v : ℕ
  v = unsigned_abs y

  -- what is left at the least
  abbrev left : ℕ
  left = u * p.first.own + v * p.second.own + apart u v p.first p.second

  least-is : pos left ≡ least_by p x y
  least-is = λ i. pos (u * p.first.own) +ℤ pos (v * p.second.own) +ℤ magnitude (pos u *ℤ less p.first i -ℤ pos v *ℤ less p.second i)
    where
      less : (s : Side) → pos (shared_of s) ≡ (pos s.sum -ℤ pos s.own)
      less s = let within = s.within in omega (arith, ints)

  first-is : unsigned_abs (x *ℤ p.first.right) ≡ u * unsigned_abs p.first.right
  first-is = unsigned_abs-mul x p.first.right

  second-is : unsigned_abs (y *ℤ p.second.right) ≡ v * unsigned_abs p.second.right
  second-is = unsigned_abs-mul y p.second.right

  added : u * unsigned_abs p.first.right + v * unsigned_abs p.second.right ≤ left → magnitude (right_by p x y) ≤ℤ least_by p x y
  added h = subst (λ z. magnitude (right_by p x y) ≤ℤ z) least-is (close (x *ℤ p.first.right) (y *ℤ p.second.right) left first-is second-is h)
    where
      close : (a b : ℤ) (k : ℕ) {m n : ℕ} → unsigned_abs a ≡ m → unsigned_abs b ≡ n → m + n ≤ k → magnitude (a +ℤ b) ≤ℤ pos k
      close a b k e f h = omega (arith, ints)

  taken : AreOpposed p x y → u * unsigned_abs p.first.right ≤ v * unsigned_abs p.second.right + left → v * unsigned_abs p.second.right ≤ u * unsigned_abs p.first.right + left
      → magnitude (right_by p x y) ≤ℤ least_by p x y
  taken opposed h k = subst (λ z. magnitude (right_by p x y) ≤ℤ z) least-is (by opposed)
    where
      close : (a b : ℤ) (k : ℕ) {m n : ℕ} → unsigned_abs a ≡ m → unsigned_abs b ≡ n → a ≤ℤ pos 0 → pos 0 ≤ℤ b → m ≤ n + k → n ≤ m + k → magnitude (a +ℤ b) ≤ℤ pos k
      close a b k e f i j h l = omega (arith, ints)

      close' : (a b : ℤ) (k : ℕ) {m n : ℕ} → unsigned_abs a ≡ m → unsigned_abs b ≡ n → pos 0 ≤ℤ a → b ≤ℤ pos 0 → m ≤ n + k → n ≤ m + k → magnitude (a +ℤ b) ≤ℤ pos k
      close' a b k e f i j h l = omega (arith, ints)

      by : AreOpposed p x y → magnitude (right_by p x y) ≤ℤ pos left
      by (inl o) = close (x *ℤ p.first.right) (y *ℤ p.second.right) left first-is second-is o.0 o.1 h k
      by (inr o) = close' (x *ℤ p.first.right) (y *ℤ p.second.right) left first-is second-is o.0 o.1 h k

module _ (p : Pair) where
  pub first-outweighed : IsOutweighedBy p.first p.second → AllWithin p
  first-outweighed is x y = added p x y (together (unsigned_abs x) (unsigned_abs y) p.first p.second is.none is.by)

  pub second-outweighed : IsOutweighedBy p.second p.first → AllWithin p
  second-outweighed is x y =
      let h = together (unsigned_abs y) (unsigned_abs x) p.second p.first is.none is.by in
      let e = other-way (unsigned_abs y * shared_of p.second) (unsigned_abs x * shared_of p.first) in
      added p x y (omega arith)

  pub opposed-outweighed : IsOutweighed p.first (unsigned_abs p.second.right + p.second.own) p.second → IsOutweighed p.second (unsigned_abs p.first.right + p.first.own) p.first
      → OpposedWithin p
  opposed-outweighed first second x y opposed =
      let h = against (unsigned_abs x) (unsigned_abs y) p.first p.second first in
      let k = against (unsigned_abs y) (unsigned_abs x) p.second p.first second in
      let e = other-way (unsigned_abs y * shared_of p.second) (unsigned_abs x * shared_of p.first) in
      taken p x y opposed h (omega arith)
