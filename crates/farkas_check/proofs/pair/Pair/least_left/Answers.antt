use Rattle.std.proofs.Common.{◌≡◌, ℕ, ◌+◌, ◌-◌, ◌*◌, ◌≤◌, ◌<◌, ◌^◌, pos, ◌-ℤ◌, ◌*ℤ◌, unsigned_abs, mul-le-mul, to_z-of_z, ap, ◌∙◌, arith}
use Rattle.std.proofs.lemmas.Int.{ints, fits_signed_from_abs}
use mir.Syntax.{w32}
use Rattle.std.specs.Int.{abs_diff}
use Rattle.set_rules.specs.Limits.{row_limit}
use Rattle.farkas_check.specs.Multipliers.{multiplied_limit}
use Rattle.farkas_check.proofs.pair.Pair.least_left.Goals as goal

-- a multiplier times a number of a row
product-within : (x n : ℕ) → x ≤ 2 ^ 31 → n ≤ row_limit → x * n ≤ multiplied_limit
product-within x n h k = let most : x * n ≤ 2 ^ 31 * row_limit = mul-le-mul h k in omega arith

-- how far two products are apart
apart : (x m p y n q : ℕ) → p ≤ m → q ≤ n → abs_diff (x * (m - p)) (y * (n - q)) ≡ unsigned_abs (pos x *ℤ (pos m -ℤ pos p) -ℤ pos y *ℤ (pos n -ℤ pos q))
apart x m p y n q h k = far (x * (m - p)) (y * (n - q)) ∙ (λ i. unsigned_abs (pos x *ℤ less m p h i -ℤ pos y *ℤ less n q k i))
  where
    less : (m p : ℕ) → p ≤ m → pos (m - p) ≡ pos m -ℤ pos p
    less m p h = omega (arith, ints)

    far : (a b : ℕ) → abs_diff a b ≡ unsigned_abs (pos a -ℤ pos b)
    far a b = omega (arith, ints)

-- all of it fits
small : (p q d m n : ℕ) → p ≤ multiplied_limit → q ≤ multiplied_limit → m ≤ multiplied_limit → n ≤ multiplied_limit → d ≡ abs_diff m n → p + q + d < 2 ^ 128
small p q d m n h k i j e = omega arith

pub overflow_add-result-2 : goal.overflow_add-result-2
overflow_add-result-2 c = record {
  fits = small (c.from-x.result * c.args.self.now.first.own) (c.from-y.result * c.args.self.now.second.own) c.abs_diff.result
      (c.from-x.result * (c.args.self.now.first.sum - c.args.self.now.first.own)) (c.from-y.result * (c.args.self.now.second.sum - c.args.self.now.second.own))
      (product-within c.from-x.result c.args.self.now.first.own (omega arith) (omega arith)) (product-within c.from-y.result c.args.self.now.second.own (omega arith) (omega arith))
      (product-within c.from-x.result (c.args.self.now.first.sum - c.args.self.now.first.own) (omega arith) (omega arith))
      (product-within c.from-y.result (c.args.self.now.second.sum - c.args.self.now.second.own) (omega arith) (omega arith)) c.abs_diff.ensures;
}

pub returns : goal.returns
returns c =
    let x : c.from-x.result ≡ unsigned_abs c.args.by.first = c.from-x.ensures ∙ c.unsigned_abs.ensures.value ∙ ap unsigned_abs (to_z-of_z (fits_signed_from_abs w32 c.args.by.first (omega arith))) in
    let y : c.from-y.result ≡ unsigned_abs c.args.by.second = c.from-y.ensures ∙ c.unsigned_abs-2.ensures.value ∙ ap unsigned_abs (to_z-of_z (fits_signed_from_abs w32 c.args.by.second (omega arith))) in
    let far = c.abs_diff.ensures ∙ apart c.from-x.result c.args.self.now.first.sum c.args.self.now.first.own c.from-y.result c.args.self.now.second.sum c.args.self.now.second.own (omega arith) (omega arith) in
    (λ i. pos (x i * c.args.self.now.first.own + y i * c.args.self.now.second.own + (far ∙ (λ j. unsigned_abs (pos (x j) *ℤ (pos c.args.self.now.first.sum -ℤ pos c.args.self.now.first.own) -ℤ pos (y j) *ℤ (pos c.args.self.now.second.sum -ℤ pos c.args.self.now.second.own)))) i))
