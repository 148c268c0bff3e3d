use Rattle.std.proofs.Common.{◌≡◌, ℕ, ◌+◌, ◌*◌, ◌/◌, ◌^◌, ◌<◌, ◌≤◌, max, ap, ◌∙◌, sym, arith, mul-le-mul, nat_le}
use Rattle.std.specs.Prelude.{IsTrue}
use Rattle.std.proofs.lemmas.Bool.Decides.{nat_tests}
use Rattle.std.proofs.Math.Nat.{mul_assoc, mul_comm, div-mul-le_self, lt-div-mul-add, div-lt_iff_lt-mul}
use Rattle.std.proofs.lemmas.Nat.{pow_pos}
use Rattle.farkas_check.proofs.gain.is_product_within.Goals as goal
use Rattle.farkas_check.proofs.gain.is_product_within.Goals.{After-halvings_of-halvings}

-- a number that is no greater than one that the halvings bring below 2 ^ 31
below : (size n k : ℕ) → 0 < k → size / k < 2 ^ 31 → n ≤ size → n / k < 2 ^ 31
below size n k some small h = let most = (div-lt_iff_lt-mul {k = k} {x = size} {y = 2 ^ 31} some).0 small in (div-lt_iff_lt-mul {k = k} {x = n} {y = 2 ^ 31} some).1 (omega arith)

-- two products of parts, of which the one is within the other
within : (a b c d k : ℕ) → 0 < k → (a / k + 1) * (b / k + 1) ≤ (c / k) * (d / k) → a * b ≤ c * d
within a b c d k some h =
    let first : a ≤ (a / k + 1) * k = let l = lt-div-mul-add {a = a} {b = k} some in let split = add-one (a / k) k in omega arith in
    let second : b ≤ (b / k + 1) * k = let l = lt-div-mul-add {a = b} {b = k} some in let split = add-one (b / k) k in omega arith in
    let most : a * b ≤ ((a / k + 1) * k) * ((b / k + 1) * k) = mul-le-mul first second in
    let least : ((c / k) * k) * ((d / k) * k) ≤ c * d = mul-le-mul (div-mul-le_self c k) (div-mul-le_self d k) in
    let left = sorted (a / k + 1) k (b / k + 1) k in
    let right = sorted (c / k) k (d / k) k in
    let scaled : ((a / k + 1) * (b / k + 1)) * (k * k) ≤ ((c / k) * (d / k)) * (k * k) = mul-le-mul h (omega arith) in
    omega arith
  where
    add-one : (m k : ℕ) → (m + 1) * k ≡ m * k + k
    add-one m k = grind arith

    sorted : (m k n l : ℕ) → (m * k) * (n * l) ≡ (m * n) * (k * l)
    sorted m k n l = mul_assoc m k (n * l) ∙ ap (λ x. m * x) (sym (mul_assoc k n l) ∙ ap (λ x. x * l) (mul_comm k n) ∙ mul_assoc n k l) ∙ sym (mul_assoc m n (k * l))

-- the products of such parts fit
fitting : (m n : ℕ) → m < 2 ^ 31 → n < 2 ^ 31 → (m + 1) * (n + 1) < 2 ^ 128
fitting m n h k =
    let p : m + 1 ≤ 2 ^ 31 = omega arith in
    let q : n + 1 ≤ 2 ^ 31 = omega arith in
    let most = mul-le-mul p q in
    omega arith

fitting' : (m n : ℕ) → m < 2 ^ 31 → n < 2 ^ 31 → m * n < 2 ^ 128
fitting' m n h k =
    let p : m ≤ 2 ^ 31 = omega arith in
    let q : n ≤ 2 ^ 31 = omega arith in
    let most = mul-le-mul p q in
    omega arith

in-max : (m n k : ℕ) → k ≡ max m n → (m ≤ k) × (n ≤ k)
in-max m n k e = (omega (arith, e), omega (arith, e))

module _ (c : After-halvings_of-halvings) where
  abbrev parts : ℕ
  parts = 2 ^ c.halvings_of-halvings.result

  part : (n : ℕ) → n ≤ c.max-3.result → n / parts < 2 ^ 31
  part n h = below c.max-3.result n parts (pow_pos c.halvings_of-halvings.result) c.halvings_of-halvings.ensures.below h

  small : ((c.args.a / parts < 2 ^ 31) × (c.args.b / parts < 2 ^ 31)) × ((c.args.c / parts < 2 ^ 31) × (c.args.d / parts < 2 ^ 31))
  small =
      let one = in-max c.args.a c.args.b c.max.result c.max.ensures in
      let two = in-max c.max.result c.args.c c.max-2.result c.max-2.ensures in
      let three = in-max c.max-2.result c.args.d c.max-3.result c.max-3.ensures in (
        (part c.args.a (omega (arith, one.0, two.0, three.0)), part c.args.b (omega (arith, one.1, two.0, three.0))),
        (part c.args.c (omega (arith, two.1, three.0)), part c.args.d three.1),
      )

pub overflow_mul-result : goal.overflow_mul-result
overflow_mul-result c =
    let s = small (goal.at.overflow_mul-result c).After-halvings_of-halvings in
    record { fits = fitting (c.args.a / 2 ^ c.halvings_of-halvings.result) (c.args.b / 2 ^ c.halvings_of-halvings.result) s.0.0 s.0.1 }

pub overflow_mul-result-2 : goal.overflow_mul-result-2
overflow_mul-result-2 c =
    let s = small (goal.at.overflow_mul-result-2 c).After-halvings_of-halvings in
    record { fits = fitting' (c.args.c / 2 ^ c.halvings_of-halvings.result) (c.args.d / 2 ^ c.halvings_of-halvings.result) s.1.0 s.1.1 }

le-of : (m n : ℕ) → IsTrue (nat_le m n) → m ≤ n
le-of m n is = grind (arith, nat_tests)

pub returns : goal.returns
returns c = λ is. within c.args.a c.args.b c.args.c c.args.d (2 ^ c.halvings_of-halvings.result) (pow_pos c.halvings_of-halvings.result) (le-of _ _ is)
