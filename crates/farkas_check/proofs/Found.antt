-- The first item that passes a test, in lists that are made from a function of the index.
use Rattle.std.proofs.Common.{◌≡◌, ℕ, zero, suc, ◌+◌, ◌<◌, ◌≤◌, ◌⊎◌, ⊎_elim, List, map, Some, None, Bool, true, false, cond, find, flat_map, ap, ◌∙◌, arith, refl}
use Rattle.std.specs.List.{range_with_len}
use Rattle.std.specs.Option.{option_or}
use Rattle.std.proofs.lemmas.List.Folds.{find-append}

side : (a i : ℕ) → a ≤ i → (a ≡ i) ⊎ (a + 1 ≤ i)
side a i h = grind arith

-- every item before index i fails, and item i passes
pub found-each : {A : Type 0} (test : A → Bool) (f : ℕ → A) (a n i : ℕ) → a ≤ i → i < a + n
    → ((k : ℕ) → a ≤ k → k < i → test (f k) ≡ false) → test (f i) ≡ true → find test (map f (range_with_len a n)) ≡ Some (f i)
found-each test f a zero i low high before here = absurd (omega arith)
found-each test f a (suc n) i low high before here = ⊎_elim
    (λ (is : a ≡ i). ap (λ j. cond (test (f j)) (Some (f j)) (find test (map f (range_with_len (a + 1) n)))) is
    ∙ ap (λ b. cond b (Some (f i)) (find test (map f (range_with_len (a + 1) n)))) here)
    (λ (more : a + 1 ≤ i). ap (λ b. cond b (Some (f a)) (find test (map f (range_with_len (a + 1) n)))) (before a (omega arith) (omega arith))
    ∙ found-each test f (a + 1) n i more (omega arith) (λ k l. before k (omega arith)) here)
    (side a i low)

-- every item fails
pub missed-each : {A : Type 0} (test : A → Bool) (f : ℕ → A) (a n : ℕ)
    → ((k : ℕ) → a ≤ k → k < a + n → test (f k) ≡ false) → find test (map f (range_with_len a n)) ≡ None
missed-each test f a zero before = refl
missed-each test f a (suc n) before =
    ap (λ b. cond b (Some (f a)) (find test (map f (range_with_len (a + 1) n)))) (before a (omega arith) (omega arith))
    ∙ missed-each test f (a + 1) n (λ k l m. before k (omega arith) (omega arith))

-- no part before part i has an item that passes, and part i has one
pub found-part : {A : Type 0} (test : A → Bool) (f : ℕ → List A) (a n i : ℕ) (x : A) → a ≤ i → i < a + n
    → ((k : ℕ) → a ≤ k → k < i → find test (f k) ≡ None) → find test (f i) ≡ Some x → find test (flat_map f (range_with_len a n)) ≡ Some x
found-part test f a zero i x low high before here = absurd (omega arith)
found-part test f a (suc n) i x low high before here =
    find-append test (f a) (flat_map f (range_with_len (a + 1) n)) ∙ ⊎_elim
    (λ (is : a ≡ i). ap (λ j. option_or (find test (f j)) (find test (flat_map f (range_with_len (a + 1) n)))) is
    ∙ ap (λ o. option_or o (find test (flat_map f (range_with_len (a + 1) n)))) here)
    (λ (more : a + 1 ≤ i). ap (λ o. option_or o (find test (flat_map f (range_with_len (a + 1) n)))) (before a (omega arith) (omega arith))
    ∙ found-part test f (a + 1) n i x more (omega arith) (λ k l. before k (omega arith)) here)
    (side a i low)

-- no part has one
pub missed-part : {A : Type 0} (test : A → Bool) (f : ℕ → List A) (a n : ℕ)
    → ((k : ℕ) → a ≤ k → k < a + n → find test (f k) ≡ None) → find test (flat_map f (range_with_len a n)) ≡ None
missed-part test f a zero before = refl
missed-part test f a (suc n) before =
    find-append test (f a) (flat_map f (range_with_len (a + 1) n))
    ∙ ap (λ o. option_or o (find test (flat_map f (range_with_len (a + 1) n)))) (before a (omega arith) (omega arith))
    ∙ missed-part test f (a + 1) n (λ k l m. before k (omega arith) (omega arith))
