-- The least number below a bound that passes a test, by a search from below.
use Rattle.std.proofs.Common.{◌≡◌, ℕ, zero, suc, ◌+◌, ◌<◌, Bool, true, false, Option, Some, None, refl, add-one, subst, arith, ◌⊎◌, inl, inr}
use Rattle.set_rules.specs.Tests.{first_below}

-- one number more that fails
pub first_below-more : (p : ℕ → Bool) (i : ℕ) → first_below i p ≡ None → p i ≡ false → first_below (i + 1) p ≡ None
unfolding first_below
first_below-more p i none fails = rw (add-one, none, fails) refl

-- below or at
split : (i n : ℕ) → i < suc n → (i < n) ⊎ (i ≡ n)
split i n below = grind arith

-- the first that passes
pub first_below-found : (p : ℕ → Bool) (n i : ℕ) → i < n → first_below i p ≡ None → p i ≡ true → first_below n p ≡ Some i
unfolding first_below
first_below-found p zero i below none passes = absurd (omega arith)
first_below-found p (suc n) i below none passes = by (split i n below) (λ before. first_below-found p n i before none passes)
  where
    by : (i < n) ⊎ (i ≡ n) → (i < n → first_below n p ≡ Some i) → first_below (suc n) p ≡ Some i
    by (inl before) earlier = let found = earlier before in rw found refl
    by (inr same) earlier = subst (λ m. first_below (suc m) p ≡ Some i) same (rw (none, passes) refl)

-- where none is found, none passes
pub first_below-none : (p : ℕ → Bool) (n : ℕ) → first_below n p ≡ None → (i : ℕ) → i < n → p i ≡ false
unfolding first_below
first_below-none p zero none i below = absurd (omega arith)
first_below-none p (suc n) none i below =
    by (first_below n p) refl (p n) refl (split i n below) (λ before. first_below-none p n before i)
  where
    by : (o : Option ℕ) → first_below n p ≡ o → (b : Bool) → p n ≡ b → (i < n) ⊎ (i ≡ n) → (first_below n p ≡ None → i < n → p i ≡ false) → p i ≡ false
    by (Some m) found b last at earlier = absurd (let h = rw found at none in cc)
    by None before b last (inl lower) earlier = earlier before lower
    by None before true last (inr same) earlier = absurd (let h = rw (before, last) at none in cc)
    by None before false last (inr same) earlier = rw same last

-- and the converse
pub first_below-fails : (p : ℕ → Bool) (n : ℕ) → ((i : ℕ) → i < n → p i ≡ false) → first_below n p ≡ None
unfolding first_below
first_below-fails p zero fails = refl
first_below-fails p (suc n) fails = let last = fails n (omega arith) in rw (first_below-fails p n (λ i below. fails i (omega arith)), last) refl
