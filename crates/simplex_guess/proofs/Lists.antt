-- Lists of small numbers are taken as multipliers.
use Rattle.std.proofs.Common.{◌≡◌, ℕ, suc, ◌≤◌, List, [], ◌∷◌, length, Bool, true, ◌&&◌, nat_le, nat_lt, if◌then◌else◌, Option, Some, None, option_map, IsSome, ℤ, unsigned_abs, refl, ap, ◌∙◌, arith}
use Rattle.std.proofs.lemmas.Bool.Decides.{nat_tests}
use Rattle.std.specs.List.{All}
use Rattle.farkas_check.specs.Certificate.{list_of}
use Rattle.farkas_check.specs.Multipliers.{are_multipliers, are_small}
use Rattle.farkas_check.specs.declared.certificate.Multipliers.{Multipliers}

-- a list is small where each entry is
each-small : (list : List ℤ) → All (λ v. unsigned_abs v ≤ 2_147_483_647) list → are_small list ≡ true
each-small [] h = refl
each-small (x ∷ list) h = both (unsigned_abs x) (are_small list) (h 0 x (omega arith)) (each-small list (λ k d l. h (suc k) d (omega arith)))
  where
    both : (n : ℕ) (b : Bool) → n ≤ 2_147_483_647 → b ≡ true → (nat_le n 2_147_483_647 && b) ≡ true
    both n b h e = grind (arith, nat_tests)

-- one to six small numbers are multipliers
are-multipliers : (list : List ℤ) → 1 ≤ length list → length list ≤ 6 → All (λ v. unsigned_abs v ≤ 2_147_483_647) list → are_multipliers list ≡ true
are-multipliers list some few h = every (length list) (are_small list) some few (each-small list h)
  where
    every : (n : ℕ) (b : Bool) → 1 ≤ n → n ≤ 6 → b ≡ true → (nat_lt 0 n && (nat_le n 6 && b)) ≡ true
    every n b some few e = grind (arith, nat_tests)

-- so they are taken
pub taken : (list : List ℤ) (o : Option Multipliers) → 1 ≤ length list → length list ≤ 6 → All (λ v. unsigned_abs v ≤ 2_147_483_647) list
    → option_map list_of o ≡ (if are_multipliers list then Some list else None) → IsSome o
taken list (Some m) some few h e = search arith
taken list None some few h e = let yes = are-multipliers list some few h in let wrong : None ≡ Some list = e ∙ ap (λ b. if b then Some list else None) yes in absurd (cc)
