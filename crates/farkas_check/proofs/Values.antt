-- Lists of at most six multipliers, as the code makes them.
use Rattle.std.proofs.Common.{◌≡◌, ℕ, ◌<◌, ◌≤◌, ◌⊎◌, ⊎_elim, List, [], ◌∷◌, length, take, set, Bool, true, false, suc, ◌&&◌, nat_le, nat_eq, if◌then◌else◌, ℤ, pos, unsigned_abs, replicate, refl, sym, ap, ◌∙◌, arith, length-set, get_or-set_same, get_or-set_other, get_or-take, subst}
use Rattle.std.proofs.lemmas.List.{ext_get_or, length-take-le, get_or-replicate}
use Rattle.std.proofs.lemmas.Bool.Decides.{nat_tests}
use Rattle.set_rules.specs.Columns.{at, tabulate}
use Rattle.set_rules.specs.Farkas.{unit_list, pair_list}
use Rattle.set_rules.proofs.ImageSets.{length-tabulate, get_or-tabulate}
use Rattle.farkas_check.specs.Multipliers.{are_small}

-- the front of a list, by its entries
front-is : (values : List ℤ) (count : ℕ) (f : ℕ → ℤ) → count ≤ length values → ((i : ℕ) → i < count → at values i ≡ f i) → take count values ≡ tabulate count f
front-is values count f few h =
    let long = length-take-le count values few in
    ext_get_or (pos 0) (take count values) (tabulate count f) (long ∙ sym (length-tabulate count f))
    (λ i l. let m : i < count = omega arith in get_or-take count values i (pos 0) m ∙ h i m ∙ sym (get_or-tabulate count f i (pos 0) m))

-- a list is small where each entry is
each-small : (list : List ℤ) → ((i : ℕ) → i < length list → unsigned_abs (at list i) ≤ 2_147_483_647) → are_small list ≡ true
each-small [] h = refl
each-small (x ∷ list) h = both (unsigned_abs x) (are_small list) (h 0 (omega arith)) (each-small list (λ i l. h (suc i) (omega arith)))
  where
    both : (n : ℕ) (b : Bool) → n ≤ 2_147_483_647 → b ≡ true → (nat_le n 2_147_483_647 && b) ≡ true
    both n b h e = grind (arith, nat_tests)

tabulate-small : (count : ℕ) (f : ℕ → ℤ) → ((i : ℕ) → unsigned_abs (f i) ≤ 2_147_483_647) → are_small (tabulate count f) ≡ true
tabulate-small count f h =
    let long = length-tabulate count f in
    each-small (tabulate count f) (λ i l. subst (λ z. unsigned_abs z ≤ 2_147_483_647) (sym (get_or-tabulate count f i (pos 0) (omega arith))) (h i))

abbrev zeros : List ℤ
zeros = replicate 6 (pos 0)

zero-at : (i : ℕ) → i < 6 → at zeros i ≡ pos 0
zero-at i h = get_or-replicate 6 i (pos 0) (pos 0) h

-- one number among zeros, and the one after
module _ (list : List ℤ) (r i : ℕ) (x : ℤ) where
  set-at : i ≡ r → r < length list → at (set list r x) i ≡ x
  set-at e h = ap (at (set list r x)) e ∙ get_or-set_same list r x (pos 0) h

  set-off : ¬ (i ≡ r) → at (set list r x) i ≡ at list i
  set-off ne = get_or-set_other list r i x (pos 0) ne

equal : (i j : ℕ) → (i ≡ j) ⊎ (¬ (i ≡ j))
equal i j = grind arith

pub unit-values : (count r : ℕ) → count ≤ 6 → r < count → take count (set zeros r (pos 1)) ≡ unit_list count r
unit-values count r few h = front-is (set zeros r (pos 1)) count (λ i. if nat_eq i r then pos 1 else pos 0) (let long = length-set zeros r (pos 1) in omega arith) entry
  where
    yes : (i r : ℕ) → i ≡ r → pos 1 ≡ (if nat_eq i r then pos 1 else pos 0)
    yes i r e = grind (arith, nat_tests)

    none : (i r : ℕ) → ¬ (i ≡ r) → pos 0 ≡ (if nat_eq i r then pos 1 else pos 0)
    none i r e = grind (arith, nat_tests)

    entry : (i : ℕ) → i < count → at (set zeros r (pos 1)) i ≡ (if nat_eq i r then pos 1 else pos 0)
    entry i l = ⊎_elim
        (λ (e : i ≡ r). set-at zeros r i (pos 1) e (omega arith) ∙ yes i r e)
        (λ (ne : ¬ (i ≡ r)). set-off zeros r i (pos 1) ne ∙ zero-at i (omega arith) ∙ none i r ne)
        (equal i r)

pub pair-values : (count r s : ℕ) (x y : ℤ) → count ≤ 6 → r < s → s < count → take count (set (set zeros r x) s y) ≡ pair_list count r s x y
pair-values count r s x y few less h =
    front-is (set (set zeros r x) s y) count (λ i. if nat_eq i r then x else (if nat_eq i s then y else pos 0)) (let long = length-set (set zeros r x) s y in let short = length-set zeros r x in omega arith) entry
  where
    first : (i : ℕ) → i ≡ r → x ≡ (if nat_eq i r then x else (if nat_eq i s then y else pos 0))
    first i e = grind (arith, nat_tests)

    second : (i : ℕ) → i ≡ s → y ≡ (if nat_eq i r then x else (if nat_eq i s then y else pos 0))
    second i e = grind (arith, nat_tests)

    none : (i : ℕ) → ¬ (i ≡ r) → ¬ (i ≡ s) → pos 0 ≡ (if nat_eq i r then x else (if nat_eq i s then y else pos 0))
    none i e f = grind (arith, nat_tests)

    entry : (i : ℕ) → i < count → at (set (set zeros r x) s y) i ≡ (if nat_eq i r then x else (if nat_eq i s then y else pos 0))
    entry i l = ⊎_elim
        (λ (e : i ≡ s). set-at (set zeros r x) s i y e (let short = length-set zeros r x in omega arith) ∙ second i e)
        (λ (off : ¬ (i ≡ s)). set-off (set zeros r x) s i y off ∙ ⊎_elim
        (λ (e : i ≡ r). set-at zeros r i x e (omega arith) ∙ first i e)
        (λ (ne : ¬ (i ≡ r)). set-off zeros r i x ne ∙ zero-at i (omega arith) ∙ none i ne off)
        (equal i r))
        (equal i s)

pub unit-small : (count r : ℕ) → are_small (unit_list count r) ≡ true
unit-small count r = tabulate-small count (λ i. if nat_eq i r then pos 1 else pos 0) each
  where
    each : (i : ℕ) → unsigned_abs (if nat_eq i r then pos 1 else pos 0) ≤ 2_147_483_647
    each i = by (nat_eq i r)
      where
        by : (b : Bool) → unsigned_abs (if b then pos 1 else pos 0) ≤ 2_147_483_647
        by true = omega arith
        by false = omega arith

pub pair-small : (count r s : ℕ) (x y : ℤ) → unsigned_abs x ≤ 2_147_483_647 → unsigned_abs y ≤ 2_147_483_647 → are_small (pair_list count r s x y) ≡ true
pair-small count r s x y h k = tabulate-small count (λ i. if nat_eq i r then x else (if nat_eq i s then y else pos 0)) (λ i. by (nat_eq i r) (nat_eq i s))
  where
    by : (a b : Bool) → unsigned_abs (if a then x else (if b then y else pos 0)) ≤ 2_147_483_647
    by true b = h
    by false true = k
    by false false = omega arith
