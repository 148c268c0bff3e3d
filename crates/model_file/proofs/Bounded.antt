-- The bounds that a model file gives pass the tests of a plant.
use Rattle.std.proofs.Common.{◌≡◌, ℕ, zero, suc, ◌+◌, ◌<◌, ◌≤◌, Bool, true, false, ◌&&◌, if◌then◌else◌, List, [], ◌∷◌, length, take, slice_set, ℤ, pos, negsuc, neg_ℤ, unsigned_abs, nat_lt, nat_le, int_le, Result, Ok, Err, None, refl, sym, subst, arith}
use Rattle.std.proofs.lemmas.Bool.Decides.{nat_tests}
use Rattle.std.proofs.lemmas.Int.{ints}
use Rattle.std.specs.List.{list_all}
use Rattle.toml.specs.Data.{Data}
use Rattle.set_rules.specs.Columns.{at}
use Rattle.set_rules.specs.Zono.{range}
use Rattle.plant_model.specs.Plant.{Plant}
use Rattle.plant_model.specs.Signs.{is_not_negative}
use Rattle.plant_model.specs.Parts.{judged, has_counts, has_no_negative, first_leaving, leaves}
use Rattle.plant_model.proofs.FirstBelow.{first_below-fails}
use Rattle.model_file.specs.declared.place.Path.{Path}
use Rattle.model_file.specs.declared.place.Field.{Field}
use Rattle.model_file.specs.declared.plants.Counts.{Counts}
use Rattle.dec_text.specs.Steps.{◌>>=◌, passing, each_from}
use Rattle.model_file.specs.Reads.{Judged, value_at, array_of}
use Rattle.model_file.specs.Places.{of_model, item_of}
use Rattle.model_file.specs.Numbers.{entry, number_in, written, zeros, vector, is_from, is_within, is_radius}
use Rattle.model_file.specs.Models.{Matrices, Bounds, bounds_of, made}
use Rattle.model_file.specs.Parts.{AreCounts}

-- steps that are passed, each with its value
pub bind-ok : {A B E : Type 0} (o : Result A E) (f : A → Result B E) (y : B) → (o >>= f) ≡ Ok y → (x : A) × (o ≡ Ok x) × (f x ≡ Ok y)
bind-ok (Ok x) f y h = (x, refl, h)
bind-ok (Err e) f y h = absurd (cc)

pub ok-value : {A E : Type 0} (x y : A) → ◌≡◌ {A = Result A E} (Ok x) (Ok y) → x ≡ y
ok-value x y h = cc

pub passing-ok : {A E : Type 0} (test : A → Bool) (e : E) (x y : A) → passing test e x ≡ Ok y → (test x ≡ true) × (x ≡ y)
passing-ok test e x y h = by (test x) refl h
  where
    by : (b : Bool) → test x ≡ b → (if b then Ok x else Err e) ≡ Ok y → (test x ≡ true) × (x ≡ y)
    by true is h = (is, cc)
    by false is h = absurd (cc)

-- a number that was read passes its test
entry-passes : (test : ℤ → Bool) (path : Path) (d : Data) (z : ℤ) → entry test path d ≡ Ok z → test z ≡ true
entry-passes test path d z read =
    let number = bind-ok (number_in path d) (passing test _) z read in
    let passed = passing-ok test _ number.0 z number.2 in
    subst (λ n. test n ≡ true) passed.1 passed.0

-- and so do numbers that were read one after another
each-passes : (test : ℕ → ℤ → Bool) (path : Path) (i : ℕ) (ds : List Data) (zs : List ℤ) → each_from i (λ r. entry (test r) (item_of path r)) ds ≡ Ok zs
    → (k : ℕ) → k < length zs → test (i + k) (at zs k) ≡ true
each-passes test path i [] [] read k below = absurd (omega arith)
each-passes test path i [] (z ∷ zs) read k below = absurd (cc)
each-passes test path i (d ∷ ds) zs read k below =
    let first = bind-ok (entry (test i) (item_of path i) d) (λ y. each_from (i + 1) (λ r. entry (test r) (item_of path r)) ds >>= λ ys. Ok (y ∷ ys)) zs read in
    let others = bind-ok (each_from (i + 1) (λ r. entry (test r) (item_of path r)) ds) (λ ys. Ok (first.0 ∷ ys)) zs first.2 in
    let list : zs ≡ first.0 ∷ others.0 = let h = others.2 in cc in
    subst (λ xs. (k : ℕ) → k < length xs → test (i + k) (at xs k) ≡ true) (sym list) (by first.0 others.0 first.1 (each-passes test path (i + 1) ds others.0 others.1)) k below
  where
    by : (z : ℤ) (zs : List ℤ) → entry (test i) (item_of path i) d ≡ Ok z → ((k : ℕ) → k < length zs → test (i + 1 + k) (at zs k) ≡ true)
        → (k : ℕ) → k < length (z ∷ zs) → test (i + k) (at (z ∷ zs) k) ≡ true
    by z zs first rest zero below = let here : i + 0 ≡ i = omega arith in rw here (entry-passes (test i) (item_of path i) d z first)
    by z zs first rest (suc k) below = let there : i + suc k ≡ i + 1 + k = omega arith in rw there (rest k (omega arith))

-- what holds of each entry of a list, and of a number written over it, holds of each entry afterwards
set-keeps : (P : ℕ → ℤ → Type 0) (m : List ℤ) (j : ℕ) (z : ℤ) → ((k : ℕ) → P k (at m k)) → P j z → (k : ℕ) → P k (at (slice_set m j z) k)
set-keeps P [] j z all here k = all k
set-keeps P (x ∷ m) zero z all here zero = here
set-keeps P (x ∷ m) zero z all here (suc k) = all (suc k)
set-keeps P (x ∷ m) (suc j) z all here zero = all zero
set-keeps P (x ∷ m) (suc j) z all here (suc k) = set-keeps (λ i. P (suc i)) m j z (λ k. all (suc k)) here k

-- the same of numbers written one after another
written-keeps : (P : ℕ → ℤ → Type 0) (m : List ℤ) (j : ℕ) (zs : List ℤ) → ((k : ℕ) → P k (at m k)) → ((k : ℕ) → k < length zs → P (j + k) (at zs k)) → (k : ℕ) → P k (at (written m j zs) k)
written-keeps P m j [] all new k = all k
written-keeps P m j (z ∷ zs) all new k =
    let here : j + 0 ≡ j = omega arith in
    written-keeps P (slice_set m j z) (j + 1) zs (set-keeps P m j z all (subst (λ i. P i z) here (new 0 (omega arith))))
    (λ k below. let there : j + suc k ≡ j + 1 + k = omega arith in subst (λ i. P i (at zs k)) there (new (suc k) (omega arith)))
    k

at-zeros : (n k : ℕ) → at (zeros n) k ≡ pos 0
at-zeros zero k = refl
at-zeros (suc n) zero = refl
at-zeros (suc n) (suc k) = at-zeros n k

-- each entry of a list that was read is zero or passes its test
vector-keeps : (P : ℕ → ℤ → Type 0) (room : ℕ) (test : ℕ → ℤ → Bool) (path : Path) (want : ℕ) (d : Data) (xs : List ℤ) → vector room test path want d ≡ Ok xs
    → ((k : ℕ) → P k (pos 0)) → ((k : ℕ) (z : ℤ) → test k z ≡ true → P k z) → (k : ℕ) → P k (at xs k)
unfolding vector
vector-keeps P room test path want d xs read none some =
    let step : ℕ → Data → Judged ℤ = λ i. entry (test i) (item_of path i) in
    let numbers = bind-ok ((value_at path d >>= array_of want path) >>= each_from 0 step) (λ zs. Ok (written (zeros room) 0 zs)) xs read in
    let items = bind-ok (value_at path d >>= array_of want path) (each_from 0 step) numbers.0 numbers.1 in
    let list : written (zeros room) 0 numbers.0 ≡ xs = let h = numbers.2 in cc in
    let passed = each-passes test path 0 items.0 numbers.0 items.2 in
    subst (λ ys. (k : ℕ) → P k (at ys k)) list
    (written-keeps P (zeros room) 0 numbers.0 (λ k. subst (P k) (sym (at-zeros room k)) (none k)) (λ k below. let here : 0 + k ≡ k = omega arith in subst (λ i. P i (at numbers.0 k)) (sym here) (some k (at numbers.0 k) (subst (λ i. test i (at numbers.0 k) ≡ true) here (passed k below)))))

-- a test that each entry passes
all-by-index : (p : ℤ → Bool) (xs : List ℤ) → ((k : ℕ) → p (at xs k) ≡ true) → list_all p xs ≡ true
all-by-index p [] each = refl
all-by-index p (x ∷ xs) each = let first = each 0 in rw first (all-by-index p xs (λ k. each (suc k)))

all-take : (p : ℤ → Bool) (n : ℕ) (xs : List ℤ) → ((k : ℕ) → p (at xs k) ≡ true) → list_all p (take n xs) ≡ true
all-take p zero xs each = refl
all-take p (suc n) [] each = refl
all-take p (suc n) (x ∷ xs) each = let first = each 0 in rw first (all-take p n xs (λ k. each (suc k)))

amount : (z : ℤ) → is_from (pos 0) z ≡ true → is_not_negative z ≡ true
amount (pos n) passed = refl
amount (negsuc n) passed = absurd (cc)

-- what passes two tests
both : (a b : Bool) → (a && b) ≡ true → (a ≡ true) × (b ≡ true)
both true b h = (refl, h)
both false b h = absurd (cc)

-- the centre stays in the range, and the radius does not lead out of it
centred : (z : ℤ) → is_from (neg_ℤ (pos range)) z ≡ true → unsigned_abs z ≤ range
centred z passed = let within : is_within range z ≡ true = (both (int_le (neg_ℤ (pos range)) z) (is_within range z) passed).1 in grind (arith, nat_tests)

-- a radius beside an entry of the centre
abbrev IsBeside : ℤ → ℤ → Type 0
IsBeside c z = (is_not_negative z ≡ true) × (unsigned_abs c + unsigned_abs z ≤ range)

beside : (centre : List ℤ) (k : ℕ) (z : ℤ) → is_radius centre k z ≡ true → IsBeside (at centre k) z
beside centre k z passed =
    let parts = both (is_from (pos 0) z) (nat_le (unsigned_abs (at centre k) + unsigned_abs z) range) passed in
    (amount z parts.0, let h = parts.1 in grind (arith, nat_tests))

-- a plant that passes each test
judged-ok : (p : Plant) → has_counts p ≡ true → has_no_negative p ≡ true → first_leaving p ≡ None → judged p ≡ Ok p
judged-ok p counts signs none = rw (counts, signs, none) refl

counts-ok : (n : ℕ) (k : Counts) (m : Matrices) (r : Bounds) → 1 ≤ n → n ≤ 8 → AreCounts k → has_counts (made n k m r) ≡ true
counts-ok n k m r some few counts =
    let inputs = counts.few_inputs in
    let output = counts.some_output in
    let outputs = counts.few_outputs in
    let disturbances = counts.few_disturbances in
    grind (arith, nat_tests)

all-three : (a b c : Bool) → a ≡ true → b ≡ true → c ≡ true → (a && (b && c)) ≡ true
all-three a b c x y z = rw (x, y, z) refl

within : (c z : ℤ) → unsigned_abs c + unsigned_abs z ≤ range → nat_lt range (unsigned_abs c + unsigned_abs z) ≡ false
within c z small = grind (arith, nat_tests)

alone : (c : ℤ) → unsigned_abs c ≤ range → unsigned_abs c + unsigned_abs (pos 0) ≤ range
alone c small = omega (arith, ints)

-- the plant of bounds that were read passes, whatever its matrices are
pub bounds_pass : (i n : ℕ) (k : Counts) (d : Data) (m : Matrices) (r : Bounds) → bounds_of i n k d ≡ Ok r → 1 ≤ n → n ≤ 8 → AreCounts k → judged (made n k m r) ≡ Ok (made n k m r)
unfolding bounds_of
bounds_pass i n k d m r read some few counts =
    let noise = bind-ok (vector 6 (λ o. is_from (pos 0)) (of_model i Field.Noise) k.outputs d) _ r read in
    let centre = bind-ok (vector n (λ j. is_from (neg_ℤ (pos range))) (of_model i Field.Centre) n d) _ r noise.2 in
    let radius = bind-ok (vector n (is_radius centre.0) (of_model i Field.Radius) n d) _ r centre.2 in
    let bound = bind-ok (vector n (λ j. is_from (pos 0)) (of_model i Field.StateMax) n d) _ r radius.2 in
    let b : Bounds = record { noise = noise.0; centre = centre.0; radius = radius.0; state_max = bound.0 } in
    let whole : b ≡ r = let h = bound.2 in cc in
    let not_negative : ℕ → ℤ → Type 0 = λ j z. is_not_negative z ≡ true in
    let noises = vector-keeps not_negative 6 (λ o. is_from (pos 0)) (of_model i Field.Noise) k.outputs d noise.0 noise.1 (λ j. refl) (λ j. amount) in
    let bounds = vector-keeps not_negative n (λ j. is_from (pos 0)) (of_model i Field.StateMax) n d bound.0 bound.1 (λ j. refl) (λ j. amount) in
    let middle = vector-keeps (λ j z. unsigned_abs z ≤ range) n (λ j. is_from (neg_ℤ (pos range))) (of_model i Field.Centre) n d centre.0 centre.1 (λ j. omega (arith, ints)) (λ j. centred) in
    let radii = vector-keeps (λ j. IsBeside (at centre.0 j)) n (is_radius centre.0) (of_model i Field.Radius) n d radius.0 radius.1 (λ j. (refl, alone (at centre.0 j) (middle j))) (beside centre.0) in
    subst (λ r. judged (made n k m r) ≡ Ok (made n k m r)) whole
    (judged-ok (made n k m b) (counts-ok n k m b some few counts)
    (all-three _ _ _ (all-take is_not_negative k.outputs noise.0 noises) (all-by-index is_not_negative radius.0 (λ j. (radii j).0)) (all-by-index is_not_negative bound.0 bounds))
    (first_below-fails (leaves (made n k m b)) n (λ j below. within (at centre.0 j) (at radius.0 j) (radii j).1)))
