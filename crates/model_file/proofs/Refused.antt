-- An array of which an item is refused.
use Rattle.std.proofs.Common.{◌≡◌, ℕ, suc, ◌+◌, ◌<◌, List, ◌∷◌, length, get_or, drop, map, Result, Ok, Err, sym, ap, ◌∙◌, add-one, drop-cons}
use Rattle.dec_text.specs.Steps.{◌>>=◌, each_from}

-- the item at index i is the first that is left
pub map-drop : {A B : Type 0} (f : A → B) (xs : List A) (i : ℕ) (x : A) → i < length xs → x ≡ get_or xs i x → map f (drop i xs) ≡ f x ∷ map f (drop (i + 1) xs)
map-drop f xs i x below is = rw (drop-cons xs i x below, add-one) (ap (λ y. f y ∷ map f (drop (suc i) xs)) (sym is))

module _ {A B C D E F : Type 0} (f : A → B) (step : ℕ → B → Result C E) (g : C → F) where
  -- an item that is refused
  each-refused : (h : List C → Result D E) (e : E) (i : ℕ) (x : B) (xs : List B) → Err e ≡ (step i x >>= λ z. Ok (g z)) → (each_from i step (x ∷ xs) >>= h) ≡ Err e
  each-refused h e i x xs refused = by (step i x) refused
    where
      by : (o : Result C E) → Err e ≡ (o >>= λ z. Ok (g z)) → ((o >>= λ y. each_from (i + 1) step xs >>= λ ys. Ok (y ∷ ys)) >>= h) ≡ Err e
      by (Ok z) refused = absurd (cc)
      by (Err d) refused = let same : e ≡ d = cc in ap (λ e. Err e) (sym same)

  -- the array at a key is refused where an item is
  pub array-refused : (value : Result B E) (array : B → Result (List B) E) (d : B) (xs : List A) (whole left : List C → Result D E) (i : ℕ) (x : A) (e : E)
      → Ok d ≡ value → Ok (map f xs) ≡ array d → (each_from 0 step (map f xs) >>= whole) ≡ (each_from i step (map f (drop i xs)) >>= left)
      → i < length xs → x ≡ get_or xs i x → Err e ≡ (step i (f x) >>= λ z. Ok (g z)) → Err e ≡ (((value >>= array) >>= each_from 0 step) >>= whole)
  array-refused value array d xs whole left i x e found is so_far below at refused =
      let here : (each_from i step (map f (drop i xs)) >>= left) ≡ Err e = rw (map-drop f xs i x below at) (each-refused left e i (f x) (map f (drop (i + 1) xs)) refused) in
      rw (← found, ← is) (sym (so_far ∙ here))
