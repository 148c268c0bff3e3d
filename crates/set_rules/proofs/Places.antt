-- What is kept depends on which places below the length are kept alone.
use Rattle.std.proofs.Common.{◌≡◌, ℕ, zero, suc, ◌<◌, Bool, true, false, if◌then◌else◌, List, [], ◌∷◌, ◌++◌, length, get_or, map, ℤ, pos, refl, sym, ap, ◌∙◌, arith}
use Rattle.std.proofs.lemmas.List.{map_push}
use Rattle.set_rules.specs.Sum.{total, magnitude}
use Rattle.set_rules.specs.Columns.{column_entry}
use Rattle.set_rules.specs.Reduce.{places, dropped, columns_at, lost_in}
use Rattle.set_rules.proofs.Sums.{total-same}
use Rattle.set_rules.proofs.Kept.{places-zero, places-yes, places-no}

pub places-same : (p q : ℕ → Bool) (k : ℕ) → ((t : ℕ) → t < k → p t ≡ q t) → places p k ≡ places q k
places-same p q zero h = places-zero p ∙ sym (places-zero q)
places-same p q (suc k) h = by (places-same p q k (λ t l. h t (omega arith))) (p k) refl
  where
    by : places p k ≡ places q k → (b : Bool) → p k ≡ b → places p (suc k) ≡ places q (suc k)
    by before true e = places-yes p k e ∙ ap (λ xs. xs ++ k ∷ []) before ∙ sym (places-yes q k (sym (h k (omega arith)) ∙ e))
    by before false e = places-no p k e ∙ before ∙ sym (places-no q k (sym (h k (omega arith)) ∙ e))

-- functions that agree below k agree on the places below k
pub map-places : {A : Type 0} (f g : ℕ → A) (keep : ℕ → Bool) (k : ℕ) → ((t : ℕ) → t < k → f t ≡ g t) → map f (places keep k) ≡ map g (places keep k)
map-places f g keep zero h = ap (map f) (places-zero keep) ∙ sym (ap (map g) (places-zero keep))
map-places f g keep (suc k) h = by (map-places f g keep k (λ t l. h t (omega arith))) (keep k) refl
  where
    by : map f (places keep k) ≡ map g (places keep k) → (b : Bool) → keep k ≡ b → map f (places keep (suc k)) ≡ map g (places keep (suc k))
    by before true e = ap (map f) (places-yes keep k e) ∙ map_push f (places keep k) k ∙ (λ i. before i ++ h k (omega arith) i ∷ [])
        ∙ sym (map_push g (places keep k) k) ∙ sym (ap (map g) (places-yes keep k e))
    by before false e = ap (map f) (places-no keep k e) ∙ before ∙ sym (ap (map g) (places-no keep k e))

pub dropped-same : (p q : ℕ → Bool) (f g : ℕ → ℤ) (k : ℕ) → ((t : ℕ) → t < k → p t ≡ q t) → ((t : ℕ) → t < k → f t ≡ g t) → total k (dropped p f) ≡ total k (dropped q g)
dropped-same p q f g k h e = total-same k (dropped p f) (dropped q g) (λ t l i. if h t l i then pos 0 else e t l i)

-- the columns and the sums of the others
pub columns_at-same : (p q : ℕ → Bool) (columns : List (List ℤ)) → ((t : ℕ) → t < length columns → p t ≡ q t) → columns_at p columns ≡ columns_at q columns
columns_at-same p q columns h = ap (map (λ t. get_or columns t [])) (places-same p q (length columns) h)

pub lost_in-same : (p q : ℕ → Bool) (columns : List (List ℤ)) (i : ℕ) → ((t : ℕ) → t < length columns → p t ≡ q t) → lost_in p columns i ≡ lost_in q columns i
lost_in-same p q columns i h = dropped-same p q (λ t. magnitude (column_entry columns i t)) (λ t. magnitude (column_entry columns i t)) (length columns) h (λ t l. refl)
