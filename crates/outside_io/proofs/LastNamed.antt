-- The last file of a name.
use Rattle.std.proofs.Common.{◌≡◌, ℕ, ◌+◌, List, [], ◌∷◌, ◌++◌, length, take, sym, ◌∙◌, ap, refl, true, false, Bool, Option, Some, None, get_or, ◌<◌, string_bytes, cond}
use Rattle.std.proofs.lemmas.List.{take_more}
use Rattle.std.proofs.lemmas.Slice.Eq.{bytes_eq-Decides}
use Rattle.std.specs.Str.{bytes_eq}
use Rattle.outside_io.specs.declared.files.Kept.{Kept}
use Rattle.outside_io.specs.Files.{last_named}

-- one more file, at the end
pub last_named-append : (fs : List Kept) (f : Kept) (name : List ℕ) (before : Option (List ℕ)) → last_named (fs ++ f ∷ []) name before ≡ (cond (bytes_eq (string_bytes f.name) name) (Some f.bytes.items) (last_named fs name before))
last_named-append [] f name before = refl
last_named-append (g ∷ fs) f name before = last_named-append fs f name _

pub same_name : (a b : List ℕ) → a ≡ b → bytes_eq a b ≡ true
same_name a b e = (bytes_eq-Decides a b).1 e

not_true : (r : Bool) → (r ≡ true → ⊥) → r ≡ false
not_true true n = absurd (n refl)
not_true false n = refl

pub other_name : (a b : List ℕ) → (a ≡ b → ⊥) → bytes_eq a b ≡ false
other_name a b n = not_true (bytes_eq a b) (λ t. n ((bytes_eq-Decides a b).0 t))

named_step : (fs : List Kept) (i : ℕ) (f : Kept) (name : List ℕ) → i < length fs → f ≡ get_or fs i f → last_named (take (i + 1) fs) name None ≡ (cond (bytes_eq (string_bytes f.name) name) (Some f.bytes.items) (last_named (take i fs) name None))
named_step fs i f name h is = rw (take_more fs i f h, ← is) (last_named-append (take i fs) f name None)

pub named_hit : (fs : List Kept) (i : ℕ) (f : Kept) (name : List ℕ) → i < length fs → f ≡ get_or fs i f → bytes_eq (string_bytes f.name) name ≡ true → last_named (take (i + 1) fs) name None ≡ Some f.bytes.items
named_hit fs i f name h is t = named_step fs i f name h is ∙ ap (λ b. cond b (Some f.bytes.items) (last_named (take i fs) name None)) t

pub named_miss : (fs : List Kept) (i : ℕ) (f : Kept) (name : List ℕ) → i < length fs → f ≡ get_or fs i f → bytes_eq (string_bytes f.name) name ≡ false → last_named (take (i + 1) fs) name None ≡ last_named (take i fs) name None
named_miss fs i f name h is t = named_step fs i f name h is ∙ ap (λ b. cond b (Some f.bytes.items) (last_named (take i fs) name None)) t

pub added_hit : (fs gs : List Kept) (f : Kept) (name : List ℕ) → gs ≡ fs ++ f ∷ [] → string_bytes f.name ≡ name → last_named gs name None ≡ Some f.bytes.items
added_hit fs gs f name e n = rw e (last_named-append fs f name None ∙ ap (λ b. cond b (Some f.bytes.items) (last_named fs name None)) (same_name _ _ n))

pub added_miss : (fs gs : List Kept) (f : Kept) (name other : List ℕ) → gs ≡ fs ++ f ∷ [] → string_bytes f.name ≡ name → (other ≡ name → ⊥) → last_named gs other None ≡ last_named fs other None
added_miss fs gs f name other e n d = rw e (last_named-append fs f other None ∙ ap (λ b. cond b (Some f.bytes.items) (last_named fs other None)) (other_name _ _ (λ k. d (sym k ∙ n))))
