-- What four words ask for.
use Rattle.std.proofs.Common.{◌≡◌, ℕ, List, [], ◌∷◌, length, ap, ◌∙◌, arith}
use Rattle.std.specs.Prelude.{String, string_bytes, slice_index_or}
use Rattle.std.specs.declared.alloc.Global.{Global}
use Rattle.zonomon_run.specs.Words.{asked_by, texts, three_names}

-- the same texts ask for the same
same-texts : (s t u v s' t' u' v' : List ℕ) → s ≡ s' → t ≡ t' → u ≡ u' → v ≡ v' → three_names s t u v ≡ three_names s' t' u' v'
same-texts s t u v s' t' u' v' a b c d =
    ap (λ x. three_names x t u v) a ∙ (ap (λ x. three_names s' x u v) b ∙ (ap (λ x. three_names s' t' x v) c ∙ ap (λ x. three_names s' t' u' x) d))

-- the texts of four words
pub four-of : (ws : List (String Global)) (w a b c : String Global) (s t u v : List ℕ) → length ws ≡ 4 → s ≡ string_bytes w → t ≡ string_bytes a → u ≡ string_bytes b
    → v ≡ string_bytes c → w ≡ slice_index_or ws 0 w → a ≡ slice_index_or ws 1 a → b ≡ slice_index_or ws 2 b → c ≡ slice_index_or ws 3 c → three_names s t u v ≡ asked_by (texts ws)
four-of [] w a b c s t u v four p q r z e0 e1 e2 e3 = absurd (omega arith)
four-of (w' ∷ []) w a b c s t u v four p q r z e0 e1 e2 e3 = absurd (omega arith)
four-of (w' ∷ a' ∷ []) w a b c s t u v four p q r z e0 e1 e2 e3 = absurd (omega arith)
four-of (w' ∷ a' ∷ b' ∷ []) w a b c s t u v four p q r z e0 e1 e2 e3 = absurd (omega arith)
four-of (w' ∷ a' ∷ b' ∷ c' ∷ []) w a b c s t u v four p q r z e0 e1 e2 e3 =
    same-texts s t u v _ _ _ _ (p ∙ ap string_bytes e0) (q ∙ ap string_bytes e1) (r ∙ ap string_bytes e2) (z ∙ ap string_bytes e3)
four-of (w' ∷ a' ∷ b' ∷ c' ∷ d ∷ ws) w a b c s t u v four p q r z e0 e1 e2 e3 = absurd (omega arith)
