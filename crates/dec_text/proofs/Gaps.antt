-- A text loses the spaces and tabs at its end one by one.
use Rattle.std.proofs.Common.{◌≡◌, ℕ, ◌+◌, ◌-◌, ◌<◌, true, false, List, [], ◌∷◌, ◌++◌, length, take, get_or, refl, sym, ◌∙◌, ap, arith}
use Rattle.std.proofs.lemmas.List.{take_more, take_all}
use Rattle.dec_text.specs.Reading.{is_gap, before_text, without_back_gaps}

gap_behind : (text : List ℕ) (c : ℕ) → is_gap c ≡ true → without_back_gaps (text ++ c ∷ []) ≡ without_back_gaps text
gap_behind [] c h = rw h refl
gap_behind (d ∷ ds) c h = ap (before_text d) (gap_behind ds c h)

text_behind : (text : List ℕ) (c : ℕ) → is_gap c ≡ false → without_back_gaps (text ++ c ∷ []) ≡ text ++ c ∷ []
text_behind [] c h = rw h refl
text_behind (d ∷ ds) c h = rw (text_behind ds c h) (some ds)
  where
    some : (ds : List ℕ) → before_text d (ds ++ c ∷ []) ≡ d ∷ (ds ++ c ∷ [])
    some [] = refl
    some (e ∷ es) = refl

-- all but the last byte, and the last
split_last : (text : List ℕ) → 0 < length text → text ≡ take (length text - 1) text ++ get_or text (length text - 1) 0 ∷ []
split_last text some =
    let all : (length text - 1) + 1 ≡ length text = omega (arith, some) in
    let cut = take_more text (length text - 1) 0 (omega (arith, some)) in
    sym (take_all (length text) text (omega arith)) ∙ (ap (λ n. take n text) (sym all) ∙ cut)

pub without_last_gap : (text : List ℕ) → 0 < length text → is_gap (get_or text (length text - 1) 0) ≡ true → without_back_gaps (take (length text - 1) text) ≡ without_back_gaps text
without_last_gap text some h = sym (ap without_back_gaps (split_last text some) ∙ gap_behind (take (length text - 1) text) (get_or text (length text - 1) 0) h)

pub no_last_gap : (text : List ℕ) → 0 < length text → is_gap (get_or text (length text - 1) 0) ≡ false → without_back_gaps text ≡ text
no_last_gap text some h = ap without_back_gaps (split_last text some) ∙ (text_behind (take (length text - 1) text) (get_or text (length text - 1) 0) h ∙ sym (split_last text some))
