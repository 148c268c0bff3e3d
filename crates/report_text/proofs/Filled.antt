-- A list that is filled with what the words of a text say, one after another.
use Rattle.std.proofs.Common.{◌≡◌, ℕ, suc, ◌-◌, ◌<◌, List, [], ◌∷◌, ◌++◌, length, map, sym, ◌∙◌, ap, arith, append_assoc, length-append}
use Rattle.std.proofs.lemmas.List.{append-nil}
use Rattle.report_text.specs.Loose.{word_of, rest_of, words_of}
use Rattle.report_text.proofs.Cuts.{words_none, words_over, words_more}

module _ {A : Type 0} (read : List ℕ → A) (most : ℕ) (text : List ℕ) where
  -- the items, and what the words of the rest say behind them
  abbrev pub with_rest : List A → List ℕ → List A
  with_rest items rest = items ++ map read (words_of (most - length items) rest)

  pub filled_more : (items next : List A) (rest : List ℕ) → length items < most → 0 < length rest → next ≡ items ++ read (word_of rest) ∷ []
      → with_rest items rest ≡ map read (words_of most text) → with_rest next (rest_of rest) ≡ map read (words_of most text)
  filled_more items next rest l some e h =
      let x = read (word_of rest) in
      let n = most - length items - 1 in
      let here : most - length items ≡ suc n = omega (arith, l) in
      let there : most - length (items ++ x ∷ []) ≡ n = omega (arith, l, length-append items (x ∷ [])) in
      let words = ap (λ k. map read (words_of k rest)) here ∙ ap (map read) (words_more n rest some) in
      ap (λ xs. with_rest xs (rest_of rest)) e
      ∙ (ap (λ k. (items ++ x ∷ []) ++ map read (words_of k (rest_of rest))) there
      ∙ (append_assoc items (x ∷ []) (map read (words_of n (rest_of rest))) ∙ (ap (λ xs. items ++ xs) (sym words) ∙ h)))

  pub filled_full : (items : List A) (rest : List ℕ) → length items ≡ most → with_rest items rest ≡ map read (words_of most text)
      → items ≡ map read (words_of most text)
  filled_full items rest l h =
      let none : most - length items ≡ 0 = omega (arith, l) in
      sym (append-nil items) ∙ (ap (λ xs. items ++ map read xs) (sym (words_over rest)) ∙ (ap (λ k. items ++ map read (words_of k rest)) (sym none) ∙ h))

  pub filled_all : (items : List A) (rest : List ℕ) → length rest ≡ 0 → with_rest items rest ≡ map read (words_of most text)
      → items ≡ map read (words_of most text)
  filled_all items [] l h = sym (append-nil items) ∙ (ap (λ xs. items ++ map read xs) (sym (words_none (most - length items))) ∙ h)
  filled_all items (c ∷ cs) l h = absurd (omega (arith, l))
