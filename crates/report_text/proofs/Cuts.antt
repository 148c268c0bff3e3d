-- A text is cut at its spaces into the words that were written.
use Rattle.std.proofs.Common.{◌≡◌, ℕ, zero, suc, ◌+◌, ◌<◌, Bool, true, false, not, nat_lt, List, [], ◌∷◌, ◌++◌, length, drop, map, refl, sym, ◌∙◌, ap, arith, Some, None, append_assoc, length-append}
use Rattle.std.specs.Prelude.{flat_map}
use Rattle.std.specs.List.{list_all, position, position_or_len}
use Rattle.std.proofs.lemmas.List.{take_at, drop_at, append-nil}
use Rattle.dec_text.proofs.Judged.{both, lt_yes, lt_no}
use Rattle.report_text.specs.Loose.{is_space, word_of, rest_of, words_of}

-- a text without a space
abbrev pub is_word : List ℕ → Bool
is_word w = list_all (λ c. not (is_space c)) w

space_after : (w r : List ℕ) → is_word w ≡ true → position_or_len is_space (w ++ 32 ∷ r) ≡ length w
space_after [] r h = refl
space_after (c ∷ w) r h =
    let parts = both (not (is_space c)) (is_word w) h in
    rw parts.0 (ap (λ k. 1 + k) (space_after w r parts.1) ∙ omega arith)

no_space : (w : List ℕ) → is_word w ≡ true → position_or_len is_space w ≡ length w
no_space [] h = refl
no_space (c ∷ w) h =
    let parts = both (not (is_space c)) (is_word w) h in
    rw parts.0 (ap (λ k. 1 + k) (no_space w parts.1) ∙ omega arith)

space_at : (w r : List ℕ) → is_word w ≡ true → position is_space (w ++ 32 ∷ r) ≡ Some (length w)
space_at w r h =
    let t : nat_lt (length w) (length (w ++ 32 ∷ r)) ≡ true = (let l = length-append w (32 ∷ r) in lt_yes _ _ (omega (arith, l))) in
    rw (space_after w r h, t) refl

nowhere : (w : List ℕ) → is_word w ≡ true → position is_space w ≡ None
nowhere w h = let t : nat_lt (length w) (length w) ≡ false = lt_no _ _ (omega arith) in rw (no_space w h, t) refl

pub word_before : (w r : List ℕ) → is_word w ≡ true → word_of (w ++ 32 ∷ r) ≡ w
unfolding word_of
word_before w r h = rw (space_at w r h) (take_at w (32 ∷ r) (length w) refl)

pub rest_behind : (w r : List ℕ) → is_word w ≡ true → rest_of (w ++ 32 ∷ r) ≡ r
unfolding rest_of
rest_behind w r h =
    rw (space_at w r h)
    (ap (λ xs. drop (length w + 1) xs) (sym (append_assoc w (32 ∷ []) r)) ∙ drop_at (w ++ 32 ∷ []) r (length w + 1) (length-append w (32 ∷ [])))

pub word_alone : (w : List ℕ) → is_word w ≡ true → word_of w ≡ w
unfolding word_of
word_alone w h = rw (nowhere w h) refl

pub rest_none : (w : List ℕ) → is_word w ≡ true → rest_of w ≡ []
unfolding rest_of
rest_none w h = rw (nowhere w h) refl

pub words_none : (n : ℕ) → words_of n [] ≡ []
unfolding words_of
words_none zero = refl
words_none (suc n) = refl

pub words_over : (text : List ℕ) → words_of 0 text ≡ []
unfolding words_of
words_over text = refl

pub words_more : (n : ℕ) (text : List ℕ) → 0 < length text → words_of (suc n) text ≡ word_of text ∷ words_of n (rest_of text)
unfolding words_of
words_more n [] h = absurd (omega (arith, h))
words_more n (c ∷ cs) h = refl

-- how a value is written as one word, and read
pub record IsWritten {A : Type 0} (text : A → List ℕ) (read : List ℕ → A) (a : A) : Type 0 where
  pub some : 0 < length (text a)
  pub word : is_word (text a) ≡ true
  pub back : read (text a) ≡ a

-- values with a space before each but the first are read back
module _ {A : Type 0} (text spaced : A → List ℕ) (read : List ℕ → A) (spaces : (a : A) → spaced a ≡ 32 ∷ text a) (fits : A → Bool)
    (written : (a : A) → fits a ≡ true → IsWritten text read a) where
  pub values_back : (n : ℕ) (a : A) (others : List A) → fits a ≡ true → list_all fits others ≡ true → length others < n
      → map read (words_of n (text a ++ flat_map spaced others)) ≡ a ∷ others
  values_back zero a others h hs l = absurd (omega (arith, l))
  values_back (suc n) a [] h hs l =
      let w = written a h in
      rw (append-nil (text a), words_more n (text a) w.some, word_alone (text a) w.word, rest_none (text a) w.word, words_none n, w.back) refl
  values_back (suc n) a (b ∷ bs) h hs l =
      let w = written a h in
      let parts = both (fits b) (list_all fits bs) hs in
      let more : map read (words_of n (text b ++ flat_map spaced bs)) ≡ b ∷ bs = values_back n b bs parts.0 parts.1 (omega (arith, l)) in
      let rest = text b ++ flat_map spaced bs in
      let some : 0 < length (text a ++ 32 ∷ rest) = omega (arith, length-append (text a) (32 ∷ rest)) in
      rw (spaces b, words_more n (text a ++ 32 ∷ rest) some, word_before (text a) rest w.word, rest_behind (text a) rest w.word, w.back, more) refl
