-- A list of steps that can each be refused, done one by one.
use Rattle.std.proofs.Common.{◌≡◌, ℕ, ◌+◌, ◌<◌, ◌≤◌, List, [], ◌∷◌, ◌++◌, length, drop, get_or, refl, sym, ◌∙◌, ap, append_assoc, Result, Ok, Err}
use Rattle.std.proofs.Math.Seq.{drop-cons}
use Rattle.std.proofs.Math.Numerals.{add-one}
use Rattle.std.proofs.lemmas.List.{append-nil, drop_all}
use Rattle.dec_text.specs.Steps.{◌>>=◌, each_from}

module _ {A B E : Type 0} (step : ℕ → A → Result B E) (xs : List A) where
  -- what is left to do from item i on, behind the answers so far
  abbrev pub Left : ℕ → List B → Result (List B) E
  Left i done = each_from i step (drop i xs) >>= λ ys. Ok (done ++ ys)

  same_end : (r : Result (List B) E) → r ≡ (r >>= λ ys. Ok ([] ++ ys))
  same_end (Ok x) = refl
  same_end (Err e) = refl

  pub none_done : each_from 0 step xs ≡ Left 0 []
  none_done = same_end (each_from 0 step xs)

  opened : (i : ℕ) (d : A) → i < length xs → each_from i step (drop i xs) ≡ (step i (get_or xs i d) >>= λ y. each_from (i + 1) step (drop (i + 1) xs) >>= λ ys. Ok (y ∷ ys))
  opened i d h = ap (each_from i step) (drop-cons xs i d h ∙ ap (λ n. get_or xs i d ∷ drop n xs) (sym (add-one i)))

  behind : (done : List B) (y : B) (r : Result (List B) E) → ((r >>= λ ys. Ok (y ∷ ys)) >>= λ ys. Ok (done ++ ys)) ≡ (r >>= λ ys. Ok ((done ++ y ∷ []) ++ ys))
  behind done y (Ok ys) = ap Ok (sym (append_assoc done (y ∷ []) ys))
  behind done y (Err e) = refl

  pub one_more : (i : ℕ) (d : A) (done : List B) (y : B) → i < length xs → step i (get_or xs i d) ≡ Ok y → Left i done ≡ Left (i + 1) (done ++ y ∷ [])
  one_more i d done y h s =
      ap (λ r. r >>= λ ys. Ok (done ++ ys)) (opened i d h ∙ ap (λ r. r >>= λ y. each_from (i + 1) step (drop (i + 1) xs) >>= λ ys. Ok (y ∷ ys)) s)
      ∙ behind done y (each_from (i + 1) step (drop (i + 1) xs))

  pub refused : (i : ℕ) (d : A) (done : List B) (e : E) → i < length xs → step i (get_or xs i d) ≡ Err e → Left i done ≡ Err e
  refused i d done e h s = ap (λ r. r >>= λ ys. Ok (done ++ ys)) (opened i d h ∙ ap (λ r. r >>= λ y. each_from (i + 1) step (drop (i + 1) xs) >>= λ ys. Ok (y ∷ ys)) s)

  pub all_done : (i : ℕ) (done : List B) → length xs ≤ i → Left i done ≡ Ok done
  all_done i done h = ap (λ zs. each_from i step zs >>= λ ys. Ok (done ++ ys)) (drop_all i xs h) ∙ ap Ok (append-nil done)
