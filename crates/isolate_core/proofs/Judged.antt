-- One more model: what it adds to the possible ones, and to the verdict.
use Rattle.std.proofs.Common.{◌≡◌, ℕ, ◌+◌, ◌<◌, ◌≤◌, ◌==◌, Bool, true, false, if◌then◌else◌, List, [], ◌∷◌, ◌++◌, length, take, get_or, refl, ap, ◌∙◌, sym, arith, append-nil, length-take}
use Rattle.std.proofs.lemmas.List.{take_more}
use Rattle.isolate_core.specs.Verdict.{verdict_of, possible_from, possible_models, with_model}
use Rattle.isolate_core.specs.declared.verdict.Verdict.{Verdict}
use Rattle.isolate_core.specs.declared.verdict.Verdict.TheVariants.{Several, Fault}

-- the model, where it is possible
abbrev pub one_if : Bool → ℕ → List ℕ
one_if b i = if b then (i ∷ []) else []

possible_from-more : (i n : ℕ) (bs : List Bool) (b : Bool) → i + length bs ≡ n → possible_from i (bs ++ b ∷ []) ≡ possible_from i bs ++ one_if b n
possible_from-more i n [] b e = by b
  where
    same : i ≡ n
    same = omega arith

    by : (b : Bool) → possible_from i (b ∷ []) ≡ [] ++ one_if b n
    by true = ap (λ m. m ∷ []) same
    by false = refl
possible_from-more i n (c ∷ bs) b e = by (possible_from-more (i + 1) n bs b (omega arith)) c
  where
    by : possible_from (i + 1) (bs ++ b ∷ []) ≡ possible_from (i + 1) bs ++ one_if b n → (c : Bool) → possible_from i ((c ∷ bs) ++ b ∷ []) ≡ possible_from i (c ∷ bs) ++ one_if b n
    by h true = ap (λ xs. i ∷ xs) h
    by h false = h

verdict_of-more : (is : List ℕ) (i : ℕ) → verdict_of (is ++ i ∷ []) ≡ with_model (verdict_of is) i
verdict_of-more [] i = refl
verdict_of-more (j ∷ []) i = refl
verdict_of-more (j ∷ k ∷ is) i = by (j == 0)
  where
    by : (b : Bool) → (if b then Several else Fault) ≡ with_model (if b then Several else Fault) i
    by true = refl
    by false = refl

module _ (bs : List Bool) (i : ℕ) (h : i < length bs) where
  -- the possible ones of one more model
  pub models-more : (b : Bool) → get_or bs i false ≡ b → possible_models (take (i + 1) bs) ≡ possible_models (take i bs) ++ one_if b i
  models-more b e =
      let long : 0 + length (take i bs) ≡ i = omega (arith, length-take i bs) in
      ap possible_models (take_more bs i false h) ∙ possible_from-more 0 i (take i bs) (get_or bs i false) long ∙ ap (λ b. possible_models (take i bs) ++ one_if b i) e

  -- a possible model changes the verdict
  pub judged-possible : (v : Verdict) → v ≡ verdict_of (possible_models (take i bs)) → get_or bs i false ≡ true → with_model v i ≡ verdict_of (possible_models (take (i + 1) bs))
  judged-possible v e b = ap (λ v. with_model v i) e ∙ sym (verdict_of-more (possible_models (take i bs)) i) ∙ ap verdict_of (sym (models-more true b))

  -- another leaves it
  pub judged-excluded : (v : Verdict) → v ≡ verdict_of (possible_models (take i bs)) → get_or bs i false ≡ false → v ≡ verdict_of (possible_models (take (i + 1) bs))
  judged-excluded v e b = e ∙ ap verdict_of (sym (models-more false b ∙ append-nil (possible_models (take i bs))))
