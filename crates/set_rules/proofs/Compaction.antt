-- Items that are kept move to the front of their list, in their order.
use Rattle.std.proofs.Common.{◌≡◌, ℕ, suc, ◌+◌, ◌<◌, ◌≤◌, Bool, true, false, List, [], ◌∷◌, ◌++◌, length, length-set, get_or, take, drop, map, set, refl, sym, ap, ◌∙◌, arith, add-zero}
use Rattle.std.proofs.lemmas.List.{take_more_set, drop-set-lt, drop-drop, get_or-drop, map_push}
use Rattle.set_rules.specs.Reduce.{places}
use Rattle.set_rules.proofs.Kept.{places-zero, places-yes, places-no}

-- of the first t items, `count` were kept and stand in front; the others stand where they stood. The item past the last is d
pub record Compacted {A : Type 0} (d : A) (keep : ℕ → Bool) (old : List A) (t count : ℕ) (items : List A) : Type 0 where
  pub front : take count items ≡ map (λ s. get_or old s d) (places keep t)
  pub rest : drop t items ≡ drop t old
  pub size : length items ≡ length old
  pub few : count ≤ t

pub compacted-none : {A : Type 0} (d : A) (keep : ℕ → Bool) (old : List A) → Compacted d keep old 0 0 old
compacted-none d keep old = record { front = sym (ap (map (λ s. get_or old s d)) (places-zero keep)); rest = refl; size = refl; few = omega arith }

module _ {A : Type 0} (d : A) (keep : ℕ → Bool) (old items : List A) (t count : ℕ) (so_far : Compacted d keep old t count items) (below : t < length old) where
  rest-next : (new : List A) → drop (t + 1) new ≡ drop (t + 1) items → drop (t + 1) new ≡ drop (t + 1) old
  rest-next new e = e ∙ sym (drop-drop 1 t items) ∙ ap (drop 1) so_far.rest ∙ drop-drop 1 t old

  pub here : get_or items t d ≡ get_or old t d
  here = sym (get_or-drop t items 0 d ∙ ap (λ i. get_or items i d) (add-zero t)) ∙ ap (λ xs. get_or xs 0 d) so_far.rest ∙ get_or-drop t old 0 d ∙ ap (λ i. get_or old i d) (add-zero t)

  pub compacted-yes : (new : List A) (more : ℕ) → keep t ≡ true → new ≡ set items count (get_or items t d) → more ≡ count + 1 → Compacted d keep old (t + 1) more new
  compacted-yes new more e is one =
      let few = so_far.few in
      let size = so_far.size in
      let next : suc t ≡ t + 1 = omega arith in
      record {
        front = (λ i. take (one i) (is i)) ∙ take_more_set items count (get_or items t d) (omega arith)
            ∙ (λ i. so_far.front i ++ here i ∷ []) ∙ sym (map_push (λ s. get_or old s d) (places keep t) t)
            ∙ ap (map (λ s. get_or old s d)) (sym (places-yes keep t e) ∙ ap (places keep) next);
        rest = rest-next new (ap (drop (t + 1)) is ∙ drop-set-lt (t + 1) items count (get_or items t d) (omega arith));
        size = ap length is ∙ length-set items count (get_or items t d) ∙ so_far.size;
        few = omega arith;
      }

  pub compacted-no : (new : List A) (more : ℕ) → keep t ≡ false → new ≡ items → more ≡ count → Compacted d keep old (t + 1) more new
  compacted-no new more e is same =
      let few = so_far.few in
      let next : suc t ≡ t + 1 = omega arith in
      record {
        front = (λ i. take (same i) (is i)) ∙ so_far.front ∙ ap (map (λ s. get_or old s d)) (sym (places-no keep t e) ∙ ap (places keep) next);
        rest = rest-next new (ap (drop (t + 1)) is);
        size = ap length is ∙ so_far.size;
        few = omega arith;
      }
