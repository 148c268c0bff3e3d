-- What an outcome begins with, and the offer that was read at its place.
use Rattle.std.proofs.Common.{◌≡◌, ◌≢◌, ◌⊎◌, inl, inr, ℕ, ◌+◌, ◌<◌, ◌≤◌, nat_le, ℤ, Bool, true, false, not, ◌||◌, ◌&&◌, List, [], ◌∷◌, ◌++◌, length, get_or, drop, map, Option, Some, None, refl, sym, ap, ◌∙◌, arith, subst, append_assoc}
use Rattle.std.specs.List.{enumerate_from, list_all, list_any}
use Rattle.std.proofs.lemmas.Bool.Decides.{nat_tests}
use Rattle.std.proofs.lemmas.List.{length-drop}
use Rattle.farkas_check.specs.Certificate.{Certificate}
use Rattle.report_text.specs.Line.{Line, exclude, hull, status, line_text, put_text, lines_text}
use Rattle.report_text.specs.Laws.{is_feed}
use Rattle.report_text.specs.Ranges.{is_in_range, is_model_index, is_certificate}
use Rattle.report_text.proofs.Guessed.{lines-differ}
use Rattle.report_text.proofs.Sizes.{lines-are_short, lines-have_no_feed, exclusions-differ}
use Rattle.report_rules.specs.Lines.{outcome_lines}
use Rattle.report_rules.specs.Replay.{with_feeds, is_short_line, HasNoLine, IsOfferIn, IsOffer, TakesEnough}
use Rattle.report_rules.proofs.Placed.{both, and-true}

-- ---- lines that end at their first feed

feed-fronts : (xs ys rest rest' : List ℕ) → list_any is_feed xs ≡ false → list_any is_feed ys ≡ false → xs ++ 10 ∷ rest ≡ ys ++ 10 ∷ rest'
    → (xs ≡ ys) × (rest ≡ rest')
feed-fronts [] [] rest rest' h g e = (refl, cc)
feed-fronts [] (y ∷ ys) rest rest' h g e =
    let is : y ≡ 10 = cc in
    let feed : list_any is_feed (10 ∷ ys) ≡ false = subst (λ n. list_any is_feed (n ∷ ys) ≡ false) is g in
    absurd (cc)
feed-fronts (x ∷ xs) [] rest rest' h g e =
    let is : x ≡ 10 = cc in
    let feed : list_any is_feed (10 ∷ xs) ≡ false = subst (λ n. list_any is_feed (n ∷ xs) ≡ false) is h in
    absurd (cc)
feed-fronts (x ∷ xs) (y ∷ ys) rest rest' h g e =
    let tails : xs ++ 10 ∷ rest ≡ ys ++ 10 ∷ rest' = cc in
    let heads : x ≡ y = cc in
    let more = feed-fronts xs ys rest rest' (others (is_feed x) (list_any is_feed xs) h) (others (is_feed y) (list_any is_feed ys) g) tails in
    (cc (heads, more.0), more.1)
  where
    others : (a b : Bool) → (a || b) ≡ false → b ≡ false
    others true b h = absurd cc
    others false b h = h

pub short-feeds : (t : List ℕ) → is_short_line t ≡ true → list_any is_feed t ≡ false
short-feeds t h = by (list_any is_feed t) (both (nat_le (length t) 256) (not (list_any is_feed t)) h).1
  where
    by : (b : Bool) → not b ≡ true → b ≡ false
    by true h = absurd cc
    by false h = refl

-- a line in range is short
pub range-short : (l : Line) → is_in_range l ≡ true → is_short_line (line_text l) ≡ true
range-short l h =
    let few = lines-are_short l h in
    let within : nat_le (length (line_text l)) 256 ≡ true = at-most (length (line_text l)) few in
    ap (λ b. nat_le (length (line_text l)) 256 && not b) (lines-have_no_feed l h) ∙ ap (λ b. b && true) within
  where
    at-most : (n : ℕ) → n ≤ 192 → nat_le n 256 ≡ true
    at-most n h = grind (arith, nat_tests)

-- the first of some lines with feeds, and the rest
feeds-front : (t : List ℕ) (us rest : List ℕ) → ((t ++ 10 ∷ []) ++ us) ++ rest ≡ t ++ 10 ∷ (us ++ rest)
feeds-front t us rest = simp append_assoc

-- ---- lines that were taken beside lines that the text has

-- some line in range stands at the front
abbrev pub StartsLine : List ℕ → Type 0
StartsLine bytes = (l : Line) × (is_in_range l ≡ true) × (r : List ℕ) × (bytes ≡ put_text l ++ r)

pub no-start : (bytes : List ℕ) → HasNoLine bytes → ¬ StartsLine bytes
no-start bytes none starts = none (line_text starts.0) starts.2 (range-short starts.0 starts.1) (starts.3 ∙ append_assoc (line_text starts.0) (10 ∷ []) starts.2)

module _ (rest v : List ℕ) where
  -- the lines that were taken go past those of the text, or end before them
  abbrev pub Aligned : List Line → List (List ℕ) → Type 0
  Aligned ls ts =
      ((list_all is_short_line (drop (length ls) ts) ≡ true) × (with_feeds (drop (length ls) ts) ++ rest ≡ v) × (length ls ≤ length ts))
      ⊎ ((length ts < length ls) × StartsLine rest)

  pub aligned : (ls : List Line) (ts : List (List ℕ)) → list_all is_in_range ls ≡ true → list_all is_short_line ts ≡ true
      → with_feeds ts ++ rest ≡ lines_text ls ++ v → Aligned ls ts
  aligned [] ts h short e = inl (short, e, omega arith)
  aligned (l ∷ ls) [] h short e =
      inr (omega arith, (l, (both (is_in_range l) (list_all is_in_range ls) h).0, lines_text ls ++ v, e ∙ append_assoc (put_text l) (lines_text ls) v))
  aligned (l ∷ ls) (t ∷ ts) h short e =
      let ranges = both (is_in_range l) (list_all is_in_range ls) h in
      let shorts = both (is_short_line t) (list_all is_short_line ts) short in
      let fronts = feed-fronts t (line_text l) (with_feeds ts ++ rest) (lines_text ls ++ v) (short-feeds t shorts.0) (lines-have_no_feed l ranges.0)
      (sym (feeds-front t (with_feeds ts) rest) ∙ e ∙ feeds-front (line_text l) (lines_text ls) v) in
      by (aligned ls ts ranges.1 shorts.1 fronts.1)
    where
      by : Aligned ls ts → Aligned (l ∷ ls) (t ∷ ts)
      by (inl past) = inl (past.0, past.1, omega (arith, past.2))
      by (inr before) = inr (omega (arith, before.0), before.1)

-- ---- what an outcome begins with

-- the exclusion, or the hull of the first state
abbrev pub IsOutcome : ℕ → Option Certificate → Line → Type 0
IsOutcome i (Some c) l = l ≡ exclude i c
IsOutcome i None l = (lo : ℤ) × (hi : ℤ) × (l ≡ hull i 0 lo hi)

pub outcome-begins : (i : ℕ) (c : Option Certificate) (hs : List (ℤ × ℤ)) (w : Bool) → (c ≡ None → 1 ≤ length hs)
    → (l : Line) × (tail : List Line) × (outcome_lines i c hs w ≡ l ∷ tail) × IsOutcome i c l
outcome-begins i (Some c) hs w some = (exclude i c, [], refl, refl)
outcome-begins i None [] w some = absurd (omega (arith, some refl))
outcome-begins i None (h ∷ hs) w some =
    (hull i 0 h.0 h.1, map (λ h. hull i h.0 h.1.0 h.1.1) (enumerate_from 1 hs) ++ status i (not w) ∷ [], refl, (h.0, h.1, refl))

-- ---- outcomes of one model are told from one another

-- a certificate that is in range, or none
abbrev pub Fits : Option Certificate → Type 0
Fits (Some c) = is_certificate c ≡ true
Fits None = Unit

-- an exclusion is told from a hull by its first byte
exclusion-or-hull : (i x : ℕ) (c : Certificate) (lo hi : ℤ) (r r' : List ℕ) → line_text (exclude i c) ++ r ≢ line_text (hull i x lo hi) ++ r'
exclusion-or-hull i x c lo hi r r' e = letters (ap (λ (t : List ℕ). get_or t 0 0) e)
  where
    letters : ◌≡◌ {A = ℕ} 120 104 → ⊥
    letters e = absurd (omega (arith, e))

module _ (i : ℕ) (few : i < 16) where
  is-index : is_model_index i ≡ true
  is-index = grind (arith, nat_tests)

  exclusion-ranged : (c : Certificate) → is_certificate c ≡ true → is_in_range (exclude i c) ≡ true
  exclusion-ranged c h = and-true (is_model_index i) (is_certificate c) is-index h

  pub outcomes-differ : (offer c : Option Certificate) → Fits offer → Fits c → offer ≢ c → (l l' : Line) → IsOutcome i offer l → IsOutcome i c l'
      → (r r' : List ℕ) → put_text l ++ r ≢ put_text l' ++ r'
  outcomes-differ offer c fits fits' other l l' first second r r' e = by offer c fits fits' other first second
    where
      text : line_text l ++ 10 ∷ r ≡ line_text l' ++ 10 ∷ r'
      text = sym (append_assoc (line_text l) (10 ∷ []) r) ∙ e ∙ append_assoc (line_text l') (10 ∷ []) r'

      spelled : (k k' : Line) → l ≡ k → l' ≡ k' → line_text k ++ 10 ∷ r ≡ line_text k' ++ 10 ∷ r'
      spelled k k' is is' = ap (λ l. line_text l ++ 10 ∷ r) (sym is) ∙ text ∙ ap (λ l. line_text l ++ 10 ∷ r') is'

      by : (offer c : Option Certificate) → Fits offer → Fits c → offer ≢ c → IsOutcome i offer l → IsOutcome i c l' → ⊥
      by None None fits fits' other is is' = other refl
      by None (Some y) fits fits' other is is' =
          exclusion-or-hull i 0 y is.0 is.1 (10 ∷ r') (10 ∷ r) (sym (spelled (hull i 0 is.0 is.1) (exclude i y) is.2 is'))
      by (Some x) None fits fits' other is is' =
          exclusion-or-hull i 0 x is'.0 is'.1 (10 ∷ r) (10 ∷ r') (spelled (exclude i x) (hull i 0 is'.0 is'.1) is is'.2)
      by (Some x) (Some y) fits fits' other is is' =
          let both = ap (λ l. put_text l ++ r) (sym is) ∙ e ∙ ap (λ l. put_text l ++ r') is' in
          other (ap Some (exclusions-differ i x y r r' is-index fits fits' both).0)

  -- ---- the offer that was read, where the text goes on by an outcome

  module _ (c : Option Certificate) (fits : Fits c) (l : Line) (outcome : IsOutcome i c l) (r : List ℕ) (offered : Option Certificate) where
    -- it is the certificate of that outcome
    offer-in : (t us : List ℕ) → is_short_line t ≡ true → IsOfferIn i t offered → t ++ 10 ∷ us ≡ put_text l ++ r → offered ≡ c
    offer-in t us short offer e = by offered c fits outcome offer
      where
        text : t ++ 10 ∷ us ≡ line_text l ++ 10 ∷ r
        text = e ∙ append_assoc (line_text l) (10 ∷ []) r

        read : (y : Certificate) → is_certificate y ≡ true → l ≡ exclude i y → t ≡ line_text (exclude i y)
        read y h is =
            (feed-fronts t (line_text (exclude i y)) us r (short-feeds t short) (lines-have_no_feed (exclude i y) (exclusion-ranged y h))
            (text ∙ ap (λ l. line_text l ++ 10 ∷ r) is)).0

        same-certificate : (x y : Certificate) → exclude i x ≡ exclude i y → x ≡ y
        same-certificate x y e = cc

        by : (offered c : Option Certificate) → Fits c → IsOutcome i c l → IsOfferIn i t offered → offered ≡ c
        by None None fits is offer = refl
        by None (Some y) fits is offer = absurd (offer y (record { in_range = exclusion-ranged y fits; spelled = read y fits is }))
        by (Some x) None fits is offer =
            absurd (exclusion-or-hull i 0 x is.0 is.1 (10 ∷ us) (10 ∷ r) (ap (λ t. t ++ 10 ∷ us) (sym offer.spelled) ∙ text ∙ ap (λ l. line_text l ++ 10 ∷ r) is.2))
        by (Some x) (Some y) fits is offer =
            ap Some (same-certificate x y (lines-differ (exclude i x) (exclude i y) offer.in_range (exclusion-ranged y fits) (sym offer.spelled ∙ read y fits is)))

    -- where no line was read, it is none
    no-offer : offered ≡ None → (rest : List ℕ) → HasNoLine rest → rest ≡ put_text l ++ r → offered ≡ c
    no-offer none rest no-line e = by c fits outcome
      where
        by : (c : Option Certificate) → Fits c → IsOutcome i c l → offered ≡ c
        by None fits is = none
        by (Some y) fits is = absurd (no-start rest no-line (exclude i y, exclusion-ranged y fits, r, e ∙ ap (λ l. put_text l ++ r) is))

    pub offer-read : (ls : List Line) (ts : List (List ℕ)) (rest v : List ℕ) → list_all is_in_range ls ≡ true → list_all is_short_line ts ≡ true
        → with_feeds ts ++ rest ≡ lines_text ls ++ v
        → IsOffer i (drop (length ls) ts) offered → TakesEnough (length ls + 1) ts rest → v ≡ put_text l ++ r → offered ≡ c
    offer-read ls ts rest v ranges short e offer enough is = by (aligned rest v ls ts ranges short e) enough
      where
        behind : (us : List (List ℕ)) → list_all is_short_line us ≡ true → with_feeds us ++ rest ≡ v → IsOffer i us offered → (us ≡ [] → HasNoLine rest) → offered ≡ c
        behind [] shorts e offer none = no-offer offer rest (none refl) (e ∙ is)
        behind (t ∷ us) shorts e offer none =
            offer-in t (with_feeds us ++ rest) (both (is_short_line t) (list_all is_short_line us) shorts).0 offer (sym (feeds-front t (with_feeds us) rest) ∙ e ∙ is)

        by : Aligned rest v ls ts → TakesEnough (length ls + 1) ts rest → offered ≡ c
        by (inr before) (inl many) = absurd (omega (arith, before.0, many))
        by (inr before) (inr none) = absurd (no-start rest none before.1)
        by (inl past) (inr none) = behind (drop (length ls) ts) past.0 past.1 offer (λ _. none)
        by (inl past) (inl many) = behind (drop (length ls) ts) past.0 past.1 offer (λ e. absurd (omega (arith, many, ap length e, length-drop (length ls) ts)))
