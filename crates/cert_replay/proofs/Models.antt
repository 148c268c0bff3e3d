-- The lines that are taken for one model.
use Rattle.std.proofs.Common.{◌≡◌, ℕ, ◌+◌, ◌-◌, ◌<◌, ◌≤◌, List, [], ◌∷◌, ◌++◌, length, take, drop, Option, Some, None, refl, sym, ap, ◌∙◌, arith, subst, append-nil, append_assoc, length-append}
use Rattle.std.proofs.Math.Seq.{drop-append_seam, take-append_seam}
use Rattle.std.proofs.Math.ListN.{drop_of_length-le}
use Rattle.std.specs.Prelude.{slice_range, IfSome}
use Rattle.outside_io.specs.Shelf.{ShelfState}
use Rattle.farkas_check.specs.Certificate.{Certificate}
use Rattle.report_rules.specs.Replay.{with_feeds, IsOffer, IsOfferIn}
use Rattle.cert_replay.specs.Window.{left_in, ReadsAhead, LinesStand, TakesLines}
use Rattle.cert_replay.specs.Offers.{TakesModel, many_lines}
use Rattle.cert_replay.specs.declared.window.Window.{Window}
use Rattle.cert_replay.proofs.Taken.{stand-more, stand-longer, stop-longer, stop-more, stop-sooner, stand-long, ahead-none}

no-lines : (ts : List (List ℕ)) → length ts < 1 → ts ≡ []
no-lines [] h = refl
no-lines (t ∷ ts) h = absurd (omega (arith, h))

-- behind so many lines stand the others
pub behind-lines : (ts us : List (List ℕ)) (n : ℕ) → length ts ≡ n → drop n (ts ++ us) ≡ us
behind-lines ts us n e = ap (λ k. drop k (ts ++ us)) (sym e) ∙ drop-append_seam ts us

-- the text of a line that was taken alone
pub line-text : (from to : ℕ) (bytes : List ℕ) → from ≤ length bytes → (p : LinesStand 1 from to bytes) → p.ts ≡ slice_range bytes from (to - 1) ∷ []
line-text from to bytes h p = by p.ts p.as_many p.are (stand-long 1 from to bytes h p)
  where
    by : (ts : List (List ℕ)) → length ts ≡ 1 → drop from bytes ≡ with_feeds ts ++ drop to bytes → from + length (with_feeds ts) ≡ to → ts ≡ slice_range bytes from (to - 1) ∷ []
    by [] many are long = absurd (omega (arith, many))
    by (t ∷ u ∷ us) many are long = absurd (omega (arith, many))
    by (t ∷ []) many are long =
        let size : length t ≡ to - 1 - from = omega (arith, long, length-append (t ++ 10 ∷ []) [], length-append t (10 ∷ [])) in
        let front : drop from bytes ≡ t ++ (10 ∷ drop to bytes) = are ∙ ap (λ x. x ++ drop to bytes) (append-nil (t ++ 10 ∷ [])) ∙ append_assoc t (10 ∷ []) (drop to bytes) in
        ap (λ x. x ∷ []) (sym (ap (λ n. take n (drop from bytes)) (sym size) ∙ ap (take (length t)) front ∙ take-append_seam t (10 ∷ drop to bytes)))

-- the same number of lines
abbrev with-many : (a d : ℕ) (bytes : List ℕ) (n m : ℕ) → n ≡ m → LinesStand n a d bytes → LinesStand m a d bytes
with-many a d bytes n m e p = record { ts = p.ts; as_many = p.as_many ∙ e; short = p.short; are = p.are; within = p.within; near = omega (arith, p.near, e) }

module _ (i outputs states : ℕ) where
  module _ (w0 w1 w2 : Window) (s0 s1 s2 : ShelfState) (a1 : ReadsAhead w0 s0 w1 s1) (a2 : ReadsAhead w1 s1 w2 s2) where
    -- before the outcome no line stands
    pub stops-before : (a : ℕ) → TakesLines outputs (Some a) w0 s0 w1 None → TakesModel i outputs states (Some a) w0 s0 w2 (None, None)
    stops-before a t = λ unread u.
        let p = t unread u in
        let few : length p.ts ≤ outputs = omega (arith, p.fewer) in
        record {
          stops = stop-sooner outputs (many_lines outputs states None) a (left_in w2) unread (omega arith) (stop-longer outputs a (left_in w1) a2.piece (left_in w2) unread a2.grows p);
          offer = subst (λ ts. IsOffer i ts None) (sym (drop_of_length-le p.ts few)) refl;
        }

    module _ (a b : ℕ) (h : a ≤ length (left_in w1)) (t1 : LinesStand outputs a b (left_in w1)) where
      -- the predictions still stand in the window
      abbrev there : LinesStand outputs a b (left_in w2)
      there = stand-longer outputs a b (left_in w1) a2.piece (left_in w2) a2.grows h t1

      longer : a ≤ length (left_in w2)
      longer = omega (arith, h, ap length a2.grows, length-append (left_in w1) a2.piece)

      -- no line stands in the place of the outcome
      pub stops-at : TakesLines 1 (Some b) w1 s1 w2 None → TakesModel i outputs states (Some a) w0 s0 w2 (None, None)
      stops-at t2 = λ unread u.
          let u2 = a2.same unread (a1.same unread u) in
          let q = t2 unread (a1.same unread u) in
          record {
            stops = stop-sooner (outputs + 1) (many_lines outputs states None) a (left_in w2) unread (omega arith) (stop-more outputs 1 a b (left_in w2) u2.rest unread u2.is longer there q);
            offer = subst (λ ts. IsOffer i ts None) (sym (behind-lines t1.ts q.ts outputs t1.as_many ∙ no-lines q.ts q.fewer)) refl;
          }

      module _ (c : ℕ) (hb : b ≤ length (left_in w2)) (t2 : LinesStand 1 b c (left_in w2)) where
        abbrev text : List ℕ
        text = slice_range (left_in w2) b (c - 1)

        abbrev both : LinesStand (outputs + 1) a c (left_in w2)
        both = stand-more outputs 1 a b c (left_in w2) there t2

        lines-are : drop outputs both.ts ≡ text ∷ []
        lines-are = behind-lines t1.ts t2.ts outputs t1.as_many ∙ line-text b c (left_in w2) hb t2

        -- the outcome is an exclusion
        pub excludes : (cert : Certificate) → IsOfferIn i text (Some cert) → TakesModel i outputs states (Some a) w0 s0 w2 (Some cert, Some c)
        excludes cert offer = record { stands = both; offer = subst (λ ts. IsOffer i ts (Some cert)) (sym lines-are) offer }

        -- it is none, and the rest of the model's lines were taken
        module _ (w3 : Window) (s3 : ShelfState) (a3 : ReadsAhead w2 s2 w3 s3) (offer : IsOfferIn i text None) where
          abbrev before : LinesStand (outputs + 1) a c (left_in w3)
          before = stand-longer (outputs + 1) a c (left_in w2) a3.piece (left_in w3) a3.grows longer both

          longest : a ≤ length (left_in w3)
          longest = omega (arith, longer, ap length a3.grows, length-append (left_in w2) a3.piece)

          many : outputs + 1 + states ≡ many_lines outputs states None
          many = omega arith

          -- the offer stands in front of the lines behind it
          offer-first : (us : List (List ℕ)) → IsOffer i (drop outputs ((t1.ts ++ t2.ts) ++ us)) None
          offer-first us =
              subst (λ ts. IsOffer i ts None)
              (sym (ap (drop outputs) (append_assoc t1.ts t2.ts us) ∙ behind-lines t1.ts (t2.ts ++ us) outputs t1.as_many ∙ ap (λ ts. ts ++ us) (line-text b c (left_in w2) hb t2))) offer

          pub stays : (d : ℕ) → TakesLines states (Some c) w2 s2 w3 (Some d) → TakesModel i outputs states (Some a) w0 s0 w3 (None, Some d)
          stays d t3 = record {
            stands = with-many a d (left_in w3) (outputs + 1 + states) (many_lines outputs states None) many (stand-more (outputs + 1) states a c d (left_in w3) before t3);
            offer = offer-first t3.ts;
          }

          pub stops-behind : TakesLines states (Some c) w2 s2 w3 None → TakesModel i outputs states (Some a) w0 s0 w3 (None, None)
          stops-behind t3 = λ unread u.
              let u2 = a2.same unread (a1.same unread u) in
              let u3 = a3.same unread u2 in
              let q = t3 unread u2 in
              record {
                stops = stop-sooner (outputs + 1 + states) (many_lines outputs states None) a (left_in w3) unread (omega arith)
                    (stop-more (outputs + 1) states a c (left_in w3) u3.rest unread u3.is longest before q);
                offer = offer-first q.ts;
              }

pub if-at : (place : Option ℕ) (P : ℕ → Type 0) (a : ℕ) → IfSome place P → place ≡ Some a → P a
if-at None P a h e = absurd cc
if-at (Some b) P a h e = let same : b ≡ a = cc in subst P same h

-- ---- for any place

module _ (i outputs states : ℕ) (place : Option ℕ) (w0 w1 : Window) (s0 s1 : ShelfState) (begins : IfSome place (λ from. from ≤ length (left_in w0))) (a1 : ReadsAhead w0 s0 w1 s1) where
  within : (a : ℕ) → place ≡ Some a → a ≤ length (left_in w1)
  within a e = omega (arith, if-at place (λ from. from ≤ length (left_in w0)) a begins e, ap length a1.grows, length-append (left_in w0) a1.piece)

  pub model-before : TakesLines outputs place w0 s0 w1 None → TakesModel i outputs states place w0 s0 w1 (None, None)
  model-before = by place
    where
      by : (place : Option ℕ) → TakesLines outputs place w0 s0 w1 None → TakesModel i outputs states place w0 s0 w1 (None, None)
      by None t = (refl, refl)
      by (Some a) t = stops-before i outputs states w0 w1 w1 s0 s1 s1 a1 (ahead-none w1 s1) a t

  module _ (b : ℕ) (taken : TakesLines outputs place w0 s0 w1 (Some b)) (w2 : Window) (s2 : ShelfState) (a2 : ReadsAhead w1 s1 w2 s2) where
    pub model-at : TakesLines 1 (Some b) w1 s1 w2 None → TakesModel i outputs states place w0 s0 w2 (None, None)
    model-at t2 = by place within taken
      where
        by : (place : Option ℕ) → ((a : ℕ) → place ≡ Some a → a ≤ length (left_in w1)) → TakesLines outputs place w0 s0 w1 (Some b) → TakesModel i outputs states place w0 s0 w2 (None, None)
        by None h t = absurd cc
        by (Some a) h t = stops-at i outputs states w0 w1 w2 s0 s1 s2 a1 a2 a b (h a refl) t t2

    module _ (c : ℕ) (hb : b ≤ length (left_in w2)) (t2 : TakesLines 1 (Some b) w1 s1 w2 (Some c)) where
      pub model-excludes : (cert : Certificate) → IsOfferIn i (slice_range (left_in w2) b (c - 1)) (Some cert) → TakesModel i outputs states place w0 s0 w2 (Some cert, Some c)
      model-excludes cert offer = by place within taken
        where
          by : (place : Option ℕ) → ((a : ℕ) → place ≡ Some a → a ≤ length (left_in w1)) → TakesLines outputs place w0 s0 w1 (Some b) → TakesModel i outputs states place w0 s0 w2 (Some cert, Some c)
          by None h t = absurd cc
          by (Some a) h t = excludes i outputs states w0 w1 w2 s0 s1 s2 a1 a2 a b (h a refl) t c hb t2 cert offer

      pub model-stays : (w3 : Window) (s3 : ShelfState) → ReadsAhead w2 s2 w3 s3 → IsOfferIn i (slice_range (left_in w2) b (c - 1)) None → (d : Option ℕ) → TakesLines states (Some c) w2 s2 w3 d
          → TakesModel i outputs states place w0 s0 w3 (None, d)
      model-stays w3 s3 a3 offer d t3 = by place within taken d t3
        where
          by : (place : Option ℕ) → ((a : ℕ) → place ≡ Some a → a ≤ length (left_in w1)) → TakesLines outputs place w0 s0 w1 (Some b)
              → (d : Option ℕ) → TakesLines states (Some c) w2 s2 w3 d → TakesModel i outputs states place w0 s0 w3 (None, d)
          by None h t d t3 = absurd cc
          by (Some a) h t None t3 = stops-behind i outputs states w0 w1 w2 s0 s1 s2 a1 a2 a b (h a refl) t c hb t2 w3 s3 a3 offer t3
          by (Some a) h t (Some d) t3 = stays i outputs states w0 w1 w2 s0 s1 s2 a1 a2 a b (h a refl) t c hb t2 w3 s3 a3 offer d t3

-- ---- where lines that were taken end

pub taken-within : (n : ℕ) (place : Option ℕ) (w w' : Window) (s : ShelfState) (b : ℕ) → TakesLines n place w s w' (Some b) → b ≤ length (left_in w')
taken-within n None w w' s b t = absurd cc
taken-within n (Some a) w w' s b t = t.within

-- a line has some byte
pub taken-past : (a b : ℕ) (bytes : List ℕ) → a ≤ length bytes → LinesStand 1 a b bytes → a + 1 ≤ b
taken-past a b bytes h p = by p.ts p.as_many (stand-long 1 a b bytes h p)
  where
    by : (ts : List (List ℕ)) → length ts ≡ 1 → a + length (with_feeds ts) ≡ b → a + 1 ≤ b
    by [] many long = absurd (omega (arith, many))
    by (t ∷ ts) many long = omega (arith, long, length-append (t ++ 10 ∷ []) (with_feeds ts), length-append t (10 ∷ []))
