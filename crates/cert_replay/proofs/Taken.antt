-- Lines that are taken of a report, one behind another.
use Rattle.std.proofs.Common.{◌≡◌, ◌⊎◌, inl, inr, ℕ, suc, ◌+◌, ◌-◌, ◌≤◌, nat_le, Bool, true, false, not, ◌||◌, List, [], ◌∷◌, ◌++◌, length, take, drop, refl, sym, ap, ◌∙◌, arith, subst, append-nil, append_assoc, length-append}
use Rattle.std.specs.List.{list_all, list_any}
use Rattle.std.proofs.lemmas.List.{drop-drop, length-drop, length-take, take-append-le, drop-append-le}
use Rattle.std.proofs.Math.Seq.{take-append-add}
use Rattle.std.proofs.lemmas.Bool.Decides.{nat_tests}
use Rattle.std.proofs.lemmas.List.Folds.{list_all-append}
use Rattle.std.proofs.lemmas.Grind.{flat_map-append}
use Rattle.outside_io.specs.Shelf.{ShelfState}
use Rattle.report_text.specs.Laws.{is_feed}
use Rattle.report_rules.specs.Replay.{with_feeds, is_short_line, HasNoLine}
use Rattle.report_rules.proofs.Placed.{both, and-true}
use Rattle.cert_replay.specs.Lines.{IsShortFront, most_line}
use Rattle.cert_replay.specs.Window.{LinesStand, LinesStop, HasUnread, ReadsAhead, left_in}
use Rattle.std.specs.Io.KnownBytes.{IsAtEnd}
use Rattle.cert_replay.proofs.Read.{ended-none}
use Rattle.cert_replay.specs.declared.window.Window.{Window}

pub feeds-append : (ts us : List (List ℕ)) → with_feeds (ts ++ us) ≡ with_feeds ts ++ with_feeds us
feeds-append ts us = flat_map-append (λ t. t ++ 10 ∷ []) ts us

pub drop-within : (n : ℕ) (xs ys : List ℕ) → n ≤ length xs → drop n (xs ++ ys) ≡ drop n xs ++ ys
drop-within n xs ys h = drop-append-le n xs ys h

-- the line at a front
front-are : (at : ℕ) (bytes : List ℕ) → bytes ≡ take at bytes ++ 10 ∷ drop (at + 1) bytes → bytes ≡ with_feeds (take at bytes ∷ []) ++ drop (at + 1) bytes
front-are at bytes e = e ∙ sym (ap (λ t. t ++ drop (at + 1) bytes) (append-nil (take at bytes ++ 10 ∷ [])) ∙ append_assoc (take at bytes) (10 ∷ []) (drop (at + 1) bytes))

-- one line stands there
pub line-stands : (from at : ℕ) (bytes : List ℕ) → from ≤ length bytes → IsShortFront at (drop from bytes) → LinesStand 1 from (from + at + 1) bytes
line-stands from at bytes h f = record {
  ts = take at (drop from bytes) ∷ [];
  as_many = refl;
  short = and-true (is_short_line (take at (drop from bytes))) true f.short refl;
  are = front-are at (drop from bytes) f.are ∙ ap (λ t. with_feeds (take at (drop from bytes) ∷ []) ++ t) (drop-drop (at + 1) from bytes ∙ ap (λ n. drop n bytes) (omega arith));
  within = omega (arith, there, length-drop from bytes);
  near = omega (arith, f.near);
}
  where
    there : at + 1 ≤ length (drop from bytes)
    there =
        let long = ap length f.are in
        let parts = length-append (take at (drop from bytes)) (10 ∷ drop (at + 1) (drop from bytes)) in
        omega (arith, long, parts, length-drop (at + 1) (drop from bytes), length-take at (drop from bytes))

-- no line stands where none ends among the bytes that one may have
pub line-stops : (from : ℕ) (bytes rest : List ℕ) → from ≤ length bytes → list_any is_feed (take most_line (drop from bytes)) ≡ false
    → (most_line ≤ length (drop from bytes)) ⊎ (rest ≡ []) → LinesStop 1 from bytes (bytes ++ rest)
line-stops from bytes rest h none far = record {
  ts = [];
  rest = drop from bytes ++ rest;
  fewer = omega arith;
  short = refl;
  are = drop-within from bytes rest h;
  none = no-line (drop from bytes) rest none far;
  within = omega (arith, h);
}
  where
    feed-any : (t r : List ℕ) → list_any is_feed (t ++ 10 ∷ r) ≡ true
    feed-any [] r = refl
    feed-any (c ∷ cs) r = ap (λ b. is_feed c || b) (feed-any cs r) ∙ or-true (is_feed c)
      where
        or-true : (b : Bool) → (b || true) ≡ true
        or-true true = refl
        or-true false = refl

    few : (t : List ℕ) → is_short_line t ≡ true → length t ≤ 256
    few t s = by (length t) (both (nat_le (length t) 256) (not (list_any is_feed t)) s).0
      where
        by : (n : ℕ) → nat_le n 256 ≡ true → n ≤ 256
        by n s = grind (arith, nat_tests)

    take-front : (t r : List ℕ) → length t ≤ 256 → take most_line (t ++ 10 ∷ r) ≡ t ++ 10 ∷ take (256 - length t) r
    take-front t r l =
        let n : most_line ≡ length t + (257 - length t) = omega arith in
        let m : 257 - length t ≡ suc (256 - length t) = omega arith in
        ap (λ k. take k (t ++ 10 ∷ r)) n ∙ take-append-add t (10 ∷ r) (257 - length t) ∙ ap (λ k. t ++ take k (10 ∷ r)) m

    no-line : (bytes rest : List ℕ) → list_any is_feed (take most_line bytes) ≡ false → (most_line ≤ length bytes) ⊎ (rest ≡ []) → HasNoLine (bytes ++ rest)
    no-line bytes rest none (inl far) t r short e =
        let l = few t short in
        let front : take most_line bytes ≡ t ++ 10 ∷ take (256 - length t) r = sym (take-append-le most_line bytes rest far) ∙ ap (take most_line) e ∙ take-front t r l in
        absurd (differ (sym (feed-any t (take (256 - length t) r)) ∙ sym (ap (list_any is_feed) front) ∙ none))
      where
        differ : ◌≡◌ {A = Bool} true false → ⊥
        differ e = absurd cc
    no-line bytes rest none (inr end) t r short e =
        let l = few t short in
        let front : take most_line bytes ≡ t ++ 10 ∷ take (256 - length t) r = ap (take most_line) (sym (append-nil bytes) ∙ ap (λ t. bytes ++ t) (sym end) ∙ e) ∙ take-front t r l in
        absurd (differ (sym (feed-any t (take (256 - length t) r)) ∙ sym (ap (list_any is_feed) front) ∙ none))
      where
        differ : ◌≡◌ {A = Bool} true false → ⊥
        differ e = absurd cc

-- ---- lines behind lines

pub none-stand : (from : ℕ) (bytes : List ℕ) → from ≤ length bytes → LinesStand 0 from from bytes
none-stand from bytes h = record { ts = []; as_many = refl; short = refl; are = refl; within = h; near = omega arith }

abbrev pub stand-more : (n m a b c : ℕ) (bytes : List ℕ) → LinesStand n a b bytes → LinesStand m b c bytes → LinesStand (n + m) a c bytes
stand-more n m a b c bytes p q = record {
  ts = p.ts ++ q.ts;
  as_many = length-append p.ts q.ts ∙ ap (λ k. k + length q.ts) p.as_many ∙ ap (λ k. n + k) q.as_many;
  short = list_all-append is_short_line p.ts q.ts ∙ and-true (list_all is_short_line p.ts) (list_all is_short_line q.ts) p.short q.short;
  are = p.are ∙ ap (λ t. with_feeds p.ts ++ t) q.are ∙ sym (append_assoc (with_feeds p.ts) (with_feeds q.ts) (drop c bytes)) ∙ ap (λ t. t ++ drop c bytes) (sym (feeds-append p.ts q.ts));
  within = q.within;
  near = omega (arith, p.near, q.near);
}

-- where there is more behind them
abbrev pub stand-longer : (n a b : ℕ) (bytes piece longer : List ℕ) → longer ≡ bytes ++ piece → a ≤ length bytes → LinesStand n a b bytes → LinesStand n a b longer
stand-longer n a b bytes piece longer e h p = record {
  ts = p.ts;
  as_many = p.as_many;
  short = p.short;
  are = ap (drop a) e ∙ drop-within a bytes piece h ∙ ap (λ t. t ++ piece) p.are ∙ append_assoc (with_feeds p.ts) (drop b bytes) piece
      ∙ ap (λ t. with_feeds p.ts ++ t) (sym (ap (drop b) e ∙ drop-within b bytes piece p.within));
  within = omega (arith, p.within, ap length e, length-append bytes piece);
  near = p.near;
}

abbrev pub stop-longer : (n a : ℕ) (bytes piece longer unread : List ℕ) → longer ≡ bytes ++ piece → LinesStop n a bytes unread → LinesStop n a longer unread
stop-longer n a bytes piece longer unread e p = record {
  ts = p.ts;
  rest = p.rest;
  fewer = p.fewer;
  short = p.short;
  are = p.are;
  none = p.none;
  within = omega (arith, p.within, ap length e, length-append bytes piece);
}

-- where more lines were to be taken
abbrev pub stop-sooner : (n m a : ℕ) (bytes unread : List ℕ) → n ≤ m → LinesStop n a bytes unread → LinesStop m a bytes unread
stop-sooner n m a bytes unread l p = record {
  ts = p.ts;
  rest = p.rest;
  fewer = omega (arith, p.fewer, l);
  short = p.short;
  are = p.are;
  none = p.none;
  within = p.within;
}

-- lines that stand in the window stand in what is unread
pub stand-unread : (n a b : ℕ) (bytes rest unread : List ℕ) → unread ≡ bytes ++ rest → a ≤ length bytes → (p : LinesStand n a b bytes) → drop a unread ≡ with_feeds p.ts ++ drop b unread
stand-unread n a b bytes rest unread e h p = (stand-longer n a b bytes rest unread e h p).are

-- how far they go
pub stand-long : (n a b : ℕ) (bytes : List ℕ) → a ≤ length bytes → (p : LinesStand n a b bytes) → a + length (with_feeds p.ts) ≡ b
stand-long n a b bytes h p =
    let long = ap length p.are in
    let parts = length-append (with_feeds p.ts) (drop b bytes) in
    omega (arith, long, parts, h, p.within, length-drop a bytes, length-drop b bytes)

abbrev pub stop-more : (n m a b : ℕ) (bytes rest unread : List ℕ) → unread ≡ bytes ++ rest → a ≤ length bytes → LinesStand n a b bytes → LinesStop m b bytes unread
    → LinesStop (n + m) a bytes unread
stop-more n m a b bytes rest unread e h p q = record {
  ts = p.ts ++ q.ts;
  rest = q.rest;
  fewer = omega (arith, length-append p.ts q.ts, p.as_many, q.fewer);
  short = list_all-append is_short_line p.ts q.ts ∙ and-true (list_all is_short_line p.ts) (list_all is_short_line q.ts) p.short q.short;
  are = stand-unread n a b bytes rest unread e h p ∙ ap (λ t. with_feeds p.ts ++ t) q.are ∙ sym (append_assoc (with_feeds p.ts) (with_feeds q.ts) q.rest) ∙ ap (λ t. t ++ q.rest) (sym (feeds-append p.ts q.ts));
  none = q.none;
  within = omega (arith, ap length (feeds-append p.ts q.ts), length-append (with_feeds p.ts) (with_feeds q.ts), stand-long n a b bytes h p, q.within);
}

-- ---- what a window has

pub ahead-none : (w : Window) (shelf : ShelfState) → ReadsAhead w shelf w shelf
ahead-none w shelf = record { same = λ u h. h; piece = []; grows = sym (append-nil (left_in w)); lines = refl }

pub ahead-then : (w w' w'' : Window) (s s' s'' : ShelfState) → ReadsAhead w s w' s' → ReadsAhead w' s' w'' s'' → ReadsAhead w s w'' s''
ahead-then w w' w'' s s' s'' p q = record {
  same = λ u h. q.same u (p.same u h);
  piece = p.piece ++ q.piece;
  grows = q.grows ∙ ap (λ t. t ++ q.piece) p.grows ∙ append_assoc (left_in w) p.piece q.piece;
  lines = q.lines ∙ p.lines;
}

-- no line stands, as far as is told
pub stops-far : (w : Window) (shelf : ShelfState) (from : ℕ) → from ≤ length (left_in w) → list_any is_feed (take most_line (drop from (left_in w))) ≡ false
    → most_line ≤ length (left_in w) - from → (unread : List ℕ) → HasUnread w shelf unread → LinesStop 1 from (left_in w) unread
stops-far w shelf from h none far unread u =
    subst (LinesStop 1 from (left_in w)) (sym u.is) (line-stops from (left_in w) u.rest h none (inl (omega (arith, far, length-drop from (left_in w)))))

pub stops-ended : (w : Window) (shelf : ShelfState) (from : ℕ) → from ≤ length (left_in w) → list_any is_feed (take most_line (drop from (left_in w))) ≡ false
    → IsAtEnd (shelf.slot 2).rest → (unread : List ℕ) → HasUnread w shelf unread → LinesStop 1 from (left_in w) unread
stops-ended w shelf from h none end unread u =
    subst (LinesStop 1 from (left_in w)) (sym u.is) (line-stops from (left_in w) u.rest h none (inr (ended-none (shelf.slot 2).rest u.rest end u.told)))
