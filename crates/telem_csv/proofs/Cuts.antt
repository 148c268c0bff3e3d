-- A text is cut at its first line feed.
use Rattle.std.proofs.Common.{◌≡◌, ℕ, suc, ◌+◌, ◌<◌, ◌≤◌, Bool, true, false, ◌||◌, not, List, [], ◌∷◌, ◌++◌, length, take, drop, refl, sym, ◌∙◌, ap, arith, Some, None}
use Rattle.std.specs.Prelude.{nat_lt}
use Rattle.std.specs.List.{list_any, before_first, after_first, position, position_or_len}
use Rattle.std.proofs.lemmas.Bool.Decides.{nat_tests}
use Rattle.telem_csv.specs.Lines.{is_feed, raw_lines}

neither : (a b : Bool) → (a || b) ≡ false → (a ≡ false) × (b ≡ false)
neither true b h = absurd (cc)
neither false b h = (refl, h)

not_false : (b : Bool) → b ≡ false → not b ≡ true
not_false b h = rw h refl

-- the first line feed of c and cs, where c is none
place_behind : (c : ℕ) (cs : List ℕ) → is_feed c ≡ false → position_or_len is_feed (c ∷ cs) ≡ suc (position_or_len is_feed cs)
place_behind c cs h = rw (not_false (is_feed c) h) (omega arith)

place_here : (c : ℕ) (cs : List ℕ) → is_feed c ≡ true → position_or_len is_feed (c ∷ cs) ≡ 0
place_here c cs h = rw h refl

before_here : (c : ℕ) (cs : List ℕ) → is_feed c ≡ true → before_first is_feed (c ∷ cs) ≡ []
before_here c cs h = ap (λ n. take n (c ∷ cs)) (place_here c cs h)

before_behind : (c : ℕ) (cs : List ℕ) → is_feed c ≡ false → before_first is_feed (c ∷ cs) ≡ c ∷ before_first is_feed cs
before_behind c cs h = ap (λ n. take n (c ∷ cs)) (place_behind c cs h)

after_here : (c : ℕ) (cs : List ℕ) → is_feed c ≡ true → after_first is_feed (c ∷ cs) ≡ cs
after_here c cs h = let e : position_or_len is_feed (c ∷ cs) + 1 ≡ suc 0 = omega (arith, place_here c cs h) in ap (λ n. drop n (c ∷ cs)) e

after_behind : (c : ℕ) (cs : List ℕ) → is_feed c ≡ false → after_first is_feed (c ∷ cs) ≡ after_first is_feed cs
after_behind c cs h =
    let e : position_or_len is_feed (c ∷ cs) + 1 ≡ suc (position_or_len is_feed cs + 1) = omega (arith, place_behind c cs h) in
    ap (λ n. drop n (c ∷ cs)) e

feed_is : (c : ℕ) → is_feed c ≡ true → c ≡ 10
feed_is c h = grind (arith, nat_tests)

-- no line feed stands before the first
pub no_feed_before : (xs : List ℕ) → list_any is_feed (before_first is_feed xs) ≡ false
no_feed_before [] = refl
no_feed_before (c ∷ cs) = by_feed (is_feed c) refl (no_feed_before cs)
  where
    by_feed : (b : Bool) → is_feed c ≡ b → list_any is_feed (before_first is_feed cs) ≡ false → list_any is_feed (before_first is_feed (c ∷ cs)) ≡ false
    by_feed true h rest = rw (before_here c cs h) refl
    by_feed false h rest = rw (before_behind c cs h, h) rest

-- a text with a line feed is what stands before it, the line feed and the rest
pub cut_at_feed : (xs : List ℕ) → list_any is_feed xs ≡ true → xs ≡ before_first is_feed xs ++ 10 ∷ after_first is_feed xs
cut_at_feed [] h = absurd (cc)
cut_at_feed (c ∷ cs) h = by_feed (is_feed c) refl (cut_at_feed cs)
  where
    by_feed : (b : Bool) → is_feed c ≡ b → (list_any is_feed cs ≡ true → cs ≡ before_first is_feed cs ++ 10 ∷ after_first is_feed cs) → c ∷ cs ≡ before_first is_feed (c ∷ cs) ++ 10 ∷ after_first is_feed (c ∷ cs)
    by_feed true e rest = rw (before_here c cs e, after_here c cs e) (ap (λ d. d ∷ cs) (feed_is c e))
    by_feed false e rest = let more : list_any is_feed cs ≡ true = rw e at h in feed_behind e (rest more)
      where
        feed_behind : is_feed c ≡ false → cs ≡ before_first is_feed cs ++ 10 ∷ after_first is_feed cs → c ∷ cs ≡ before_first is_feed (c ∷ cs) ++ 10 ∷ after_first is_feed (c ∷ cs)
        feed_behind e f = ap (λ t. c ∷ t) f ∙ sym (ap (λ t. t ++ 10 ∷ after_first is_feed (c ∷ cs)) (before_behind c cs e) ∙ ap (λ t. c ∷ (before_first is_feed cs ++ 10 ∷ t)) (after_behind c cs e))

pub no_feed_at_all : (xs : List ℕ) → list_any is_feed xs ≡ false → before_first is_feed xs ≡ xs
no_feed_at_all [] h = refl
no_feed_at_all (c ∷ cs) h =
    let parts = neither (is_feed c) (list_any is_feed cs) h in
    before_behind c cs parts.0 ∙ ap (λ t. c ∷ t) (no_feed_at_all cs parts.1)

-- what a search for the first line feed tells
pub record Found (xs : List ℕ) (at : ℕ) : Type 0 where
  pub before : take at xs ≡ before_first is_feed xs
  pub some : list_any is_feed xs ≡ true

has_feed : (xs : List ℕ) → position_or_len is_feed xs < length xs → list_any is_feed xs ≡ true
has_feed [] h = absurd (omega (arith, h))
has_feed (c ∷ cs) h = by_feed (is_feed c) refl (has_feed cs)
  where
    by_feed : (b : Bool) → is_feed c ≡ b → (position_or_len is_feed cs < length cs → list_any is_feed cs ≡ true) → list_any is_feed (c ∷ cs) ≡ true
    by_feed true e rest = rw e refl
    by_feed false e rest = rw e (rest (omega (arith, h, place_behind c cs e)))

has_no_feed : (xs : List ℕ) → length xs ≤ position_or_len is_feed xs → list_any is_feed xs ≡ false
has_no_feed [] h = refl
has_no_feed (c ∷ cs) h = by_feed (is_feed c) refl (has_no_feed cs)
  where
    by_feed : (b : Bool) → is_feed c ≡ b → (length cs ≤ position_or_len is_feed cs → list_any is_feed cs ≡ false) → list_any is_feed (c ∷ cs) ≡ false
    by_feed true e rest = absurd (omega (arith, h, place_here c cs e))
    by_feed false e rest = rw e (rest (omega (arith, h, place_behind c cs e)))

pub feed_found : (xs : List ℕ) (at : ℕ) → Some at ≡ position is_feed xs → Found xs at
feed_found xs at h = by_place (nat_lt (position_or_len is_feed xs) (length xs)) refl
  where
    by_place : (b : Bool) → nat_lt (position_or_len is_feed xs) (length xs) ≡ b → Found xs at
    by_place true e =
        let same : at ≡ position_or_len is_feed xs = (let f : Some at ≡ Some (position_or_len is_feed xs) = rw e at h in cc) in
        record { before = ap (λ n. take n xs) same; some = has_feed xs (grind (arith, nat_tests, e)) }
    by_place false e = let f : Some at ≡ None = rw e at h in absurd (cc)

pub feed_not_found : (xs : List ℕ) → None ≡ position is_feed xs → list_any is_feed xs ≡ false
feed_not_found xs h = by_place (nat_lt (position_or_len is_feed xs) (length xs)) refl
  where
    by_place : (b : Bool) → nat_lt (position_or_len is_feed xs) (length xs) ≡ b → list_any is_feed xs ≡ false
    by_place true e = let f : None ≡ Some (position_or_len is_feed xs) = rw e at h in absurd (cc)
    by_place false e = has_no_feed xs (grind (arith, nat_tests, e))

-- a text without a line feed, a line feed and a rest: this line, and the lines of the rest
pub raw_lines-cut : (xs rest : List ℕ) → list_any is_feed xs ≡ false → raw_lines (xs ++ 10 ∷ rest) ≡ record { bytes = xs; is_ended = true } ∷ raw_lines rest
raw_lines-cut [] rest h = refl
raw_lines-cut (c ∷ cs) rest h = let parts = neither (is_feed c) (list_any is_feed cs) h in rw (raw_lines-cut cs rest parts.1, parts.0) refl

-- bytes after the last line feed
pub raw_lines-last : (x : ℕ) (xs : List ℕ) → list_any is_feed (x ∷ xs) ≡ false → raw_lines (x ∷ xs) ≡ record { bytes = x ∷ xs; is_ended = false } ∷ []
raw_lines-last x [] h = let parts = neither (is_feed x) false h in rw parts.0 refl
raw_lines-last x (y ∷ ys) h = let parts = neither (is_feed x) (list_any is_feed (y ∷ ys)) h in rw (raw_lines-last y ys parts.1, parts.0) refl
