-- Where a window's text departs from lines that it is compared with.
use Rattle.std.proofs.Common.{◌≡◌, ◌≢◌, ◌⊎◌, inl, inr, ℕ, suc, ◌+◌, ◌<◌, ◌≤◌, nat_lt, Bool, true, false, ◌||◌, List, [], ◌∷◌, ◌++◌, length, get_or, take, drop, refl, sym, ap, ◌∙◌, arith, append-nil, append_assoc, length-append}
use Rattle.std.specs.List.{list_all, list_any, count_by}
use Rattle.std.proofs.lemmas.List.{take-append-drop, take_more, append_cancel_left, length-take-le}
use Rattle.std.specs.Prelude.{cond}
use Rattle.std.proofs.lemmas.List.Sums.{sum_by-append}
use Rattle.std.proofs.lemmas.Bool.Decides.{nat_tests}
use Rattle.std.proofs.lemmas.List.Folds.{list_all-append}
use Rattle.report_text.specs.Line.{Line, line_text, put_text, lines_text}
use Rattle.report_text.specs.Laws.{is_feed}
use Rattle.report_text.specs.Ranges.{is_in_range}
use Rattle.report_text.proofs.Sizes.{lines-have_no_feed}
use Rattle.report_rules.specs.Replay.{with_feeds, is_short_line, TakesEnough}
use Rattle.report_rules.proofs.Placed.{both}
use Rattle.report_rules.proofs.Departs.{lines_text-append}
use Rattle.report_rules.proofs.Refused.{Aligned, aligned, no-start, short-feeds}
use Rattle.cert_replay.specs.Window.{PartsBehind}

below-or : (a b : ℕ) → (a < b) ⊎ (b ≤ a)
below-or a b = by (nat_lt a b) refl
  where
    by : (t : Bool) → nat_lt a b ≡ t → (a < b) ⊎ (b ≤ a)
    by true h = inl (grind (arith, nat_tests))
    by false h = inr (grind (arith, nat_tests))

-- ---- how many line feeds there are

feeds-append : (xs ys : List ℕ) → count_by is_feed (xs ++ ys) ≡ count_by is_feed xs + count_by is_feed ys
feeds-append xs ys = sum_by-append (λ x. cond (is_feed x) 1 0) xs ys

feeds-none : (xs : List ℕ) → list_any is_feed xs ≡ false → count_by is_feed xs ≡ 0
feeds-none [] h = refl
feeds-none (c ∷ cs) h = by (is_feed c) refl h (feeds-none cs)
  where
    by : (b : Bool) → is_feed c ≡ b → (b || list_any is_feed cs) ≡ false → (list_any is_feed cs ≡ false → count_by is_feed cs ≡ 0) → count_by is_feed (c ∷ cs) ≡ 0
    by true e h more = absurd cc
    by false e h more = rw e (more h)

feeds-line : (t : List ℕ) → list_any is_feed t ≡ false → count_by is_feed (t ++ 10 ∷ []) ≡ 1
feeds-line t h = feeds-append t (10 ∷ []) ∙ ap (λ n. n + 1) (feeds-none t h)

-- one for each line
pub feeds-lines : (ls : List Line) → list_all is_in_range ls ≡ true → count_by is_feed (lines_text ls) ≡ length ls
feeds-lines [] h = refl
feeds-lines (l ∷ ls) h =
    let parts = both (is_in_range l) (list_all is_in_range ls) h in
    feeds-append (put_text l) (lines_text ls) ∙ ap (λ n. n + count_by is_feed (lines_text ls)) (feeds-line (line_text l) (lines-have_no_feed l parts.0))
    ∙ ap (λ n. 1 + n) (feeds-lines ls parts.1) ∙ omega arith

feeds-taken : (ts : List (List ℕ)) → list_all is_short_line ts ≡ true → count_by is_feed (with_feeds ts) ≡ length ts
feeds-taken [] h = refl
feeds-taken (t ∷ ts) h =
    let parts = both (is_short_line t) (list_all is_short_line ts) h in
    feeds-append (t ++ 10 ∷ []) (with_feeds ts) ∙ ap (λ n. n + count_by is_feed (with_feeds ts)) (feeds-line t (short-feeds t parts.0))
    ∙ ap (λ n. 1 + n) (feeds-taken ts parts.1) ∙ omega arith

-- ---- the line in which a front of a text ends

-- a front of the text of some lines, and the byte behind it: they stand in line j
pub record PartOf (ls : List Line) (same : List ℕ) (next : ℕ) : Type 0 where
  pub j : ℕ
  pub within : j < length ls
  pub part : List ℕ
  pub same_is : same ≡ lines_text (take j ls) ++ part
  pub tail : List ℕ
  pub line_is : (d : Line) → put_text (get_or ls j d) ≡ part ++ next ∷ tail
  pub feeds : count_by is_feed same ≡ j

-- two texts of which one is longer
cut-first : (xs ys r r' : List ℕ) → xs ++ r ≡ ys ++ r' → length ys ≤ length xs → (m : List ℕ) × (xs ≡ ys ++ m) × (r' ≡ m ++ r)
cut-first xs [] r r' e h = (xs, refl, sym e)
cut-first [] (y ∷ ys) r r' e h = absurd (omega (arith, h))
cut-first (x ∷ xs) (y ∷ ys) r r' e h =
    let tails : xs ++ r ≡ ys ++ r' = cc in
    let more = cut-first xs ys r r' tails (omega (arith, h)) in
    let head : x ≡ y = cc in
    (more.0, ap (λ z. z ∷ xs) head ∙ ap (λ zs. y ∷ zs) more.1, more.2)

-- a front of a line with its feed, of which more is to come, has no feed
front-feeds : (t part tail : List ℕ) (next : ℕ) → list_any is_feed t ≡ false → t ++ 10 ∷ [] ≡ part ++ next ∷ tail → count_by is_feed part ≡ 0
front-feeds t part tail next h e =
    let longer : length part ≤ length t = omega (arith, ap length e, length-append t (10 ∷ []), length-append part (next ∷ tail)) in
    let cut = cut-first t part (10 ∷ []) (next ∷ tail) e longer in
    let all = ap (count_by is_feed) cut.1 ∙ feeds-append part cut.0 in
    omega (arith, all, feeds-none t h)

pub part-of : (ls : List Line) (same more : List ℕ) (next : ℕ) → list_all is_in_range ls ≡ true → lines_text ls ≡ same ++ next ∷ more → PartOf ls same next
part-of [] same more next h e = absurd (omega (arith, ap length e, length-append same (next ∷ more)))
part-of (l ∷ ls) same more next h e =
    by (below-or (length same) (length (put_text l))) (λ s e. part-of ls s more next (both (is_in_range l) (list_all is_in_range ls) h).1 e)
  where
    parts : (is_in_range l ≡ true) × (list_all is_in_range ls ≡ true)
    parts = both (is_in_range l) (list_all is_in_range ls) h

    grouped : (a b : List ℕ) → a ++ next ∷ b ≡ (a ++ next ∷ []) ++ b
    grouped a b = sym (append_assoc a (next ∷ []) b)

    by : (length same < length (put_text l)) ⊎ (length (put_text l) ≤ length same) → ((s : List ℕ) → lines_text ls ≡ s ++ next ∷ more → PartOf ls s next) → PartOf (l ∷ ls) same next
    by (inl shorter) later =
        let cut = cut-first (put_text l) (same ++ next ∷ []) (lines_text ls) more (e ∙ grouped same more) (omega (arith, shorter, length-append same (next ∷ []))) in
        let line : put_text l ≡ same ++ next ∷ cut.0 = cut.1 ∙ append_assoc same (next ∷ []) cut.0 in
        record {
          j = 0;
          within = omega arith;
          part = same;
          same_is = refl;
          tail = cut.0;
          line_is = λ d. line;
          feeds = front-feeds (line_text l) same cut.0 next (lines-have_no_feed l parts.0) line;
        }
    by (inr longer) later =
        let cut = cut-first same (put_text l) (next ∷ more) (lines_text ls) (sym e) longer in
        let rest = later cut.0 cut.2 in
        record {
          j = suc rest.j;
          within = omega (arith, rest.within);
          part = rest.part;
          same_is = cut.1 ∙ ap (λ t. put_text l ++ t) rest.same_is ∙ sym (append_assoc (put_text l) (lines_text (take rest.j ls)) rest.part);
          tail = rest.tail;
          line_is = rest.line_is;
          feeds = ap (count_by is_feed) cut.1 ∙ feeds-append (put_text l) cut.0 ∙ ap (λ n. n + count_by is_feed cut.0) (feeds-line (line_text l) (lines-have_no_feed l parts.0))
              ∙ ap (λ n. 1 + n) rest.feeds ∙ omega arith;
        }

-- ---- what is unread does not go on by that line

-- n lines were taken of what is unread, or fewer where no line stands behind them; what was read has them
pub record Taken (n : ℕ) (bytes unread : List ℕ) : Type 0 where
  pub ts : List (List ℕ)
  pub rest : List ℕ
  pub short : list_all is_short_line ts ≡ true
  pub are : unread ≡ with_feeds ts ++ rest
  pub enough : TakesEnough n ts rest
  pub within : length (with_feeds ts) ≤ length bytes

-- line j of a text is the first that does not stand
pub record FirstOther (ls : List Line) (unread same : List ℕ) : Type 0 where
  pub j : ℕ
  pub within : j < length ls
  pub feeds : count_by is_feed same ≡ j
  pub rest : List ℕ
  pub are : unread ≡ lines_text (take j ls) ++ rest
  pub other : (d : Line) (r : List ℕ) → rest ≢ put_text (get_or ls j d) ++ r

all-front : (j : ℕ) (ls : List Line) → list_all is_in_range ls ≡ true → list_all is_in_range (take j ls) ≡ true
all-front j ls h = (both (list_all is_in_range (take j ls)) (list_all is_in_range (drop j ls)) (sym (list_all-append is_in_range (take j ls) (drop j ls)) ∙ ap (list_all is_in_range) (take-append-drop j ls) ∙ h)).0

module _ (ls : List Line) (ranges : list_all is_in_range ls ≡ true) (bytes behind unread same : List ℕ) (is : unread ≡ bytes ++ behind) (taken : Taken (length ls) bytes unread)
    (parts : PartsBehind (lines_text ls) bytes same) where
  part : PartOf ls same parts.next
  part = part-of ls same parts.more parts.next ranges parts.text_is

  unread-is : unread ≡ lines_text (take part.j ls) ++ (part.part ++ (parts.rest ++ behind))
  unread-is =
      is ∙ ap (λ t. t ++ behind) (parts.bytes_are ∙ ap (λ t. t ++ parts.rest) part.same_is) ∙ grouped (lines_text (take part.j ls)) part.part parts.rest behind
    where
      grouped : (a b c d : List ℕ) → ((a ++ b) ++ c) ++ d ≡ a ++ (b ++ (c ++ d))
      grouped a b c d = simp append_assoc

  -- the window had the line at hand whole, or no line stands there
  not-short : (d : Line) (r : List ℕ) → parts.rest ≡ [] → unread ≢ (lines_text (take part.j ls) ++ put_text (get_or ls part.j d)) ++ r
  not-short d r none e = by (aligned taken.rest r first taken.ts (all-front (part.j + 1) ls ranges) taken.short (sym taken.are ∙ e ∙ ap (λ t. t ++ r) (sym text))) taken.enough
    where
      first : List Line
      first = take (part.j + 1) ls

      text : lines_text first ≡ lines_text (take part.j ls) ++ put_text (get_or ls part.j d)
      text = ap lines_text (take_more ls part.j d part.within) ∙ lines_text-append (take part.j ls) (get_or ls part.j d ∷ []) ∙ ap (λ t. lines_text (take part.j ls) ++ t) (append-nil (put_text (get_or ls part.j d)))

      many : length first ≡ part.j + 1
      many = length-take-le (part.j + 1) ls (omega (arith, part.within))

      -- the lines taken are in the window, which has no more feeds than agree
      few : length taken.ts ≤ part.j
      few =
          let whole : bytes ≡ same = parts.bytes_are ∙ ap (λ t. same ++ t) none ∙ append-nil same in
          let cut = cut-first bytes (with_feeds taken.ts) behind taken.rest (sym is ∙ taken.are) taken.within in
          let count = ap (count_by is_feed) (sym whole ∙ cut.1) ∙ feeds-append (with_feeds taken.ts) cut.0 in
          omega (arith, count, feeds-taken taken.ts taken.short, part.feeds)

      by : Aligned taken.rest r first taken.ts → TakesEnough (length ls) taken.ts taken.rest → ⊥
      by (inl past) enough = absurd (omega (arith, past.2, many, few))
      by (inr before) (inl enough) = absurd (omega (arith, enough, few, part.within))
      by (inr before) (inr none) = no-start taken.rest none before.1

  pub first-other : FirstOther ls unread same
  first-other = record {
    j = part.j;
    within = part.within;
    feeds = part.feeds;
    rest = part.part ++ (parts.rest ++ behind);
    are = unread-is;
    other = λ d r e. other d r (inner d r e) parts.rest refl;
  }
    where
      -- behind what agrees
      inner : (d : Line) (r : List ℕ) → part.part ++ (parts.rest ++ behind) ≡ put_text (get_or ls part.j d) ++ r → parts.rest ++ behind ≡ parts.next ∷ (part.tail ++ r)
      inner d r e = append_cancel_left part.part (parts.rest ++ behind) (parts.next ∷ (part.tail ++ r)) (e ∙ ap (λ t. t ++ r) (part.line_is d) ∙ append_assoc part.part (parts.next ∷ part.tail) r)

      other : (d : Line) (r : List ℕ) → parts.rest ++ behind ≡ parts.next ∷ (part.tail ++ r) → (there : List ℕ) → parts.rest ≡ there → ⊥
      other d r e [] is =
          not-short d r is
          (unread-is ∙ ap (λ t. lines_text (take part.j ls) ++ t) (ap (λ t. part.part ++ t) e ∙ sym (append_assoc part.part (parts.next ∷ part.tail) r) ∙ ap (λ t. t ++ r) (sym (part.line_is d)))
          ∙ sym (append_assoc (lines_text (take part.j ls)) (put_text (get_or ls part.j d)) r))
      other d r e (c ∷ cs) is =
          let head : c ≡ parts.next = heads c parts.next (cs ++ behind) (part.tail ++ r) (ap (λ t. t ++ behind) (sym is) ∙ e) in
          parts.other cs (is ∙ ap (λ n. n ∷ cs) head)
        where
          heads : (a b : ℕ) (xs ys : List ℕ) → a ∷ xs ≡ b ∷ ys → a ≡ b
          heads a b xs ys e = cc
