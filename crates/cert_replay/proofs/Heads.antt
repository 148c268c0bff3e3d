-- The head and the last line of a report that is checked.
use Rattle.std.proofs.Common.{◌≡◌, inl, inr, ℕ, suc, ◌+◌, ◌^◌, ◌<◌, ◌≤◌, nat_lt, Bool, true, ◌&&◌, List, [], ◌∷◌, ◌++◌, length, map, take, drop, get_or, Option, Some, None, refl, sym, ap, ◌∙◌, arith, subst, append-nil, append_assoc, length-append}
use Rattle.std.specs.List.{list_all, enumerate_from}
use Rattle.std.specs.Io.KnownBytes.{IsAtEnd}
use Rattle.std.proofs.lemmas.Bool.Decides.{nat_tests}
use Rattle.std.proofs.lemmas.List.{length-map}
use Rattle.std.proofs.lemmas.List.FromFn.{length-enumerate_from}
use Rattle.outside_io.specs.Shelf.{ShelfState}
use Rattle.plant_model.specs.Plant.{Plant, Sample}
use Rattle.report_text.specs.Line.{Line, title, model, end, put_text, lines_text}
use Rattle.report_text.specs.Names.{is_model_name}
use Rattle.report_text.specs.Ranges.{is_in_range, is_model_index, is_sample_number}
use Rattle.report_rules.specs.Lines.{head_lines}
use Rattle.report_rules.specs.Replay.{watch, DepartsAt}
use Rattle.report_rules.proofs.Departs.{head-departs}
use Rattle.report_rules.proofs.Placed.{and-true}
use Rattle.cert_replay.specs.Window.{left_in, HasUnread, ReadsAhead, TakesLines, TakesText, DepartsFrom}
use Rattle.cert_replay.specs.Ends.{AreNamed, HeadStands, EndDeparts}
use Rattle.cert_replay.specs.declared.window.Window.{Window}
use Rattle.cert_replay.proofs.Taken.{stand-unread, stand-long}
use Rattle.cert_replay.proofs.Read.{ended-none}
use Rattle.cert_replay.proofs.Departing.{Taken, first-other, feeds-lines}

-- lines that were taken from the front
pub taken-lines : (n : ℕ) (w0 w1 : Window) (s0 s1 : ShelfState) (to : Option ℕ) (unread : List ℕ) → HasUnread w0 s0 unread → HasUnread w1 s1 unread → TakesLines n (Some 0) w0 s0 w1 to
    → Taken n (left_in w1) unread
taken-lines n w0 w1 s0 s1 (Some b) unread u u1 t = record {
  ts = t.ts;
  rest = drop b unread;
  short = t.short;
  are = stand-unread n 0 b (left_in w1) u1.rest unread u1.is (omega arith) t;
  enough = inl (omega (arith, t.as_many));
  within = omega (arith, stand-long n 0 b (left_in w1) (omega arith) t, t.within);
}
taken-lines n w0 w1 s0 s1 None unread u u1 t =
    let q = t unread u in
    record {
      ts = q.ts;
      rest = q.rest;
      short = q.short;
      are = q.are;
      enough = inr q.none;
      within = omega (arith, q.within);
    }

-- text that stood at the front of what is unread
pub text-unread : (text unread : List ℕ) (w1 w2 : Window) (s1 : ShelfState) → (u : HasUnread w1 s1 unread) → TakesText text w1 w2 → unread ≡ text ++ (left_in w2 ++ u.rest)
text-unread text unread w1 w2 s1 u t = u.is ∙ ap (λ x. x ++ u.rest) t.are ∙ append_assoc text (left_in w2) u.rest

-- ---- the head

below-test : (m n : ℕ) → m < n → nat_lt m n ≡ true
below-test m n h = grind (arith, nat_tests)

names-ranged : (i : ℕ) (names : List (List ℕ)) → i + length names ≤ 16 → AreNamed names → list_all is_in_range (map (λ m. model m.0 m.1) (enumerate_from i names)) ≡ true
names-ranged i [] few named = refl
names-ranged i (x ∷ xs) few named =
    and-true (is_model_index i && is_model_name x) (list_all is_in_range (map (λ m. model m.0 m.1) (enumerate_from (i + 1) xs)))
    (and-true (is_model_index i) (is_model_name x) (below-test i 16 (omega (arith, few))) (named 0 x (omega arith)))
    (names-ranged (i + 1) xs (omega (arith, few)) (λ k d l. named (suc k) d (omega (arith, l))))

head-ranged : (names : List (List ℕ)) → length names ≤ 16 → AreNamed names → list_all is_in_range (head_lines names) ≡ true
head-ranged names few named = names-ranged 0 names (omega (arith, few)) named

pub length-head : (names : List (List ℕ)) → length (head_lines names) ≡ 1 + length names
length-head names = omega (arith, length-map (enumerate_from 0 names) (λ m. model m.0 m.1), length-enumerate_from 0 names)

module _ (names : List (List ℕ)) (few : length names ≤ 16) (named : AreNamed names) (bytes : List ℕ) (w0 w1 : Window) (s0 s1 : ShelfState) (none : w0.lines ≡ 0)
    (u : HasUnread w0 s0 bytes) (ahead : ReadsAhead w0 s0 w1 s1) where
  u1 : HasUnread w1 s1 bytes
  u1 = ahead.same bytes u

  pub head-stands : (w2 : Window) → TakesText (lines_text (head_lines names)) w1 w2 → HeadStands names bytes w2 s1
  head-stands w2 t = record {
    unread = left_in w2 ++ u1.rest;
    left = record { rest = u1.rest; told = u1.told; is = refl };
    are = text-unread (lines_text (head_lines names)) bytes w1 w2 s1 u1 t;
    lines = omega (arith, t.lines, ahead.lines, none, feeds-lines (head_lines names) (head-ranged names few named));
  }

  pub head-other : (to : Option ℕ) → TakesLines (1 + length names) (Some 0) w0 s0 w1 to → (line : ℕ) → DepartsFrom (lines_text (head_lines names)) w1 line
      → (ps : List Plant) (samples : List Sample) (is_whole : Bool) → DepartsAt (watch names ps samples is_whole) line bytes
  head-other to t line d ps samples is_whole =
      let lines = head_lines names in
      let tk = subst (λ n. Taken n (left_in w1) bytes) (sym (length-head names)) (taken-lines (1 + length names) w0 w1 s0 s1 to bytes u u1 t) in
      let first = first-other lines (head-ranged names few named) (left_in w1) u1.rest bytes d.same u1.is tk d.parts in
      subst (λ n. DepartsAt (watch names ps samples is_whole) n bytes) (omega (arith, d.line_is, ahead.lines, none, first.feeds))
      (head-departs names ps samples is_whole first.j title bytes first.rest first.within first.are (first.other title))

-- ---- the last line

module _ (samples : ℕ) (few : samples < 2 ^ 63) (unread : List ℕ) (w0 w1 : Window) (s0 s1 : ShelfState) (u : HasUnread w0 s0 unread) (ahead : ReadsAhead w0 s0 w1 s1) where
  v1 : HasUnread w1 s1 unread
  v1 = ahead.same unread u

  abbrev last : List Line
  last = end samples ∷ []

  last-ranged : list_all is_in_range last ≡ true
  last-ranged = and-true (is_sample_number samples) true (below-test samples (2 ^ 63) few) refl

  pub end-other : (to : Option ℕ) → TakesLines 1 (Some 0) w0 s0 w1 to → (line : ℕ) → DepartsFrom (lines_text last) w1 line → EndDeparts samples w0.lines unread line
  end-other to t line d =
      let first = first-other last last-ranged (left_in w1) v1.rest unread d.same v1.is (taken-lines 1 w0 w1 s0 s1 to unread u v1 t) d.parts in
      let zero-is : first.j ≡ 0 = omega (arith, first.within) in
      let whole : unread ≡ first.rest = first.are ∙ ap (λ n. lines_text (take n last) ++ first.rest) zero-is in
      EndDeparts.missing (omega (arith, d.line_is, ahead.lines, first.feeds, zero-is)) (λ r e. first.other title r (sym whole ∙ e ∙ ap (λ n. put_text (get_or last n title) ++ r) (sym zero-is)))

  module _ (w2 w3 : Window) (s3 : ShelfState) (t : TakesText (lines_text last) w1 w2) (more : ReadsAhead w2 s1 w3 s3) where
    behind : List ℕ
    behind = left_in w2 ++ v1.rest

    there : unread ≡ put_text (end samples) ++ behind
    unfolding behind
    there = text-unread (lines_text last) unread w1 w2 s1 v1 t ∙ ap (λ x. x ++ (left_in w2 ++ v1.rest)) (append-nil (put_text (end samples)))

    u3 : HasUnread w3 s3 behind
    unfolding behind
    u3 = more.same (left_in w2 ++ v1.rest) (record { rest = v1.rest; told = v1.told; is = refl })

    pub end-stands : left_in w3 ≡ [] → IsAtEnd (s3.slot 2).rest → unread ≡ put_text (end samples)
    end-stands none at_end =
        there ∙ ap (λ x. put_text (end samples) ++ x) (u3.is ∙ ap (λ x. x ++ u3.rest) none ∙ ended-none (s3.slot 2).rest u3.rest at_end u3.told) ∙ append-nil (put_text (end samples))

    pub end-behind : 0 < length (left_in w3) → (line : ℕ) → line ≡ w3.lines + 1 → EndDeparts samples w0.lines unread line
    end-behind some line e =
        let count = feeds-lines last last-ranged in
        EndDeparts.behind (omega (arith, e, more.lines, t.lines, count, ahead.lines)) behind there (λ none. absurd (omega (arith, some, ap length (sym none ∙ u3.is), length-append (left_in w3) u3.rest)))
