-- Text that is made, beside what a window has left.
use Rattle.std.proofs.Common.{◌≡◌, ◌≢◌, ℕ, ◌+◌, ◌<◌, ◌≤◌, Bool, true, false, not, List, [], ◌∷◌, ◌++◌, length, take, drop, get_or, Result, Ok, Err, IfErr, refl, sym, ap, ◌∙◌, arith, drop-cons, suc}
use Rattle.std.specs.List.{count_by, starts_with}
use Rattle.std.specs.Result.{is_err}
use Rattle.std.proofs.Math.Dec.{eqb}
use Rattle.std.proofs.lemmas.Bool.Decides.{Decides-eqb}
use Rattle.std.proofs.lemmas.Slice.Eq.{starts_is}
use Rattle.std.proofs.lemmas.List.{take-append-drop}
use Rattle.std.proofs.Math.Seq.{take-length}
use Rattle.outside_io.specs.Sink.{PutsAll}
use Rattle.outside_io.specs.declared.sink.PutFault.{PutFault}
use Rattle.report_text.specs.Laws.{is_feed}
use Rattle.cert_replay.specs.Made.{made_state}
use Rattle.cert_replay.specs.Window.{left_in, PartsBehind, TakesText, DepartsFrom, DepartsBehind}
use Rattle.cert_replay.specs.declared.made.MadeText.{MadeText}
use Rattle.cert_replay.specs.declared.window.Window.{Window}

-- where the text was put whole, it is what was made
pub made-text : (text : List ℕ) (before after : MadeText) (r : Result Unit PutFault) → before.text.items ≡ [] → PutsAll text (made_state before) r (made_state after) → is_err r ≡ false
    → after.text.items ≡ text
made-text text before after (Ok x) none puts ok = puts.whole ∙ ap (λ t. t ++ text) none
made-text text before after (Err e) none puts ok = absurd cc

module _ (text items : List ℕ) (w w' : Window) (made : items ≡ text) (left : left_in w' ≡ left_in w) (lines : w'.lines ≡ w.lines) where
  pub takes-made : (w'' : Window) → TakesText items w' w'' → TakesText text w w''
  takes-made w'' t = record {
    are = sym left ∙ t.are ∙ ap (λ x. x ++ left_in w'') made;
    lines = t.lines ∙ ap (λ n. n + count_by is_feed items) lines ∙ ap (λ x. w.lines + count_by is_feed x) made;
  }

  pub departs-made : (line : ℕ) → DepartsFrom items w' line → DepartsFrom text w line
  departs-made line d = record {
    same = d.same;
    parts = record {
      next = d.parts.next;
      more = d.parts.more;
      rest = d.parts.rest;
      text_is = sym made ∙ d.parts.text_is;
      bytes_are = sym left ∙ d.parts.bytes_are;
      other = d.parts.other;
    };
    line_is = d.line_is ∙ ap (λ n. n + count_by is_feed d.same + 1) lines;
  }

  pub behind-made : (w'' : Window) (line : ℕ) → TakesText items w' w'' → line ≡ w''.lines + 1 → DepartsBehind text w line
  behind-made w'' line t e = let all = takes-made w'' t in DepartsBehind.behind (left_in w'') all.are (e ∙ ap (λ n. n + 1) all.lines)

-- ---- one comparison

module _ (text bytes : List ℕ) where
  -- the bytes go on behind the text
  pub stands-behind : (r : Bool) → r ≡ starts_with eqb bytes text → r ≡ true → bytes ≡ text ++ drop (length text) bytes
  stands-behind r e h = (starts_is Decides-eqb bytes text r e).0 h

  -- they part where they do not begin with it
  pub parts-behind : (n : ℕ) (r : Bool) → r ≡ starts_with eqb bytes text → r ≡ false → n ≤ length text → take n text ≡ take n bytes
      → (n < length text → (x : List ℕ) → drop n bytes ≢ get_or text n 0 ∷ x) → PartsBehind text bytes (take n text)
  parts-behind n r e h within same ends = record {
    next = get_or text n 0;
    more = drop (suc n) text;
    rest = drop n bytes;
    text_is = sym (take-append-drop n text) ∙ ap (λ t. take n text ++ t) (drop-cons text n 0 less);
    bytes_are = sym (take-append-drop n bytes) ∙ ap (λ t. t ++ drop n bytes) (sym same);
    other = ends less;
  }
    where
      whole : n ≡ length text → text ≡ take n text
      whole e = sym (ap (λ k. take k text) e ∙ take-length text)

      not-all : n ≢ length text
      not-all e' =
          let there : bytes ≡ text ++ drop n bytes = sym (take-append-drop n bytes) ∙ ap (λ t. t ++ drop n bytes) (sym same ∙ sym (whole e')) in
          let begins = (starts_is Decides-eqb bytes text r e).1 (drop n bytes) there in
          absurd (cc)

      less : n < length text
      less = omega (arith, within, not-all)

pub not-false : (b : Bool) → not b ≡ false → b ≡ true
not-false true h = refl
not-false false h = absurd cc

pub if-err : {A E : Type 0} (r : Result A E) (P Q : E → Type 0) → ((e : E) → P e → Q e) → IfErr r P → IfErr r Q
if-err (Ok x) P Q f h = tt
if-err (Err e) P Q f h = f e h
