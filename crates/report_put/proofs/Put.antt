-- Lines that are put one after another.
use Rattle.std.proofs.Common.{◌≡◌, ℕ, ◌+◌, ◌<◌, ◌≤◌, List, [], ◌∷◌, ◌++◌, length, map, take, drop, get_or, flat_map, sym, ap, ◌∙◌, append-nil, arith, Result, Ok, Err, subst}
use Rattle.std.specs.List.{enumerate_from}
use Rattle.std.proofs.lemmas.List.{take_more, take-append-drop, map-append, length-take-le}
use Rattle.std.proofs.lemmas.Grind.{flat_map-append}
use Rattle.outside_io.specs.Causes.{HasCause}
use Rattle.outside_io.specs.Sink.{SinkState, Gains, GainsFront}
use Rattle.outside_io.specs.declared.sink.PutFault.{PutFault}
use Rattle.outside_io.proofs.Grows.{appends_more}
use Rattle.outside_io.proofs.Fronts.{front-after, front-before, on-ok, on-err}
use Rattle.report_put.specs.Put.{PutsLines}
use Rattle.report_text.specs.Line.{Line, put_text, lines_text}

-- ---- numbered lists

enumerate-append : {A : Type 0} (i : ℕ) (xs ys : List A) → enumerate_from i (xs ++ ys) ≡ enumerate_from i xs ++ enumerate_from (i + length xs) ys
enumerate-append i [] ys = let e : i ≡ i + 0 = omega arith in ap (λ n. enumerate_from n ys) e
enumerate-append {A} i (x ∷ xs) ys =
    let e : i + 1 + length xs ≡ i + length (x ∷ xs) = omega arith in
    ap (λ (r : List (ℕ × A)). (i, x) ∷ r) (enumerate-append (i + 1) xs ys ∙ ap (λ n. enumerate_from (i + 1) xs ++ enumerate_from n ys) e)

module _ {A : Type 0} (line : ℕ × A → Line) where
  abbrev pub numbered : List A → List Line
  numbered xs = map line (enumerate_from 0 xs)

  numbered-append : (xs ys : List A) → numbered (xs ++ ys) ≡ numbered xs ++ map line (enumerate_from (length xs) ys)
  numbered-append xs ys = let e : 0 + length xs ≡ length xs = omega arith in ap (map line) (enumerate-append 0 xs ys ∙ ap (λ n. enumerate_from 0 xs ++ enumerate_from n ys) e) ∙ map-append line (enumerate_from 0 xs) (enumerate_from (length xs) ys)

  -- one line more for one element more
  pub numbered-more : (xs : List A) (i : ℕ) (d : A) → i < length xs → numbered (take (i + 1) xs) ≡ numbered (take i xs) ++ line (i, get_or xs i d) ∷ []
  numbered-more xs i d h =
      let long : length (take i xs) ≡ i = length-take-le i xs (omega arith) in
      ap numbered (take_more xs i d h) ∙ numbered-append (take i xs) (get_or xs i d ∷ []) ∙ ap (λ n. numbered (take i xs) ++ line (n, get_or xs i d) ∷ []) long

  -- the lines of the first elements begin those of all
  pub numbered-rest : (xs : List A) (i : ℕ) → numbered xs ≡ numbered (take i xs) ++ map line (enumerate_from (length (take i xs)) (drop i xs))
  numbered-rest xs i = sym (ap numbered (take-append-drop i xs)) ∙ numbered-append (take i xs) (drop i xs)

module _ {A B : Type 0} (lines : B → List Line) (seen : A → B) where
  abbrev pub each : List A → List Line
  each xs = flat_map lines (map seen xs)

  each-append : (xs ys : List A) → each (xs ++ ys) ≡ each xs ++ each ys
  each-append xs ys = ap (flat_map lines) (map-append seen xs ys) ∙ flat_map-append lines (map seen xs) (map seen ys)

  -- the lines of one element more
  pub each-more : (xs : List A) (i : ℕ) (x : A) → i < length xs → x ≡ get_or xs i x → each (take (i + 1) xs) ≡ each (take i xs) ++ lines (seen x)
  each-more xs i x h is =
      ap each (take_more xs i x h) ∙ each-append (take i xs) (get_or xs i x ∷ [])
      ∙ ap (λ ls. each (take i xs) ++ ls) (append-nil (lines (seen (get_or xs i x))) ∙ ap (λ y. lines (seen y)) (sym is))

  -- the lines of the first elements begin those of all
  pub each-rest : (xs : List A) (i : ℕ) → each xs ≡ each (take i xs) ++ each (drop i xs)
  each-rest xs i = sym (ap each (take-append-drop i xs)) ∙ each-append (take i xs) (drop i xs)

-- ---- lines that are put

text-append : (xs ys zs : List Line) → zs ≡ xs ++ ys → lines_text zs ≡ lines_text xs ++ lines_text ys
text-append xs ys zs e = ap lines_text e ∙ flat_map-append put_text xs ys

-- these lines were put, and no count fell
pub record HasPut (lines : List Line) (before after : SinkState) : Type 0 where
  pub gained : Gains (lines_text lines) before after
  pub faults : before.faults ≤ after.faults
  pub wants : before.wants ≤ after.wants

-- a cause that came later
later-cause : {T E : Type 0} {fault : E} {a b c : ℕ} {r : Result T E} → a ≤ b → HasCause fault b c r → HasCause fault a c r
later-cause l h = record { later = omega arith; failed = λ e. omega (arith, h.failed e) }

pub has-put : {a b : SinkState} {x : Unit} (xs : List Line) → PutsLines xs a (Ok x) b → HasPut xs a b
has-put xs q = record { gained = q.whole; faults = q.failed.later; wants = q.memory.later }

pub put-all : {a b : SinkState} (x : Unit) {xs : List Line} → HasPut xs a b → PutsLines xs a (Ok x) b
put-all x p = record {
  whole = p.gained;
  front = tt;
  failed = record { later = p.faults; failed = λ e. absurd cc };
  memory = record { later = p.wants; failed = λ e. absurd cc };
}

-- a front of lines is one of those and others
pub cut-first : {a b : SinkState} {f : PutFault} (xs ys zs : List Line) → zs ≡ xs ++ ys → PutsLines xs a (Err f) b → PutsLines zs a (Err f) b
cut-first {a} {b} xs ys zs e q = record {
  whole = tt;
  front = subst (λ t. GainsFront t a b) (sym (text-append xs ys zs e)) (front-before a.held b.held (lines_text xs) (lines_text ys) q.front);
  failed = q.failed;
  memory = q.memory;
}

module _ {a b : SinkState} (xs ys zs : List Line) (e : zs ≡ xs ++ ys) (p : HasPut xs a b) where
  all-of : (c : SinkState) → Gains (lines_text ys) b c → Gains (lines_text zs) a c
  all-of c q = appends_more a.held b.held c.held _ _ _ p.gained q (text-append xs ys zs e)

  front-of : (c : SinkState) → GainsFront (lines_text ys) b c → GainsFront (lines_text zs) a c
  front-of c q = subst (λ t. GainsFront t a c) (sym (text-append xs ys zs e)) (front-after a.held b.held c.held (lines_text xs) (lines_text ys) p.gained q)

  -- lines, and then others
  pub has-more : {c : SinkState} {x : Unit} → PutsLines ys b (Ok x) c → HasPut zs a c
  has-more {c} q = record {
    gained = all-of c q.whole;
    faults = omega (arith, p.faults, q.failed.later);
    wants = omega (arith, p.wants, q.memory.later);
  }

  -- the last call of several: its answer is that of all
  pub puts-last : {c : SinkState} (r : Result Unit PutFault) → PutsLines ys b r c → PutsLines zs a r c
  puts-last {c} r q = record {
    whole = on-ok r _ _ (all-of c) q.whole;
    front = on-err r _ _ (front-of c) q.front;
    failed = later-cause p.faults q.failed;
    memory = later-cause p.wants q.memory;
  }

  -- a front of the lines of one turn more is a front of the lines of all turns
  pub cut-turn : {c : SinkState} {f : PutFault} (rest all : List Line) → all ≡ zs ++ rest → PutsLines ys b (Err f) c → PutsLines all a (Err f) c
  cut-turn rest all g q = cut-first zs rest all g (puts-last (Err _) q)
