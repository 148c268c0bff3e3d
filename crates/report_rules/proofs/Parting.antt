-- Two lists of lines that part at the outcome of one model.
use Rattle.std.proofs.Common.{◌≡◌, ◌≢◌, ◌⊎◌, inl, inr, ℕ, zero, suc, ◌+◌, ◌<◌, ◌==◌, Bool, true, false, List, [], ◌∷◌, ◌++◌, length, get_or, take, drop, Option, Some, None, refl, sym, ap, ◌∙◌, arith, subst, append_assoc, length-append, drop-cons}
use Rattle.std.specs.Bool.{Decides}
use Rattle.std.specs.List.{list_all}
use Rattle.std.specs.Ordering.{int_eq}
use Rattle.std.specs.Cmp.Rules.{signed_items}
use lib.Pointwise.{pointwise}
use Rattle.std.proofs.lemmas.Bool.Decides.{Decides-eqb}
use Rattle.std.proofs.lemmas.List.{append-nil, append_cancel_left, drop-drop, take-append-drop}
use Rattle.std.proofs.lemmas.List.Folds.{list_all-append}
use Rattle.farkas_check.specs.Certificate.{Certificate, by_out, by_rows}
use Rattle.report_text.specs.Line.{Line, put_text, lines_text}
use Rattle.report_text.specs.Ranges.{is_in_range}
use Rattle.report_rules.specs.Replay.{with_feeds, is_short_line, IsOffer, TakesEnough}
use Rattle.report_rules.proofs.Placed.{both}
use Rattle.report_rules.proofs.Refused.{IsOutcome, Fits, outcomes-differ, offer-read}

-- ---- lists of lines that part

-- behind the same lines one list has the outcome of a model with one certificate, or none, and the other that with another;
-- of lines that were taken for the first, the one at that place has its certificate
pub record PartsAt (IsTaken : List (List ℕ) → Type 0) (S S' : List Line) : Type 0 where
  pub i : ℕ
  pub offer : Option Certificate
  pub certificate : Option Certificate
  pub common : List Line
  pub l : Line
  pub l' : Line
  pub tail : List Line
  pub tail' : List Line
  pub few : i < 16
  pub fits : Fits offer
  pub fits' : Fits certificate
  pub other : offer ≢ certificate
  pub outcome : IsOutcome i offer l
  pub outcome' : IsOutcome i certificate l'
  pub is : S ≡ common ++ l ∷ tail
  pub is' : S' ≡ common ++ l' ∷ tail'
  pub offered : (ts : List (List ℕ)) → IsTaken ts → IsOffer i (drop (length common) ts) offer

-- no lines were taken
abbrev pub NoneTaken : List (List ℕ) → Type 0
NoneTaken ts = ⊥

-- lines whose texts go on alike are alike
abbrev pub AllAgree : List Line → List Line → Type 0
AllAgree S S' = (n : ℕ) (r r' : List ℕ) → lines_text (take n S) ++ r ≡ lines_text (take n S') ++ r' → take n S ≡ take n S'

heads : (x y : Line) (xs ys : List Line) → x ∷ xs ≡ y ∷ ys → x ≡ y
heads x y xs ys e = cc

tails : (x y : Line) (xs ys : List Line) → x ∷ xs ≡ y ∷ ys → xs ≡ ys
tails x y xs ys e = cc

-- other spellings of the lists
pub parts-like : {A : List (List ℕ) → Type 0} {S S' T T' : List Line} → S ≡ T → S' ≡ T' → PartsAt A T T' → PartsAt A S S'
parts-like {A} {S} {S'} {T} e e' p = subst (λ ls. PartsAt A ls S') (sym e) (subst (PartsAt A T) (sym e') p)

-- behind the same lines, and before any
pub parts-within : {A B : List (List ℕ) → Type 0} {S S' : List Line} (before x x' : List Line)
    → ((ts : List (List ℕ)) → B ts → A (drop (length before) ts))
    → PartsAt A S S' → PartsAt B (before ++ (S ++ x)) (before ++ (S' ++ x'))
parts-within before x x' taken p = record {
  i = p.i;
  offer = p.offer;
  certificate = p.certificate;
  common = before ++ p.common;
  l = p.l;
  l' = p.l';
  tail = p.tail ++ x;
  tail' = p.tail' ++ x';
  few = p.few;
  fits = p.fits;
  fits' = p.fits';
  other = p.other;
  outcome = p.outcome;
  outcome' = p.outcome';
  is = ap (λ ls. before ++ (ls ++ x)) p.is ∙ grouped before p.common (p.l ∷ p.tail) x;
  is' = ap (λ ls. before ++ (ls ++ x')) p.is' ∙ grouped before p.common (p.l' ∷ p.tail') x';
  offered = λ ts t.
      subst (λ us. IsOffer p.i us p.offer)
      (drop-drop (length p.common) (length before) ts ∙ ap (λ n. drop n ts) (sym (length-append before p.common)))
      (p.offered (drop (length before) ts) (taken ts t));
}
  where
    grouped : (a b e f : List Line) → a ++ ((b ++ e) ++ f) ≡ (a ++ b) ++ (e ++ f)
    grouped a b e f = simp append_assoc

pub parts-behind : {A B : List (List ℕ) → Type 0} {S S' : List Line} (before : List Line)
    → ((ts : List (List ℕ)) → B ts → A (drop (length before) ts))
    → PartsAt A S S' → PartsAt B (before ++ S) (before ++ S')
parts-behind {A} {B} {S} {S'} before taken p =
    parts-like (ap (λ ls. before ++ ls) (sym (append-nil S))) (ap (λ ls. before ++ ls) (sym (append-nil S'))) (parts-within before [] [] taken p)

pub parts-before : {A : List (List ℕ) → Type 0} {S S' : List Line} (x x' : List Line) → PartsAt A S S' → PartsAt A (S ++ x) (S' ++ x')
parts-before x x' p = parts-within [] x x' (λ ts t. t) p

module _ {A : List (List ℕ) → Type 0} {S S' : List Line} (p : PartsAt A S S') where
  texts-differ : (r r' : List ℕ) → put_text p.l ++ r ≢ put_text p.l' ++ r'
  texts-differ = outcomes-differ p.i p.few p.offer p.certificate p.fits p.fits' p.other p.l p.l' p.outcome p.outcome'

  not-same : p.l ≢ p.l'
  not-same e = texts-differ [] [] (ap (λ l. put_text l ++ []) e)

  -- the other list does not begin with the first
  pub parted-no-front : (x y : List Line) → S' ++ x ≢ S ++ y
  parted-no-front x y e =
      let behind = append_cancel_left p.common (p.l' ∷ (p.tail' ++ x)) (p.l ∷ (p.tail ++ y))
      (sym (ap (λ ls. ls ++ x) p.is' ∙ append_assoc p.common (p.l' ∷ p.tail') x) ∙ e ∙ ap (λ ls. ls ++ y) p.is ∙ append_assoc p.common
      (p.l ∷ p.tail) y) in
      not-same (sym (heads p.l' p.l (p.tail' ++ x) (p.tail ++ y) behind))

  -- they agree as far as their texts do
  pub parted-agree : AllAgree S S'
  parted-agree n r r' e =
      ap (take n) p.is ∙ by p.common n
      (sym (ap (λ ls. lines_text (take n ls) ++ r) p.is) ∙ e ∙ ap (λ ls. lines_text (take n ls) ++ r') p.is') ∙ ap (take n) (sym p.is')
    where
      by : (common : List Line) (n : ℕ) → lines_text (take n (common ++ p.l ∷ p.tail)) ++ r ≡ lines_text (take n (common ++ p.l' ∷ p.tail')) ++ r'
          → take n (common ++ p.l ∷ p.tail) ≡ take n (common ++ p.l' ∷ p.tail')
      by [] zero e = refl
      by [] (suc n) e =
          absurd (texts-differ (lines_text (take n p.tail) ++ r) (lines_text (take n p.tail') ++ r')
          (sym (append_assoc (put_text p.l) (lines_text (take n p.tail)) r) ∙ e ∙ append_assoc (put_text p.l') (lines_text (take n p.tail')) r'))
      by (x ∷ xs) zero e = refl
      by (x ∷ xs) (suc n) e =
          let a = lines_text (take n (xs ++ p.l ∷ p.tail)) in
          let b = lines_text (take n (xs ++ p.l' ∷ p.tail')) in
          ap (λ ls. x ∷ ls) (by xs n (append_cancel_left (put_text x) (a ++ r) (b ++ r')
          (sym (append_assoc (put_text x) a r) ∙ e ∙ append_assoc (put_text x) b r')))

  -- where the other list goes on behind the first n lines of this one, it goes on alike, or the lists part there
  pub line-placed : (n : ℕ) (d x : Line) (xs : List Line) → S' ≡ take n S ++ x ∷ xs → (get_or S n d ≡ x) ⊎ ((take n S ≡ p.common) × (x ≡ p.l'))
  line-placed n d x xs e = back (by p.common n (sym p.is' ∙ e ∙ ap (λ ls. take n ls ++ x ∷ xs) p.is))
    where
      back : (get_or (p.common ++ p.l ∷ p.tail) n d ≡ x) ⊎ ((take n (p.common ++ p.l ∷ p.tail) ≡ p.common) × (x ≡ p.l'))
          → (get_or S n d ≡ x) ⊎ ((take n S ≡ p.common) × (x ≡ p.l'))
      back = subst (λ ls. (get_or ls n d ≡ x) ⊎ ((take n ls ≡ p.common) × (x ≡ p.l'))) (sym p.is)

      by : (common : List Line) (n : ℕ) → common ++ p.l' ∷ p.tail' ≡ take n (common ++ p.l ∷ p.tail) ++ x ∷ xs
          → (get_or (common ++ p.l ∷ p.tail) n d ≡ x) ⊎ ((take n (common ++ p.l ∷ p.tail) ≡ common) × (x ≡ p.l'))
      by [] zero e = inr (refl, sym (heads p.l' x p.tail' xs e))
      by [] (suc n) e = absurd (not-same (sym (heads p.l' p.l p.tail' (take n p.tail ++ x ∷ xs) e)))
      by (y ∷ ys) zero e = inl (heads y x (ys ++ p.l' ∷ p.tail') xs e)
      by (y ∷ ys) (suc n) e = longer (by ys n (tails y y (ys ++ p.l' ∷ p.tail') (take n (ys ++ p.l ∷ p.tail) ++ x ∷ xs) e))
        where
          longer : (get_or (ys ++ p.l ∷ p.tail) n d ≡ x) ⊎ ((take n (ys ++ p.l ∷ p.tail) ≡ ys) × (x ≡ p.l'))
              → (get_or (ys ++ p.l ∷ p.tail) n d ≡ x) ⊎ ((y ∷ take n (ys ++ p.l ∷ p.tail) ≡ y ∷ ys) × (x ≡ p.l'))
          longer (inl same) = inl same
          longer (inr there) = inr (ap (λ ls. y ∷ ls) there.0, there.1)

-- ---- a line that stands in another list too, behind lines that were taken

-- the other list begins with the first, or they part
abbrev pub BeginsOrParts : (List (List ℕ) → Type 0) → List Line → List Line → Type 0
BeginsOrParts IsTaken begin S' = ((more : List Line) × (S' ≡ begin ++ more)) ⊎ PartsAt IsTaken begin S'

all-common : (a b : List Line) → list_all is_in_range (a ++ b) ≡ true → list_all is_in_range a ≡ true
all-common a b h = (both (list_all is_in_range a) (list_all is_in_range b) (sym (list_all-append is_in_range a b) ∙ h)).0

pub cut-at : (ls : List Line) (j : ℕ) (d : Line) → j < length ls → ls ≡ take j ls ++ get_or ls j d ∷ drop (suc j) ls
cut-at ls j d l = sym (take-append-drop j ls) ∙ ap (λ t. take j ls ++ t) (drop-cons ls j d l)

-- what begins with the same lines goes on with the same line
pub next-same : (begin more : List Line) (j : ℕ) (d : Line) → j < length begin → (x : Line) (xs : List Line)
    → begin ++ more ≡ take j begin ++ x ∷ xs → get_or begin j d ≡ x
next-same begin more j d l x xs e =
    heads (get_or begin j d) x (drop (suc j) begin ++ more) xs
    (append_cancel_left (take j begin) (get_or begin j d ∷ (drop (suc j) begin ++ more)) (x ∷ xs)
    (sym (ap (λ ls. ls ++ more) (cut-at begin j d l) ∙ append_assoc (take j begin) (get_or begin j d ∷ drop (suc j) begin) more) ∙ e))

module _ (begin : List Line) (left : List ℕ) (ts : List (List ℕ)) (rest : List ℕ) (ranges : list_all is_in_range begin ≡ true)
    (short : list_all is_short_line ts ≡ true)
    (are : left ≡ with_feeds ts ++ rest) (enough : TakesEnough (length begin) ts rest) where
  -- where the bytes go on by a line of the other list, it is that of the first
  pub next-line : {A : List (List ℕ) → Type 0} → A ts → (S' : List Line) → BeginsOrParts A begin S' → (j : ℕ) (d : Line) → j < length begin
      → (v : List ℕ)
      → left ≡ lines_text (take j begin) ++ v → (x : Line) (xs : List Line) → S' ≡ take j begin ++ x ∷ xs → (r : List ℕ)
      → v ≡ put_text x ++ r → get_or begin j d ≡ x
  next-line taken S' (inl (more, is)) j d l v text x xs e r goes = next-same begin more j d l x xs (sym is ∙ e)
  next-line taken S' (inr p) j d l v text x xs e r goes = by (line-placed p j d x xs e)
    where
      longer : length begin ≡ length p.common + (1 + length p.tail)
      longer = omega (arith, ap length p.is, length-append p.common (p.l ∷ p.tail))

      enough-there : TakesEnough (length begin) ts rest → TakesEnough (length p.common + 1) ts rest
      enough-there (inl many) = inl (omega (arith, many, longer))
      enough-there (inr none) = inr none

      by : (get_or begin j d ≡ x) ⊎ ((take j begin ≡ p.common) × (x ≡ p.l')) → get_or begin j d ≡ x
      by (inl same) = same
      by (inr there) =
          absurd (p.other (offer-read p.i p.few p.certificate p.fits' p.l' p.outcome' r p.offer p.common ts rest v
          (all-common p.common (p.l ∷ p.tail) (ap (list_all is_in_range) (sym p.is) ∙ ranges)) short
          (sym are ∙ text ∙ ap (λ ls. lines_text ls ++ v) there.0)
          (p.offered ts taken) (enough-there enough) (goes ∙ ap (λ l. put_text l ++ r) there.1)))

-- ---- certificates are the same or not

decided : {A : Type 0} (b : Bool) → Decides b A → A ⊎ (¬ A)
decided true d = inl (d.0 refl)
decided false d = inr (λ a. absurd (cc (d.1 a)))

pub same-or-other : (o c : Option Certificate) → (o ≡ c) ⊎ (o ≢ c)
same-or-other None None = inl refl
same-or-other None (Some c) = inr (λ e. absurd cc)
same-or-other (Some o) None = inr (λ e. absurd cc)
same-or-other (Some (by_out q)) (Some (by_rows ls)) = inr (λ e. absurd cc)
same-or-other (Some (by_rows ls)) (Some (by_out q)) = inr (λ e. absurd cc)
same-or-other (Some (by_out q)) (Some (by_out q')) = by (decided (q == q') (Decides-eqb q q'))
  where
    by : (q ≡ q') ⊎ (q ≢ q') → (Some (by_out q) ≡ Some (by_out q')) ⊎ (Some (by_out q) ≢ Some (by_out q'))
    by (inl same) = inl (ap (λ q. Some (by_out q)) same)
    by (inr other) = inr (λ e. let same : q ≡ q' = cc in other same)
same-or-other (Some (by_rows ls)) (Some (by_rows ls')) = by (decided (pointwise int_eq ls ls') (signed_items ls ls'))
  where
    by : (ls ≡ ls') ⊎ (ls ≢ ls') → (Some (by_rows ls) ≡ Some (by_rows ls')) ⊎ (Some (by_rows ls) ≢ Some (by_rows ls'))
    by (inl same) = inl (ap (λ ls. Some (by_rows ls)) same)
    by (inr other) = inr (λ e. let same : ls ≡ ls' = cc in other same)
