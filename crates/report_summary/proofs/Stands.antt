-- What is known of a report, line by line.
use Rattle.std.proofs.Common.{◌≡◌, ℕ, suc, ◌+◌, ◌==◌, Bool, true, false, if◌then◌else◌, List, [], ◌∷◌, ◌++◌, length, take, drop, Option, Some, None, refl, sym, ap, ◌∙◌, arith, append_assoc}
use Rattle.std.specs.List.{position}
use Rattle.std.proofs.lemmas.List.{take_at}
use Rattle.std.proofs.lemmas.List.Elements.{All-head, All-tail}
use Rattle.report_text.specs.Line.{Line, title, model, sample, pred, exclude, hull, status, possible, verdict, end, line_text, lines_text}
use Rattle.report_text.specs.Laws.{is_feed}
use Rattle.report_summary.specs.declared.summary.Summary.{Summary}
use Rattle.report_summary.specs.Told.{IsTold, AreTold}
use Rattle.report_summary.specs.Sums.{Sums, excluded_in, undecided_in, or_else, nothing_yet, after}
use Rattle.report_summary.proofs.Feeds.{told-free, first-feed}

-- of all lines, those that are left have this text, and the others are summed up
pub record Stands (lines rest : List Line) (left : List ℕ) (s : Summary) : Type 0 where
  pub told : AreTold rest
  pub text : left ≡ lines_text rest
  pub first : excluded_in 0 0 lines ≡ or_else s.first (excluded_in 0 s.sample rest)
  pub second : excluded_in 1 0 lines ≡ or_else s.second (excluded_in 1 s.sample rest)
  pub undecided : undecided_in lines ≡ s.undecided + undecided_in rest

pub stands-first : (lines : List Line) → AreTold lines → Stands lines lines (lines_text lines) nothing_yet
stands-first lines told = record { told = told; text = refl; first = refl; second = refl; undecided = omega arith }

-- nothing is left
pub stands-last : (lines : List Line) (left : List ℕ) (s : Summary) (rest : List Line) → Stands lines rest left s → position is_feed left ≡ None → Sums lines s
stands-last lines left s [] h none = record { first = nothing s.first ∙ sym h.first; second = nothing s.second ∙ sym h.second; undecided = omega (arith, h.undecided) }
  where
    nothing : (o : Option ℕ) → o ≡ or_else o None
    nothing None = refl
    nothing (Some k) = refl
stands-last lines left s (l ∷ rest) h none =
    let is : left ≡ line_text l ++ 10 ∷ lines_text rest = h.text ∙ append_assoc (line_text l) (10 ∷ []) (lines_text rest) in
    let found = first-feed (line_text l) (lines_text rest) (told-free l (All-head IsTold l rest h.told)) in
    absurd (let f : Some (length (line_text l)) ≡ None = sym found ∙ ap (position is_feed) (sym is) ∙ none in cc)

-- what a model's exclusion adds
excluded : (i j k : ℕ) (known : Option ℕ) (rest : List Line)
    → or_else known (if j == i then Some k else excluded_in i k rest) ≡ or_else (if j == i then or_else known (Some k) else known) (excluded_in i k rest)
excluded i j k known rest = by (j == i) known
  where
    by : (b : Bool) (known : Option ℕ) → or_else known (if b then Some k else excluded_in i k rest) ≡ or_else (if b then or_else known (Some k) else known) (excluded_in i k rest)
    by true None = refl
    by true (Some n) = refl
    by false known = refl

first-after : (s : Summary) (l : Line) (rest : List Line) → or_else s.first (excluded_in 0 s.sample (l ∷ rest)) ≡ or_else (after s l).first (excluded_in 0 (after s l).sample rest)
first-after s title rest = refl
first-after s (model i name) rest = refl
first-after s (sample k) rest = refl
first-after s (pred i o lo hi) rest = refl
first-after s (exclude i c) rest = excluded 0 i s.sample s.first rest
first-after s (hull i x lo hi) rest = refl
first-after s (status i true) rest = refl
first-after s (status i false) rest = refl
first-after s (possible is) rest = refl
first-after s (verdict v) rest = refl
first-after s (end k) rest = refl

second-after : (s : Summary) (l : Line) (rest : List Line) → or_else s.second (excluded_in 1 s.sample (l ∷ rest)) ≡ or_else (after s l).second (excluded_in 1 (after s l).sample rest)
second-after s title rest = refl
second-after s (model i name) rest = refl
second-after s (sample k) rest = refl
second-after s (pred i o lo hi) rest = refl
second-after s (exclude i c) rest = excluded 1 i s.sample s.second rest
second-after s (hull i x lo hi) rest = refl
second-after s (status i true) rest = refl
second-after s (status i false) rest = refl
second-after s (possible is) rest = refl
second-after s (verdict v) rest = refl
second-after s (end k) rest = refl

undecided-after : (s : Summary) (l : Line) (rest : List Line) → s.undecided + undecided_in (l ∷ rest) ≡ (after s l).undecided + undecided_in rest
undecided-after s title rest = refl
undecided-after s (model i name) rest = refl
undecided-after s (sample k) rest = refl
undecided-after s (pred i o lo hi) rest = refl
undecided-after s (exclude i c) rest = refl
undecided-after s (hull i x lo hi) rest = refl
undecided-after s (status i true) rest = refl
undecided-after s (status i false) rest = omega arith
undecided-after s (possible is) rest = refl
undecided-after s (verdict v) rest = refl
undecided-after s (end k) rest = refl

-- the line up to the next line feed is told, and summed up with the others
pub record Next (lines rest : List Line) (left : List ℕ) (s : Summary) (feed : ℕ) : Type 0 where
  pub line : Line
  pub later : List Line
  pub told : IsTold line
  pub text : take feed left ≡ line_text line
  pub stands : Stands lines later (drop (feed + 1) left) (after s line)

behind : (text more : List ℕ) → drop (length text + 1) (text ++ 10 ∷ more) ≡ more
behind [] more = refl
behind (c ∷ text) more = ap (λ n. drop n (c ∷ (text ++ 10 ∷ more))) (let e : length (c ∷ text) + 1 ≡ suc (length text + 1) = omega arith in e) ∙ behind text more

pub stands-next : (lines : List Line) (left : List ℕ) (s : Summary) (rest : List Line) (feed : ℕ) → Stands lines rest left s → position is_feed left ≡ Some feed → Next lines rest left s feed
stands-next lines left s [] feed h some = absurd (let f : None ≡ Some feed = ap (position is_feed) (sym h.text) ∙ some in cc)
stands-next lines left s (l ∷ rest) feed h some =
    let is : left ≡ line_text l ++ 10 ∷ lines_text rest = h.text ∙ append_assoc (line_text l) (10 ∷ []) (lines_text rest) in
    let told = All-head IsTold l rest h.told in
    let found : Some (length (line_text l)) ≡ Some feed = sym (first-feed (line_text l) (lines_text rest) (told-free l told)) ∙ ap (position is_feed) (sym is) ∙ some in
    let at : feed ≡ length (line_text l) = cc in
    let text : take feed left ≡ line_text l = ap (take feed) is ∙ take_at (line_text l) (10 ∷ lines_text rest) feed (sym at) in
    record {
      line = l;
      later = rest;
      told = told;
      text = text;
      stands = record {
        told = All-tail IsTold l rest h.told;
        text = (λ i. drop (at i + 1) (is i)) ∙ behind (line_text l) (lines_text rest);
        first = h.first ∙ first-after s l rest;
        second = h.second ∙ second-after s l rest;
        undecided = h.undecided ∙ undecided-after s l rest;
      };
    }
