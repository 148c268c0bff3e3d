-- What the lines of a report say of its first two models.
use Rattle.std.specs.Prelude.{◌≡◌, ℕ, ◌+◌, ◌==◌, false, if◌then◌else◌, List, [], ◌∷◌, Option, Some, None}
use Rattle.report_text.specs.Line.{Line, sample, exclude, status}
use Rattle.report_summary.specs.declared.summary.Summary.{Summary}

-- the sample in which lines exclude a model; those before the first `sample` line speak of sample k
abbrev pub excluded_in : (model k : ℕ) → List Line → Option ℕ
excluded_in i k [] = None
excluded_in i k (sample j ∷ lines) = excluded_in i j lines
excluded_in i k (exclude j c ∷ lines) = if j == i then Some k else excluded_in i k lines
excluded_in i k (line ∷ lines) = excluded_in i k lines

-- how many lines say that a model is undecided
abbrev pub undecided_in : List Line → ℕ
undecided_in [] = 0
undecided_in (status i false ∷ lines) = 1 + undecided_in lines
undecided_in (line ∷ lines) = undecided_in lines

-- the summary of a whole report
pub record Sums (lines : List Line) (s : Summary) : Type 0 where
  pub first : s.first ≡ excluded_in 0 0 lines
  pub second : s.second ≡ excluded_in 1 0 lines
  pub undecided : s.undecided ≡ undecided_in lines

-- ---- line by line

-- what was found before, or else this
abbrev pub or_else : {A : Type 0} → Option A → Option A → Option A
or_else (Some x) later = Some x
or_else None later = later

abbrev pub nothing_yet : Summary
nothing_yet = record { sample = 0; first = None; second = None; undecided = 0 }

-- the exclusion of a model
abbrev pub after_exclusion : Summary → ℕ → Summary
after_exclusion s i = record s {
  first = if i == 0 then or_else s.first (Some s.sample) else s.first;
  second = if i == 1 then or_else s.second (Some s.sample) else s.second;
}

-- one more line
abbrev pub after : Summary → Line → Summary
after s (sample k) = record s { sample = k }
after s (exclude i c) = after_exclusion s i
after s (status i false) = record s { undecided = s.undecided + 1 }
after s line = s
