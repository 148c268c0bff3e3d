-- The four lines of a summary.
use Rattle.std.specs.Prelude.{ℕ, List, [], ◌∷◌, ◌++◌, codes, Option, Some, None}
use Rattle.report_text.specs.Line.{Line, number_word}
use Rattle.report_summary.specs.Sums.{excluded_in, undecided_in}

-- with its line feed
abbrev pub ended : List ℕ → List ℕ
ended text = text ++ 10 ∷ []

-- a model is possible, or it was excluded in sample k
abbrev pub outcome_text : List ℕ → Option ℕ → List ℕ
outcome_text name None = ended (name ++ codes " possible")
outcome_text name (Some k) = ended (name ++ codes " excluded" ++ number_word k)

-- which demonstration it was, what became of its two models, and how often one was undecided
abbrev pub summary_text : (seed samples : ℕ) → Option ℕ → Option ℕ → ℕ → List ℕ
summary_text seed samples first second undecided =
    ended (codes "demo" ++ number_word seed ++ number_word samples)
    ++ outcome_text (codes "true") first ++ outcome_text (codes "other") second
    ++ ended (codes "undecided" ++ number_word undecided)

-- the four lines of a report
abbrev pub summary_of : (seed samples : ℕ) → List Line → List ℕ
summary_of seed samples lines = summary_text seed samples (excluded_in 0 0 lines) (excluded_in 1 0 lines) (undecided_in lines)
