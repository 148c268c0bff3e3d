-- The lines of a report that are determined by the answers of the observer.
use Rattle.std.specs.Prelude.{ℕ, ℤ, Bool, List, [], ◌∷◌, ◌++◌, map, flat_map, Option, Some, None, not, if◌then◌else◌}
use Rattle.std.specs.List.{enumerate_from}
use Rattle.farkas_check.specs.Certificate.{Certificate}
use Rattle.isolate_core.specs.Verdict.{verdict_of, possible_models}
use Rattle.model_bank.specs.Answers.{ModelAnswer, SampleAnswer}
use Rattle.report_text.specs.Line.{Line, title, model, sample, pred, exclude, hull, status, possible, verdict, end}

-- the title and the models' names
abbrev pub head_lines : List (List ℕ) → List Line
head_lines names = title ∷ map (λ m. model m.0 m.1) (enumerate_from 0 names)

-- the predicted output intervals of model i
abbrev pub pred_lines : ℕ → List (ℤ × ℤ) → List Line
pred_lines i ps = map (λ p. pred i p.0 p.1.0 p.1.1) (enumerate_from 0 ps)

-- the hulls of model i
abbrev pub hull_lines : ℕ → List (ℤ × ℤ) → List Line
hull_lines i hs = map (λ h. hull i h.0 h.1.0 h.1.1) (enumerate_from 0 hs)

-- model i is excluded, or it stays with its hulls, and fits unless it was widened
abbrev pub outcome_lines : ℕ → Option Certificate → List (ℤ × ℤ) → Bool → List Line
outcome_lines i (Some c) hs is_widened = exclude i c ∷ []
outcome_lines i None hs is_widened = hull_lines i hs ++ status i (not is_widened) ∷ []

-- the lines of one live model
abbrev pub model_lines : ModelAnswer → List Line
model_lines m = pred_lines m.index m.answer.predicted ++ outcome_lines m.index m.answer.certificate m.answer.hulls m.answer.is_widened

-- the models that are still possible, and the verdict on them
abbrev pub closing_lines : List ℕ → List Line
closing_lines is = possible is ∷ verdict (verdict_of is) ∷ []

-- the lines of a sample
abbrev pub sample_lines : SampleAnswer → List Line
sample_lines s = sample s.k ∷ flat_map model_lines s.models ++ possible (possible_models s.possible) ∷ verdict s.verdict ∷ []

-- the last line stands exactly where the telemetry was read to its end
abbrev pub last_lines : ℕ → Bool → List Line
last_lines n is_whole = if is_whole then (end n ∷ []) else []
