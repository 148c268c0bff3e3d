-- The ranges of what a line says, and which texts are lines.
use Rattle.std.specs.Prelude.{◌≡◌, ℕ, ◌+◌, ◌^◌, ℤ, Bool, true, ◌&&◌, nat_lt, nat_le, List, [], ◌∷◌}
use Rattle.farkas_check.specs.Certificate.{Certificate, by_out, by_rows}
use Rattle.farkas_check.specs.Multipliers.{are_multipliers}
use Rattle.isolate_core.specs.declared.verdict.Verdict.{Verdict as Judgement}
use Rattle.isolate_core.specs.declared.verdict.Verdict.TheVariants as judged
use Rattle.report_text.specs.Line.{Line, title, model, sample, pred, exclude, hull, status, possible, verdict, end, line_text, is_printable}
use Rattle.report_text.specs.Names.{is_model_name}

abbrev pub is_model_index : ℕ → Bool
is_model_index i = nat_lt i 16

abbrev pub is_output_index : ℕ → Bool
is_output_index o = nat_lt o 6

abbrev pub is_state_index : ℕ → Bool
is_state_index x = nat_lt x 8

abbrev pub is_sample_number : ℕ → Bool
is_sample_number k = nat_lt k (2 ^ 63)

abbrev pub is_interval : ℤ → ℤ → Bool
is_interval lo hi = is_printable lo && is_printable hi

-- an output, or one to six multipliers of which each is within 2 ^ 31 - 1 of 0
abbrev pub is_certificate : Certificate → Bool
is_certificate (by_out o) = is_output_index o
is_certificate (by_rows ls) = are_multipliers ls

-- each at least `least`, the index of a model, and more than the one before
abbrev pub rise_from : ℕ → List ℕ → Bool
rise_from least [] = true
rise_from least (i ∷ is) = (nat_le least i && is_model_index i) && rise_from (i + 1) is

abbrev pub is_verdict : Judgement → Bool
is_verdict (judged.Isolated i) = is_model_index i
is_verdict judged.None = true
is_verdict judged.Several = true
is_verdict judged.Fault = true

-- what the line says is within the ranges
abbrev pub is_in_range : Line → Bool
is_in_range title = true
is_in_range (model i name) = is_model_index i && is_model_name name
is_in_range (sample k) = is_sample_number k
is_in_range (pred i o lo hi) = (is_model_index i && is_output_index o) && is_interval lo hi
is_in_range (exclude i c) = is_model_index i && is_certificate c
is_in_range (hull i x lo hi) = (is_model_index i && is_state_index x) && is_interval lo hi
is_in_range (status i fits) = is_model_index i
is_in_range (possible is) = rise_from 0 is
is_in_range (verdict v) = is_verdict v
is_in_range (end k) = is_sample_number k

-- the text is this line of the grammar
pub record IsLine (text : List ℕ) (l : Line) : Type 0 where
  pub in_range : is_in_range l ≡ true
  pub spelled : text ≡ line_text l
