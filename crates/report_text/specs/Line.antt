-- The lines of a report and their one spelling.
use Rattle.std.specs.Prelude.{ℕ, ◌^◌, ℤ, Bool, true, ◌&&◌, nat_le, if◌then◌else◌, List, [], ◌∷◌, ◌++◌, flat_map, codes, decimal}
use Rattle.std.specs.Prelude.{unsigned_abs}
use Rattle.std.specs.Fmt.{signed_decimal}
use Rattle.dec_text.specs.Printed.{printed}
use Rattle.farkas_check.specs.Certificate.{Certificate, by_out, by_rows}
use Rattle.isolate_core.specs.declared.verdict.Verdict.{Verdict as Judgement}
use Rattle.isolate_core.specs.declared.verdict.Verdict.TheVariants as judged

-- the title; a model's name; the start of a sample; the predicted interval of an output,
-- by model and output; an exclusion; the hull of a state, by
-- model and state; whether a model fits; the possible models; the verdict; the number of samples
pub data Line : Type 0 where
  title : Line
  model : ℕ → List ℕ → Line
  sample : ℕ → Line
  pred : ℕ → ℕ → ℤ → ℤ → Line
  exclude : ℕ → Certificate → Line
  hull : ℕ → ℕ → ℤ → ℤ → Line
  status : ℕ → Bool → Line
  possible : List ℕ → Line
  verdict : Judgement → Line
  end : ℕ → Line

-- a space before a word
abbrev pub then_word : List ℕ → List ℕ
then_word word = 32 ∷ word

abbrev pub number_word : ℕ → List ℕ
number_word n = then_word (decimal n)

abbrev pub multiplier_word : ℤ → List ℕ
multiplier_word l = then_word (signed_decimal l)

abbrev pub certificate_text : Certificate → List ℕ
certificate_text (by_out o) = codes " out" ++ number_word o
certificate_text (by_rows ls) = codes " rows" ++ flat_map multiplier_word ls

-- two indices and the ends of an interval
abbrev pub interval_text : ℕ → ℕ → ℤ → ℤ → List ℕ
interval_text i j lo hi = number_word i ++ number_word j ++ then_word (printed lo) ++ then_word (printed hi)

abbrev pub verdict_text : Judgement → List ℕ
verdict_text judged.None = codes " none"
verdict_text (judged.Isolated i) = codes " isolated" ++ number_word i
verdict_text judged.Several = codes " several"
verdict_text judged.Fault = codes " fault"

-- the text of a line, without its line feed
abbrev pub line_text : Line → List ℕ
line_text title = codes "zonomon 1"
line_text (model i name) = codes "model" ++ number_word i ++ then_word name
line_text (sample k) = codes "sample" ++ number_word k
line_text (pred i o lo hi) = codes "p" ++ interval_text i o lo hi
line_text (exclude i c) = codes "x" ++ number_word i ++ certificate_text c
line_text (hull i x lo hi) = codes "h" ++ interval_text i x lo hi
line_text (status i fits) = codes "s" ++ number_word i ++ (if fits then codes " fits" else codes " undecided")
line_text (possible is) = codes "possible" ++ flat_map number_word is
line_text (verdict v) = codes "verdict" ++ verdict_text v
line_text (end k) = codes "end" ++ number_word k

-- with its line feed
abbrev pub put_text : Line → List ℕ
put_text l = line_text l ++ 10 ∷ []

-- lines one after another, each with its line feed
abbrev pub lines_text : List Line → List ℕ
lines_text ls = flat_map put_text ls

-- a number that the printed form takes: within 10 ^ 24
abbrev pub is_printable : ℤ → Bool
is_printable v = nat_le (unsigned_abs v) (10 ^ 24)

-- the ends of the line's interval, if it has one, can be printed
abbrev pub has_printable_ends : Line → Bool
has_printable_ends (pred i o lo hi) = is_printable lo && is_printable hi
has_printable_ends (hull i x lo hi) = is_printable lo && is_printable hi
has_printable_ends _ = true
