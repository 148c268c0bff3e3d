-- The one line that a text can be. Its parts are read without a refusal, as some value or other: whether the text is that line shows when
-- the line is written again.
use Rattle.std.specs.Prelude.{ℕ, zero, suc, ◌+◌, ◌^◌, min, ℤ, pos, neg_ℤ, Bool, ◌==◌, if◌then◌else◌, List, [], ◌∷◌, map, take, drop}
use Rattle.std.specs.Prelude.{codes, bytes_eq, Result, Ok, Err}
use Rattle.std.specs.List.{position}
use Rattle.std.specs.Option.{option_map_or}
use Rattle.dec_text.specs.Decimal.{number, is_negative, exact_of}
use Rattle.dec_text.specs.declared.reading.DecFault.{DecFault}
use Rattle.farkas_check.specs.Certificate.{Certificate, by_out, by_rows}
use Rattle.farkas_check.specs.Multipliers.{are_multipliers}
use Rattle.isolate_core.specs.declared.verdict.Verdict.{Verdict as Judgement}
use Rattle.isolate_core.specs.declared.verdict.Verdict.TheVariants as judged
use Rattle.report_text.specs.Line.{Line, title, model, sample, pred, exclude, hull, status, possible, verdict, end}
use Rattle.report_text.specs.Names.{is_model_name}

abbrev pub is_space : ℕ → Bool
is_space c = c == 32

-- what stands before the first space, and behind it
unfoldable pub word_of : List ℕ → List ℕ
word_of text = option_map_or (λ at. take at text) (position is_space text) text

unfoldable pub rest_of : List ℕ → List ℕ
rest_of text = option_map_or (λ at. drop (at + 1) text) (position is_space text) []

-- the first so many words
unfoldable pub words_of : ℕ → List ℕ → List (List ℕ)
words_of zero text = []
words_of (suc n) [] = []
words_of (suc n) (c ∷ cs) = word_of (c ∷ cs) ∷ words_of n (rest_of (c ∷ cs))

-- a sample number, or 2 ^ 63 for what is greater
unfoldable pub count_of : List ℕ → ℕ
count_of word = min (number word) (2 ^ 63)

-- an index, or 16 for what is greater
unfoldable pub index_of : List ℕ → ℕ
index_of word = min (number word) 16

abbrev pub without_minus : List ℕ → List ℕ
without_minus [] = []
without_minus (c ∷ cs) = if c == 45 then cs else (c ∷ cs)

-- a multiplier, or the one nearest to what is greater
unfoldable pub multiplier_of : List ℕ → ℤ
multiplier_of word =
    let magnitude = min (number (without_minus word)) 2147483647 in
    if is_negative word then neg_ℤ (pos magnitude) else pos magnitude

abbrev pub value_or_zero : Result ℤ DecFault → ℤ
value_or_zero (Ok v) = v
value_or_zero (Err e) = pos 0

-- the end of an interval, or 0
unfoldable pub end_of : List ℕ → ℤ
end_of word = value_or_zero (exact_of word)

-- a name, or none
unfoldable pub name_of : List ℕ → List ℕ
name_of text = if is_model_name text then text else []

-- these multipliers, or an output that there is not
abbrev pub certificate_by : List ℤ → Certificate
certificate_by ls = if are_multipliers ls then by_rows ls else by_out 16

unfoldable pub certificate_in : List ℕ → Certificate
certificate_in rest =
    if bytes_eq (word_of rest) (codes "out") then by_out (index_of (rest_of rest))
    else certificate_by (map multiplier_of (words_of 6 (rest_of rest)))

unfoldable pub verdict_in : List ℕ → Judgement
verdict_in rest =
    if bytes_eq rest (codes "none") then judged.None
    else (if bytes_eq rest (codes "several") then judged.Several
    else (if bytes_eq rest (codes "fault") then judged.Fault else judged.Isolated (index_of (rest_of rest))))

-- the words of an interval: two indices and two ends
abbrev pub first_in : List ℕ → ℕ
first_in rest = index_of (word_of rest)

abbrev pub second_in : List ℕ → ℕ
second_in rest = index_of (word_of (rest_of rest))

abbrev pub low_in : List ℕ → ℤ
low_in rest = end_of (word_of (rest_of (rest_of rest)))

abbrev pub high_in : List ℕ → ℤ
high_in rest = end_of (rest_of (rest_of (rest_of rest)))

abbrev pub model_in : List ℕ → Line
model_in rest = model (index_of (word_of rest)) (name_of (rest_of rest))

abbrev pub pred_in : List ℕ → Line
pred_in rest = pred (first_in rest) (second_in rest) (low_in rest) (high_in rest)

abbrev pub exclude_in : List ℕ → Line
exclude_in rest = exclude (index_of (word_of rest)) (certificate_in (rest_of rest))

abbrev pub hull_in : List ℕ → Line
hull_in rest = hull (first_in rest) (second_in rest) (low_in rest) (high_in rest)

abbrev pub status_in : List ℕ → Line
status_in rest = status (index_of (word_of rest)) (bytes_eq (rest_of rest) (codes "fits"))

abbrev pub possible_in : List ℕ → Line
possible_in rest = possible (map index_of (words_of 16 rest))

-- the line that this word begins
unfoldable pub line_by : List ℕ → List ℕ → Line
line_by word rest =
    if bytes_eq word (codes "model") then model_in rest
    else (if bytes_eq word (codes "sample") then sample (count_of rest)
    else (if bytes_eq word (codes "p") then pred_in rest
    else (if bytes_eq word (codes "x") then exclude_in rest
    else (if bytes_eq word (codes "h") then hull_in rest
    else (if bytes_eq word (codes "s") then status_in rest
    else (if bytes_eq word (codes "possible") then possible_in rest
    else (if bytes_eq word (codes "verdict") then verdict (verdict_in rest)
    else (if bytes_eq word (codes "end") then end (count_of rest) else title))))))))

-- the one line that a text can be
abbrev pub candidate : List ℕ → Line
candidate text = line_by (word_of text) (rest_of text)
