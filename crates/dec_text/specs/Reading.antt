-- What a field of the telemetry says: nothing, or a decimal with or without a power of ten, rounded to billionths of a unit.
use Rattle.std.specs.Prelude.{ℕ, ◌+◌, ◌*◌, ◌/◌, ◌%◌, ◌^◌, ◌-◌, ◌≤◌, ℤ, pos, neg_ℤ, ◌+ℤ◌, ◌-ℤ◌, ◌*ℤ◌, ◌≤ℤ◌, unsigned_abs, Bool}
use Rattle.std.specs.Prelude.{true, false, ◌&&◌, ◌||◌, not, ◌==◌, nat_lt, if◌then◌else◌, List, [], ◌∷◌, ◌++◌, length, take, drop}
use Rattle.std.specs.Prelude.{codes, bytes_eq, Option, option_map, Result, Ok, Err}
use Rattle.std.specs.Int.{int_div_euclid}
use Rattle.std.specs.List.{list_any, position}
use Rattle.std.specs.Option.{option_map_or}
use Rattle.fixed_mat.specs.declared.reading.Reading.{Reading}
use Rattle.fixed_mat.specs.declared.reading.Reading.TheVariants.{Missing, Value}
use Rattle.dec_text.specs.Decimal.{number, is_negative, after_sign, before_point, after_point, are_digits}
use Rattle.dec_text.specs.declared.reading.DecFault.{DecFault}
use Rattle.dec_text.specs.declared.reading.DecFault.TheVariants.{Shape, TooLarge}

-- a space or a tab
abbrev pub is_gap : ℕ → Bool
is_gap c = (c == 32) || (c == 9)

abbrev pub without_front_gaps : List ℕ → List ℕ
without_front_gaps [] = []
without_front_gaps (c ∷ cs) = if is_gap c then without_front_gaps cs else (c ∷ cs)

-- c before a text that has no gaps at its end
abbrev pub before_text : ℕ → List ℕ → List ℕ
before_text c [] = if is_gap c then [] else (c ∷ [])
before_text c (d ∷ ds) = c ∷ d ∷ ds

abbrev pub without_back_gaps : List ℕ → List ℕ
without_back_gaps [] = []
without_back_gaps (c ∷ cs) = before_text c (without_back_gaps cs)

-- the text without spaces and tabs at its ends
abbrev pub without_gaps : List ℕ → List ℕ
without_gaps text = without_back_gaps (without_front_gaps text)

-- the words of a lost reading
abbrev pub is_missing : List ℕ → Bool
is_missing text = list_any (bytes_eq text) ([] ∷ codes "NaN" ∷ codes "nan" ∷ codes "NA" ∷ [])

-- `e` or `E`
abbrev pub is_e : ℕ → Bool
is_e c = (c == 101) || (c == 69)

-- what stands before the first `e`, and behind it where there is one
abbrev pub mantissa_of : List ℕ → List ℕ
mantissa_of text = option_map_or (λ at. take at text) (position is_e text) text

abbrev pub exponent_of : List ℕ → Option (List ℕ)
exponent_of text = option_map (λ at. drop (at + 1) text) (position is_e text)

-- a sign or none, and digits
abbrev pub is_integer_form : List ℕ → Bool
is_integer_form text = are_digits (after_sign text) []

-- the digits before the point, and behind it
abbrev pub whole_of : List ℕ → List ℕ
whole_of text = before_point (after_sign text)

abbrev pub fraction_of : List ℕ → List ℕ
fraction_of text = after_point (after_sign text)

-- a sign or none, digits with at most one point among them or at an end, and nothing else
abbrev pub is_exact_form : List ℕ → Bool
is_exact_form text = are_digits (whole_of text) (fraction_of text)

-- an exact form, and behind an `e` digits of any number under a sign or none
abbrev pub is_reading_form : List ℕ → Bool
is_reading_form text = is_exact_form (mantissa_of text) && option_map_or is_integer_form (exponent_of text) true

-- a rational number of units: digits * 10 ^ up / 10 ^ down, under a sign
pub record Rational : Type 0 where
  pub negative : Bool
  pub digits : ℕ
  pub up : ℕ
  pub down : ℕ

-- the digits before and behind the point, under a sign, times or by 10 ^ size
abbrev pub scaled_value : List ℕ → Bool → ℕ → Rational
scaled_value mantissa divided size = record {
  negative = is_negative mantissa;
  digits = number (whole_of mantissa ++ fraction_of mantissa);
  up = if divided then 0 else size;
  down = length (fraction_of mantissa) + (if divided then size else 0);
}

-- the power of ten that a text without an `e` has is 10 ^ 0
abbrev pub is_divided : List ℕ → Bool
is_divided text = option_map_or is_negative (exponent_of text) false

abbrev pub size_of : List ℕ → ℕ
size_of text = option_map_or (λ e. number (after_sign e)) (exponent_of text) 0

-- the exact value of a text of the form
abbrev pub value_of : List ℕ → Rational
value_of text = scaled_value (mantissa_of text) (is_divided text) (size_of text)

-- minus n where it is negative
abbrev pub signed : Bool → ℕ → ℤ
signed negative n = if negative then neg_ℤ (pos n) else pos n

-- the whole number nearest to p / q or to - p / q, halves upwards: floor (+- p / q + 1 / 2)
abbrev pub nearest : Bool → ℕ → ℕ → ℤ
nearest negative p q = int_div_euclid (signed negative (2 * p) +ℤ pos q) (pos (2 * q))

-- 0 where q divides p, else 1
abbrev pub slack_of : ℕ → ℕ → ℕ
slack_of p q = if (p % q) == 0 then 0 else 1

-- twice the distance of v from the exact value p / q, or - p / q, is at most the slack
abbrev pub IsNear : Bool → ℕ → ℕ → ℤ → ℕ → Type 0
IsNear negative p q v slack = 2 * unsigned_abs ((v *ℤ pos q) -ℤ signed negative p) ≤ slack * q

-- a reading of v billionths, of which there are at most 10 ^ 18
abbrev pub in_range : ℤ → ℕ → Result Reading DecFault
in_range v slack = if nat_lt 1000000000000000000 (unsigned_abs v) then Err TooLarge else Ok (Value v (pos slack))

-- p / q billionths under a sign, rounded
unfoldable pub rounded : Bool → ℕ → ℕ → Result Reading DecFault
rounded negative p q = in_range (nearest negative p q) (slack_of p q)

-- the number in billionths, rounded
unfoldable pub in_billionths : Rational → Result Reading DecFault
in_billionths r = rounded r.negative (r.digits * 10 ^ (r.up + 9)) (10 ^ r.down)

-- the number that a text without gaps at its ends writes
abbrev pub number_said_by : List ℕ → Result Reading DecFault
number_said_by text = if is_reading_form text then in_billionths (value_of text) else Err Shape

-- what a field says
abbrev pub reading_of : List ℕ → Result Reading DecFault
reading_of field = let text = without_gaps field in if is_missing text then Ok Missing else number_said_by text

-- the ranges of a reading
abbrev pub IsInRange : Reading → Type 0
IsInRange Missing = Unit {0}
IsInRange (Value v slack) = (unsigned_abs v ≤ 1000000000000000000) × (pos 0 ≤ℤ slack) × (slack ≤ℤ pos 1)

-- a reading lies no further from the exact number of billionths than half its slack
abbrev pub IsNearTo : Rational → Reading → Type 0
IsNearTo r Missing = Unit {0}
IsNearTo r (Value v slack) = IsNear r.negative (r.digits * 10 ^ (r.up + 9)) (10 ^ r.down) v (unsigned_abs slack)

-- The same by digits: those that count are whole tenths of a billionth, and of the others it counts whether one is not 0.

-- a mantissa times 10 ^ size, or divided by it
abbrev pub scaled_reading : List ℕ → Bool → ℕ → Result Reading DecFault
scaled_reading mantissa divided size = if is_exact_form mantissa then in_billionths (scaled_value mantissa divided size) else Err Shape

-- how many digits before the point are less than a tenth of a billionth
abbrev pub lost_places : Bool → ℕ → ℕ
lost_places divided size = if divided then size - 10 else 0

-- how many places behind the point are not less
abbrev pub kept_places : Bool → ℕ → ℕ
kept_places divided size = if divided then 10 - size else (10 + size)

-- the digits without the last `lost` before the point and those past `behind` behind it, which zeros fill up to `behind`
abbrev pub kept_tenths : List ℕ → List ℕ → ℕ → ℕ → ℕ
kept_tenths whole fraction lost behind = number (take (length whole - lost) whole ++ take behind fraction) * 10 ^ (behind - length fraction)

abbrev pub lost_digits : List ℕ → List ℕ → ℕ → ℕ → List ℕ
lost_digits whole fraction lost behind = drop (length whole - lost) whole ++ drop behind fraction

-- so many tenths, and a part of one more where it is fine; a half is rounded upwards
abbrev pub rounded_tenths : Bool → ℕ → Bool → Result Reading DecFault
rounded_tenths negative tenths is_fine =
    in_range (signed negative ((tenths + (if negative && not is_fine then 4 else 5)) / 10))
    (if is_fine || not ((tenths % 10) == 0) then 1 else 0)
