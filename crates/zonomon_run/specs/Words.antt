-- The words of the command line.
use Rattle.std.specs.Prelude.{ℕ, List, [], ◌∷◌, length, codes, map, string_bytes, String, Bool, ◌&&◌, nat_lt, nat_le, if◌then◌else◌}
use Rattle.std.specs.Char.{is_ascii_digit}
use Rattle.std.specs.List.{list_all}
use Rattle.dec_text.specs.Decimal.{number}
use Rattle.std.specs.Str.{bytes_eq}
use Rattle.std.specs.declared.alloc.Global.{Global}

-- what the words ask for
pub data Asked : Type 0 where
  monitor : List ℕ → List ℕ → Asked
  checks : List ℕ → List ℕ → List ℕ → Asked
  helps : Asked
  demonstrates : (seed samples : ℕ) → Asked
  faulty : Asked

-- so many decimal digits at most, of a number between these
abbrev pub is_number : ℕ → ℕ → ℕ → List ℕ → Bool
is_number most low high text = nat_lt 0 (length text) && (nat_le (length text) most
    && (list_all is_ascii_digit text && (nat_le low (number text) && nat_le (number text) high)))

abbrev pub is_seed : List ℕ → Bool
is_seed text = is_number 10 0 4_294_967_295 text

abbrev pub is_sample_count : List ℕ → Bool
is_sample_count text = is_number 5 1 10_000 text

-- the demonstration of a seed and of so many samples
abbrev pub demonstration : List ℕ → List ℕ → Asked
demonstration seed samples = if is_seed seed && is_sample_count samples then demonstrates (number seed) (number samples) else faulty

abbrev pub two_words : List ℕ → List ℕ → List ℕ → Asked
two_words verb a b = if bytes_eq verb (codes "run") then monitor a b else (if bytes_eq verb (codes "demo") then demonstration a b else faulty)

abbrev pub one_word : List ℕ → Asked
one_word verb = if bytes_eq verb (codes "help") then helps else faulty

abbrev pub three_names : List ℕ → List ℕ → List ℕ → List ℕ → Asked
three_names verb a b c = if bytes_eq verb (codes "check") then checks a b c else faulty

-- `run MODEL TELEMETRY`, `check MODEL TELEMETRY REPORT`, `demo SEED SAMPLES` or `help`
abbrev pub asked_by : List (List ℕ) → Asked
asked_by (verb ∷ []) = one_word verb
asked_by (verb ∷ a ∷ b ∷ []) = two_words verb a b
asked_by (verb ∷ a ∷ b ∷ c ∷ []) = three_names verb a b c
asked_by _ = faulty

abbrev pub texts : List (String Global) → List (List ℕ)
texts words = map string_bytes words
