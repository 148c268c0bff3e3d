-- The reader of telemetries reads the line of a sample as its row.
use Rattle.std.proofs.Common.{◌≡◌, ℕ, suc, ◌+◌, ◌-◌, ◌*◌, ◌≤◌, Bool, true, false, All, List, [], ◌∷◌, ◌++◌, length, get_or, map, unsigned_abs, refl, sym, ◌∙◌, ap, arith, append_assoc, length-append, Some, None, Ok}
use Rattle.std.specs.Prelude.{◌==◌, nat_lt, nat_le}
use Rattle.std.specs.List.{list_any, slice_split, flat_map}
use Rattle.std.proofs.lemmas.Bool.Decides.{nat_tests}
use Rattle.std.proofs.lemmas.List.Elements.{All-nil, All-cons, All-head, All-tail, All-append}
use Rattle.std.proofs.lemmas.List.Folds.{list_any_none}
use Rattle.std.proofs.lemmas.List.Splits.{slice_split_at, slice_split_none}
use Rattle.dec_text.specs.Printed.{printed}
use Rattle.dec_text.specs.Steps.{◌>>=◌}
use Rattle.dec_text.proofs.Plain.{reading_of-printed}
use Rattle.telem_csv.specs.Columns.{Columns}
use Rattle.telem_csv.specs.Fields.{is_comma, is_quote}
use Rattle.telem_csv.specs.Lines.{RawLine, taken_by, is_feed, is_return, raw_lines, without_return, line_text, fields_in, IsLineText}
use Rattle.telem_csv.specs.Rows.{row_of, then_rows, rows_from}
use Rattle.telem_csv.proofs.Cuts.{raw_lines-cut}
use Rattle.telem_csv.proofs.Ends.{not_marked}
use Rattle.telem_csv.proofs.Plain.{fields_plain}
use Rattle.sim_gen.specs.Telemetry.{sample_of, line_of}
use Rattle.sim_gen.specs.declared.process.Moment.{Moment}
use Rattle.sim_gen.proofs.Bytes.{IsNumberByte, IsNumberText, printed-is}

-- the columns of the demonstration: an input, and an output behind it
abbrev pub columns : Columns
columns = record { width = 2; inputs = 0 ∷ []; outputs = 1 ∷ [] }

-- the numbers of a sample can be printed and read back
pub record IsPrintable (m : Moment) : Type 0 where
  pub input : unsigned_abs m.input ≤ 1_000_000_000_000_000
  pub reading : unsigned_abs m.reading ≤ 1_000_000_000_000_000_000

-- a line without its line feed
abbrev bytes_of : Moment → List ℕ
bytes_of m = printed m.input ++ 44 ∷ printed m.reading

abbrev raw_of : Moment → RawLine
raw_of m = record { bytes = bytes_of m; is_ended = true }

-- a byte of a line is one of a number or a comma
abbrev IsLineByte : ℕ → Type 0
IsLineByte c = (44 ≤ c) × (c ≤ 57)

abbrev Misses : (ℕ → Bool) → ℕ → Type 0
Misses p c = p c ≡ false

no_feed : (c : ℕ) → IsLineByte c → is_feed c ≡ false
no_feed c h = let low = h.0 in grind (arith, nat_tests)

no_return : (c : ℕ) → IsLineByte c → is_return c ≡ false
no_return c h = let low = h.0 in grind (arith, nat_tests)

no_quote : (c : ℕ) → IsLineByte c → is_quote c ≡ false
no_quote c h = let low = h.0 in grind (arith, nat_tests)

no_comma : (c : ℕ) → IsNumberByte c → is_comma c ≡ false
no_comma c h = let low = h.0 in grind (arith, nat_tests)

no_mark : (c : ℕ) → IsLineByte c → (c == 239) ≡ false
no_mark c h = let high = h.1 in grind (arith, nat_tests)

all_by : (P Q : ℕ → Type 0) → ((c : ℕ) → P c → Q c) → (text : List ℕ) → All P text → All Q text
all_by P Q f [] h = All-nil Q
all_by P Q f (c ∷ cs) h = All-cons Q c cs (f c (All-head P c cs h)) (all_by P Q f cs (All-tail P c cs h))

none_of : (p : ℕ → Bool) → ((c : ℕ) → IsLineByte c → p c ≡ false) → (text : List ℕ) → All IsLineByte text → list_any p text ≡ false
none_of p f text h = list_any_none p text (all_by IsLineByte (Misses p) f text h)

no_return_lost : (text : List ℕ) → All IsLineByte text → without_return text ≡ text
no_return_lost [] h = refl
no_return_lost (c ∷ []) h = let no = no_return c (All-head IsLineByte c [] h) in rw no refl
no_return_lost (c ∷ d ∷ cs) h = ap (λ t. c ∷ t) (no_return_lost (d ∷ cs) (All-tail IsLineByte c (d ∷ cs) h))

number_bytes : (most : ℕ) (text : List ℕ) → IsNumberText most text → All IsLineByte text
number_bytes most text h = all_by IsNumberByte IsLineByte (λ c b. (let low = b.0 in omega arith, b.1)) text h.bytes

module _ (m : Moment) (h : IsPrintable m) where
  input-is : IsNumberText 21 (printed m.input)
  input-is = printed-is m.input (let small = h.input in omega arith)

  reading-is : IsNumberText 21 (printed m.reading)
  reading-is = printed-is m.reading h.reading

  line-bytes : All IsLineByte (bytes_of m)
  line-bytes =
      All-append IsLineByte (printed m.input) (44 ∷ printed m.reading) (number_bytes 21 (printed m.input) input-is)
      (All-cons IsLineByte 44 (printed m.reading) (omega arith, omega arith) (number_bytes 21 (printed m.reading) reading-is))

  line-size : length (bytes_of m) ≡ length (printed m.input) + suc (length (printed m.reading))
  line-size = length-append (printed m.input) (44 ∷ printed m.reading)

  line-short : length (bytes_of m) ≤ 43
  line-short = let size = line-size in let a = input-is.short in let b = reading-is.short in omega arith

  line-some : 3 ≤ length (bytes_of m)
  line-some = let size = line-size in let a = input-is.some in let b = reading-is.some in omega arith

  parts : slice_split is_comma (bytes_of m) ≡ printed m.input ∷ printed m.reading ∷ []
  parts =
      slice_split_at is_comma (printed m.input) 44 (printed m.reading)
      (all_by IsNumberByte (Misses is_comma) no_comma (printed m.input) input-is.bytes) refl
      ∙ ap (λ ps. printed m.input ∷ ps)
      (slice_split_none is_comma (printed m.reading) (all_by IsNumberByte (Misses is_comma) no_comma (printed m.reading) reading-is.bytes))

  fields : fields_in (bytes_of m) ≡ Some (printed m.input ∷ printed m.reading ∷ [])
  fields =
      let first : IsLineByte (get_or (bytes_of m) 0 0) = line-bytes 0 0 (let l = line-some in omega arith) in
      let no = no_mark (get_or (bytes_of m) 0 0) first in
      let some : (length (bytes_of m) == 0) ≡ false = (let l = line-some in grind (arith, nat_tests)) in
      let text : IsLineText (bytes_of m) = record {
        short = let short = line-short in omega arith;
        no_feed = none_of is_feed no_feed (bytes_of m) line-bytes;
        no_return = none_of is_return no_return (bytes_of m) line-bytes;
      } in
      sym (fields_plain (bytes_of m) (bytes_of m) (not_marked (bytes_of m) line-some (rw no refl)) text (none_of is_quote no_quote (bytes_of m) line-bytes) some)
      ∙ ap Some parts

  row : row_of columns (bytes_of m) ≡ Ok (Some (sample_of m))
  row =
      let small : nat_le (unsigned_abs m.input) 1_000_000_000_000_000 ≡ true = (let i = h.input in grind (arith, nat_tests)) in
      rw (fields, reading_of-printed m.input (let small = h.input in omega arith), reading_of-printed m.reading h.reading, small) refl

  -- the text of the line, in a file that has room for it
  line-text : (room n : ℕ) → 44 ≤ room → 2 ≤ n → line_text room n (raw_of m) ≡ Ok (bytes_of m)
  line-text room n fits later =
      let l = line-short in
      let in_room : nat_lt room (length (bytes_of m) + 1) ≡ false = grind (arith, nat_tests) in
      let in_line : nat_lt 4096 (length (bytes_of m)) ≡ false = grind (arith, nat_tests) in
      let not_first : (n == 1) ≡ false = grind (arith, nat_tests) in
      rw (in_room, in_line, not_first, no_return_lost (bytes_of m) line-bytes, none_of is_return no_return (bytes_of m) line-bytes) refl

  line-ends : (rest : List ℕ) → line_of m ++ rest ≡ bytes_of m ++ 10 ∷ rest
  line-ends rest =
      append_assoc (printed m.input) (44 ∷ (printed m.reading ++ 10 ∷ [])) rest
      ∙ ap (λ t. printed m.input ++ 44 ∷ t) (append_assoc (printed m.reading) (10 ∷ []) rest)
      ∙ sym (append_assoc (printed m.input) (44 ∷ printed m.reading) (10 ∷ rest))

  raw-line : (rest : List ℕ) → raw_lines (line_of m ++ rest) ≡ raw_of m ∷ raw_lines rest
  raw-line rest = ap raw_lines (line-ends rest) ∙ raw_lines-cut (bytes_of m) rest (none_of is_feed no_feed (bytes_of m) line-bytes)

  answer : (room n : ℕ) → 44 ≤ room → 2 ≤ n → (line_text room n (raw_of m) >>= row_of columns) ≡ Ok (Some (sample_of m))
  answer room n fits later = ap (λ t. t >>= row_of columns) (line-text room n fits later) ∙ row

-- the lines of samples are read as their rows, in a file that has room for them
pub rows-read : (ms : List Moment) → All IsPrintable ms → (room n : ℕ) → 44 * length ms ≤ room → 2 ≤ n
    → rows_from columns room n (raw_lines (flat_map line_of ms)) ≡ record { samples = map sample_of ms; refusal = None }
rows-read [] h room n fits later = refl
rows-read (m ∷ ms) h room n fits later =
    let here = All-head IsPrintable m ms h in
    let short = line-short m here in
    let left = room - taken_by (raw_of m) in
    ap (rows_from columns room n) (raw-line m here (flat_map line_of ms))
    ∙ ap (λ a. then_rows n a (rows_from columns left (n + 1) (raw_lines (flat_map line_of ms)))) (answer m here room n (omega arith) later)
    ∙ ap (then_rows n (Ok (Some (sample_of m)))) (rows-read ms (All-tail IsPrintable m ms h) left (n + 1) (omega arith) (omega arith))
