-- How long the printed document is, and what it says.
use Rattle.std.proofs.Common.{◌≡◌, ℕ, ◌≤◌, Bool, true, false, ◌&&◌, nat_lt, List, [], ◌∷◌, ◌++◌, codes, length, Some, Ok, refl, ap, ◌∙◌}
use Rattle.std.specs.Str.{IsUtf8}
use Rattle.std.specs.Fmt.{digits, signed_decimal}
use Rattle.std.proofs.lemmas.Bool.{and_parts, false≢true}
use Rattle.std.proofs.lemmas.Str.{is_utf8-from_IsUtf8}
use Rattle.toml_writer.specs.Text.{needs_escape, quotes_after, escaped, encoding_of, string_text, key_text, dotted_text}
use Rattle.toml.specs.Data.{Data, string, integer, float, boolean, datetime, array, table, Items, no_items, item}
use Rattle.toml.specs.Tables.{Definition, key_value, std_table, array_table, Expression}
use Rattle.toml.specs.Parse.{parse_document}
use Rattle.toml.specs.Text.{breaks_lines, before_item, after_item, array_end, gap, header_open, header_close, expressions, IsValueText, IsItemsText, IsLineText, IsLinesText, IsDocumentText}
use Rattle.model_file.specs.ModelFile.{most_bytes, document_of, models_of}
use Rattle.sim_gen.specs.Document.{members_with}
use Rattle.sim_gen.specs.Models.{models_with}
use Rattle.sim_gen.proofs.Parses.{at-each, table-says}

-- the text of a value that is made of strings and whole numbers
abbrev mutual
  value_text : Data → List ℕ
  value_text (string s) = string_text s
  value_text (integer z) = signed_decimal z
  value_text (array ds) = codes "[" ++ items_text (breaks_lines false ds) true ds
  value_text _ = []

  items_text : Bool → Bool → Items → List ℕ
  items_text lines is_first no_items = array_end lines
  items_text lines is_first (item d ds) = before_item lines is_first ++ (value_text d ++ (after_item lines ++ items_text lines false ds))

-- the value is made of strings and whole numbers
abbrev mutual
  is_plain : Data → Bool
  is_plain (string s) = true
  is_plain (integer z) = true
  is_plain (array ds) = are_plain ds
  is_plain _ = false

  are_plain : Items → Bool
  are_plain no_items = true
  are_plain (item d ds) = is_plain d && are_plain ds

-- the text of lines with such values
abbrev line_text : Bool → List (List ℕ) × List ℕ → Definition → List ℕ
line_text started key (key_value d) = dotted_text key ++ (codes " = " ++ (value_text d ++ 10 ∷ []))
line_text started key std_table = gap started ++ (header_open false ++ (dotted_text key ++ header_close false))
line_text started key array_table = gap started ++ (header_open true ++ (dotted_text key ++ header_close true))

abbrev lines_text : Bool → List Expression → List ℕ
lines_text started [] = []
lines_text started (e ∷ es) = line_text started e.0 e.1 ++ lines_text true es

abbrev has_plain : Definition → Bool
has_plain (key_value d) = is_plain d
has_plain _ = true

abbrev have_plain : List Expression → Bool
have_plain [] = true
have_plain (e ∷ es) = has_plain e.1 && have_plain es

mutual
  value-is : (d : Data) (text : List ℕ) → is_plain d ≡ true → IsValueText false d text → text ≡ value_text d
  value-is (string s) text plain h = h
  value-is (integer z) text plain h = h.0
  value-is (float x) text plain h = absurd (false≢true plain)
  value-is (boolean b) text plain h = absurd (false≢true plain)
  value-is (datetime dt) text plain h = absurd (false≢true plain)
  value-is (array ds) text plain h = h.1 ∙ ap (λ rest. codes "[" ++ rest) (items-is (breaks_lines false ds) true ds h.0 plain h.2)
  value-is (table ms) text plain h = absurd (false≢true plain)

  items-is : (lines is_first : Bool) (ds : Items) (text : List ℕ) → are_plain ds ≡ true → IsItemsText false lines is_first ds text → text ≡ items_text lines is_first ds
  items-is lines is_first no_items text plain h = h
  items-is lines is_first (item d ds) text plain h =
      let (here, more) = and_parts (is_plain d) (are_plain ds) plain in
      rw (h.2, value-is d h.0 here h.3, items-is lines false ds h.1 more h.4) refl

line-is : (started : Bool) (key : List (List ℕ) × List ℕ) (what : Definition) (text : List ℕ) → has_plain what ≡ true → IsLineText false started key what text → text ≡ line_text started key what
line-is started key (key_value d) text plain h = h.1 ∙ ap (λ this. dotted_text key ++ (codes " = " ++ (this ++ 10 ∷ []))) (value-is d h.0 plain h.2)
line-is started key std_table text plain h = h
line-is started key array_table text plain h = h

lines-are : (started : Bool) (es : List Expression) (text : List ℕ) → have_plain es ≡ true → IsLinesText false started es text → text ≡ lines_text started es
lines-are started [] text plain h = h
lines-are started (e ∷ es) text plain h =
    let (here, more) = and_parts (has_plain e.1) (have_plain es) plain in
    rw (h.2, line-is started e.0 e.1 h.0 here h.3, lines-are true es h.1 more h.4) refl

-- the printed document is within the size of a model file
printed-small : (coupling gain : ℕ) → 1 ≤ coupling → coupling ≤ 2 → 1 ≤ gain → gain ≤ 4
    → nat_lt most_bytes (length (lines_text false (expressions (members_with coupling gain)))) ≡ false
unfolding digits needs_escape quotes_after escaped encoding_of string_text key_text
printed-small = at-each (λ m n. nat_lt most_bytes (length (lines_text false (expressions (members_with m n)))) ≡ false) refl refl refl refl refl refl refl refl

-- a text that is the printed document says the models
pub printed-says : (coupling gain : ℕ) (text : List ℕ) → 1 ≤ coupling → coupling ≤ 2 → 1 ≤ gain → gain ≤ 4 → IsUtf8 text
    → IsDocumentText false (members_with coupling gain) text → parse_document text ≡ Some (members_with coupling gain)
    → models_of text ≡ Ok (models_with coupling gain)
unfolding models_of document_of
printed-says coupling gain text some_c few_c some_g few_g utf8 printed parsed =
    let is : text ≡ lines_text false (expressions (members_with coupling gain)) = lines-are false (expressions (members_with coupling gain)) text refl printed in
    let small : nat_lt most_bytes (length text) ≡ false =
    ap (λ t. nat_lt most_bytes (length t)) is ∙ printed-small coupling gain some_c few_c some_g few_g in
    rw (small, is_utf8-from_IsUtf8 text utf8, parsed) (table-says coupling gain some_c few_c some_g few_g)
