-- The fields of a line, cut by csv or at its commas.
use Rattle.std.specs.Prelude.{ℕ, Bool, ◌==◌, List}
use Rattle.std.specs.List.{slice_split}
use Rattle.csv.specs.Records.{fields_of}
use Rattle.telem_csv.specs.declared.fields.Fields.{Fields}
use Rattle.telem_csv.specs.declared.fields.Fields.TheVariants.{Plain, Quoted}

abbrev pub is_comma : ℕ → Bool
is_comma c = c == 44

abbrev pub is_quote : ℕ → Bool
is_quote c = c == 34

abbrev pub seen : Fields → List (List ℕ)
seen (Plain text) = slice_split is_comma text.now
seen (Quoted record_) = fields_of record_
