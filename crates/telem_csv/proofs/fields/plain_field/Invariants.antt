use Rattle.std.proofs.Common.{◌≡◌, drop}
use Rattle.std.specs.List.{slice_split}
use Rattle.telem_csv.specs.Fields.{is_comma}
use Rattle.telem_csv.proofs.fields.plain_field.Given as goal

abbrev pub invariant-loop-i : goal.invariant-loop-i
invariant-loop-i l = drop l.i (slice_split is_comma l.text) ≡ slice_split is_comma l.rest
