use Rattle.std.proofs.Common.{sym, ◌∙◌, ap, ◌+◌}
use Rattle.std.proofs.lemmas.List.Splits.{length-slice_split}
use Rattle.telem_csv.specs.Fields.{is_comma}
use Rattle.telem_csv.proofs.fields.Fields.count.Goals as goal

pub returns-in-Plain : goal.returns-in-Plain
returns-in-Plain c = rw c.in-Plain.is (ap (λ n. n + 1) c.commas.ensures ∙ sym (length-slice_split is_comma c.in-Plain.text.now))
