use Rattle.std.proofs.Common.{sym, ◌∙◌}
use Rattle.telem_csv.proofs.Plain.{fields_plain, fields_blank}
use Rattle.telem_csv.proofs.fields.Fields.read.Goals as goal

pub returns-then-is_empty-clause-value : goal.returns-then-is_empty-clause-value
returns-then-is_empty-clause-value c = fields_blank c.args.text.now _ c.strip_bom-unmarked.ensures (sym c.is_empty.ensures ∙ c.if-is_empty.true)

pub returns-else-is_empty-clause-value : goal.returns-else-is_empty-clause-value
returns-else-is_empty-clause-value c =
    fields_plain c.args.text.now _ c.strip_bom-unmarked.ensures c.requires (sym c.has_quote.ensures ∙ c.if-has_quote.false) (sym c.is_empty.ensures ∙ c.if-is_empty.false)
