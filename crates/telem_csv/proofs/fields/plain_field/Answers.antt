use Rattle.std.proofs.Common.{[], arith, ap, ◌∙◌, get_or}
use Rattle.std.specs.List.{slice_split}
use Rattle.telem_csv.specs.Fields.{is_comma}
use Rattle.telem_csv.proofs.Parts.{step_parts, part_here}
use Rattle.telem_csv.proofs.fields.plain_field.Goals as goal

pub loop-i-preserved : goal.loop-i-preserved
loop-i-preserved c = step_parts c.args.text.now c.loop-i.rest.now _ c.loop-i.i c.loop-i.invariant (omega (arith, c.requires, c.loop-i-test.true)) c.behind_comma-rest.ensures

pub returns : goal.returns
returns c = part_here c.args.text.now c.loop-i.rest.now _ c.loop-i.i c.loop-i.invariant c.before_comma.ensures ∙ ap (λ n. get_or (slice_split is_comma c.args.text.now) n []) (omega (arith, c.loop-i-test.false, c.loop-i.auto.i-end))
