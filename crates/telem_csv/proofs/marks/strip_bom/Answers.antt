use Rattle.std.proofs.Common.{sym, ◌∙◌, ◌-◌, length, drop, arith}
use Rattle.std.proofs.lemmas.List.{take_all, length-drop}
use Rattle.telem_csv.proofs.Ends.{too_short_for_mark, marked, not_marked}
use Rattle.telem_csv.proofs.marks.strip_bom.Goals as goal

pub returns-in_default : goal.returns-in_default
returns-in_default c = too_short_for_mark c.args.text.now (omega (arith, c.in_default.len_below))

pub returns-then-is_mark : goal.returns-then-is_mark
returns-then-is_mark c =
    take_all (length c.args.text.now - 3) (drop 3 c.args.text.now) (omega (arith, length-drop 3 c.args.text.now))
    ∙ marked c.args.text.now (omega (arith, c.in-len3-up.len_at_least)) (sym c.is_mark.ensures ∙ c.if-is_mark.true)

pub returns-else-is_mark : goal.returns-else-is_mark
returns-else-is_mark c = not_marked c.args.text.now (omega (arith, c.in-len3-up.len_at_least)) (sym c.is_mark.ensures ∙ c.if-is_mark.false)
