use Rattle.std.proofs.Common.{sym, ◌∙◌}
use Rattle.dec_text.proofs.Fields.{scaled_by_digits}
use Rattle.dec_text.proofs.field.scaled.Goals as goal

pub returns : goal.returns
returns c =
    scaled_by_digits c.args.mantissa.now _ _ _ c.args.divided _ _ c.args.size _ _ _ _ c.split_sign-negative.ensures.sign c.split_sign-negative.ensures.body c.split_point.ensures.whole c.split_point.ensures.fraction (sym c.have_digits.ensures ∙ c.if-not-have_digits.false)
    c.places_of-lost.ensures.lost c.places_of-lost.ensures.behind c.tenths_of-tenths.ensures.tenths c.tenths_of-tenths.ensures.fine c.rounded.ensures
