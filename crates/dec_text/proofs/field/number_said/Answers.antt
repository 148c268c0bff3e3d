use Rattle.std.proofs.Common.{ap, sym, ◌∙◌}
use Rattle.std.specs.Option.{option_copied}
use Rattle.dec_text.proofs.Fields.{scaled_by_exponent}
use Rattle.dec_text.proofs.field.number_said.Goals as goal

pub returns : goal.returns
returns c =
    scaled_by_exponent c.args.text.now _ c.in-Some.exponent.now _ _ _ _ c.split_exponent.ensures.mantissa (sym (ap option_copied c.in-Some.is) ∙ c.split_exponent.ensures.exponent) c.split_sign-divided.ensures.sign c.split_sign-divided.ensures.body
    (sym c.have_digits.ensures ∙ c.if-not-have_digits.false) c.capped_number-size.ensures c.scaled-2.ensures
