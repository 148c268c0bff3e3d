use Rattle.dec_text.proofs.Capped.{kept_is}
use Rattle.dec_text.proofs.field.tenths_of.Goals as goal

pub returns-then-has_more-clause-tenths : goal.returns-then-has_more-clause-tenths
returns-then-has_more-clause-tenths c =
    kept_is _ _ _ _ c.args.lost c.args.behind _ _ _ _ _ _ c.min.ensures c.split_at.ensures.front c.min-2.ensures c.split_at-2.ensures.front c.push_digits.ensures.value c.push_digits-tenths.ensures.value
    (rw c.saturating_sub.ensures at c.push_zeros-tenths.ensures.value)

pub returns-else-has_more-clause-tenths : goal.returns-else-has_more-clause-tenths
returns-else-has_more-clause-tenths c =
    kept_is _ _ _ _ c.args.lost c.args.behind _ _ _ _ _ _ c.min.ensures c.split_at.ensures.front c.min-2.ensures c.split_at-2.ensures.front c.push_digits.ensures.value c.push_digits-tenths.ensures.value
    (rw c.saturating_sub.ensures at c.push_zeros-tenths.ensures.value)
