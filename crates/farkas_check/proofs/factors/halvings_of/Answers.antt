use Rattle.std.proofs.Common.{◌<◌, ◌^◌, ◌/◌, sym, ◌∙◌, arith, subst}
use Rattle.farkas_check.proofs.Halvings.{halvings-least, halvings-below}
use Rattle.farkas_check.proofs.factors.halvings_of.Goals as goal

pub returns-clause-value : goal.returns-clause-value
returns-clause-value c = c.saturating_sub.ensures ∙ halvings-least c.args.size (omega arith)

pub returns-clause-below : goal.returns-clause-below
returns-clause-below c = subst (λ z. c.args.size / 2 ^ z < 2 ^ 31) (sym c.saturating_sub.ensures) (halvings-below c.args.size (omega arith))
