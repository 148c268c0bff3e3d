use Rattle.std.proofs.Common.{◌≤◌, length, sym, ap, ◌∙◌, arith, subst, unsigned_abs}
use Rattle.std.specs.List.{All}
use Rattle.set_rules.specs.Limits.{coef}
use Rattle.row_drop.proofs.Plain.{gain-long}
use Rattle.row_drop.proofs.gains.gain_within.Goals as goal

pub replace-requires : goal.replace-requires
replace-requires g c =
    let long = ap length (c.deref.ensures.0 ∙ c.gains_of-gains.ensures.value) ∙ gain-long g.row.N c.args.cols.now c.args.a.now in
    (omega arith, (omega arith, subst (All (λ z. unsigned_abs z ≤ coef)) (sym c.deref.ensures.0) c.gains_of-gains.ensures.within))

pub returns : goal.returns
returns g c = c.replace.ensures ∙ c.deref.ensures.0 ∙ c.gains_of-gains.ensures.value
