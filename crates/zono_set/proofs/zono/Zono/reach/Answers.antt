use Rattle.std.proofs.Common.{length, ◌+ℤ◌, unsigned_abs, SFits, ap, ◌∙◌, arith}
use Rattle.std.proofs.lemmas.Int.{ints}
use mir.Syntax.{w64}
use Rattle.set_rules.specs.Sum.{magnitude}
use Rattle.set_rules.specs.Zono.{Zono, reach}
use Rattle.set_rules.specs.Columns.{at, column_entry}
use Rattle.set_rules.proofs.Sums.{total-magnitudes-low}
use Rattle.fixed_mat.proofs.Bits.{entry-one}
use Rattle.zono_set.proofs.Steps.{abs64, sum64}
use Rattle.zono_set.proofs.zono.Zono.reach.Goals as goal

pub returns-clause-value : goal.returns-clause-value
returns-clause-value g c =
    let centre = c.at.ensures.value ∙ entry-one c.self.inside.centre c.args.i in
    let whole : SFits w64 c.at.result = record { sfits = c.at.type_inv } in
    let size = abs64 c.at.result (at c.self.inside.centre c.args.i) c.abs.result whole c.abs.ensures.value centre in
    let small = c.at.ensures.within in
    let is = ap unsigned_abs (c.at.ensures.value ∙ entry-one c.self.inside.centre c.args.i) in
    let within = c.radius.ensures.within in
    sum64 c.abs.result c.radius.result (omega (arith, ints, size, small, is)) (omega (arith, within)) (omega (arith, ints, size, small, is, within))
    ∙ (λ i. (size ∙ ap (λ (z : Zono). magnitude (at z.centre c.args.i)) c.self.view_is) i +ℤ c.radius.ensures.value i)

pub returns-clause-within : goal.returns-clause-within
returns-clause-within g c =
    let low = total-magnitudes-low (length c.args.self.now.columns) (column_entry c.args.self.now.columns c.args.i) in
    let most = c.self.invariant.set.in_range c.args.i c.requires in
    let shown = ap (λ (z : Zono). reach z c.args.i) c.self.view_is in
    let is = returns-clause-value g c in
    omega (arith, ints)
