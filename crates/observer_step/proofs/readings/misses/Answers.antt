use Rattle.std.proofs.Common.{◌≡◌, ◌≤◌, ◌^◌, ℤ, false, ◌+ℤ◌, ◌-ℤ◌, int_lt, unsigned_abs, SFits, to_z-of_z, sym, ap, ◌∙◌, arith, subst, rules}
use Rattle.std.proofs.lemmas.Int.{ints}
use mir.Syntax.{w128}
use Rattle.set_rules.specs.Strip.{misses}
use Rattle.fixed_mat.proofs.Bits.{sum_back}
use Rattle.zono_set.proofs.Steps.{difference_back}
use Rattle.plant_model.specs.Plant.{known, IsReading}
use Rattle.observer_step.specs.Predicted.{reading_misses}
use Rattle.observer_step.proofs.readings.misses.Goals as goal

-- the lower end decides where the value, with its slack, is not past the upper end
by-low : (low high v slack : ℤ) → int_lt high (v -ℤ slack) ≡ false → int_lt (v +ℤ slack) low ≡ misses (low, high) v slack
by-low low high v slack h = grind (arith, ints)

pub returns-else-ends-v : goal.returns-else-ends-v
returns-else-ends-v c =
    let v = c.in-Value.v in
    let slack = c.in-Value.slack in
    let limits = subst IsReading c.in-Value.is c.requires in
    let low : SFits w128 c.args.ends.0 = search rules in
    let high : SFits w128 c.args.ends.1 = search rules in
    let small : unsigned_abs v ≤ 10 ^ 36 = omega (arith, limits.0) in
    let slight : unsigned_abs slack ≤ 10 ^ 36 = omega (arith, ints, limits.1, limits.2) in
    (λ i. int_lt (sum_back v slack small slight i) (to_z-of_z low i))
    ∙ by-low c.args.ends.0 c.args.ends.1 v slack (sym (λ i. int_lt (to_z-of_z high i) (difference_back v slack small slight i)) ∙ c.if-ends-v.false)
    ∙ sym (ap (λ r. reading_misses c.args.ends (known r)) c.in-Value.is)
