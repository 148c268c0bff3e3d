use Rattle.std.proofs.Common.{◌≤◌, length, ℤ, ◌+ℤ◌, ◌-ℤ◌, unsigned_abs, SFits, to_z-of_z, ap, ◌∙◌, sym, subst, arith}
use Rattle.std.proofs.lemmas.Int.{ints}
use mir.Syntax.{w128}
use Rattle.set_rules.specs.Zono.{Zono, reach}
use Rattle.set_rules.specs.Columns.{at, column_entry}
use Rattle.set_rules.specs.Box.{hull as hull_of}
use Rattle.set_rules.proofs.Sums.{total-magnitudes-low}
use Rattle.set_rules.proofs.ReadingsHold.{hull-inside}
use Rattle.fixed_mat.proofs.Bits.{entry-one}
use Rattle.zono_set.specs.Holds.{HoldsState}
use Rattle.zono_set.proofs.Steps.{sum64, difference64}
use Rattle.zono_set.proofs.zono.Zono.hull.Given.{Over}
use Rattle.zono_set.proofs.zono.Zono.hull.Goals as goal
use Rattle.zono_set.proofs.zono.Zono.hull.Goals.{After-radius-radius}

between : (g : Over) (c : After-radius-radius g) → (unsigned_abs (hull_of c.args.self.now c.args.i).0 ≤ 1_000_000_000_000_000_000) × (unsigned_abs (hull_of c.args.self.now c.args.i).1 ≤ 1_000_000_000_000_000_000)
between g c =
    let low = total-magnitudes-low (length c.args.self.now.columns) (column_entry c.args.self.now.columns c.args.i) in
    let most = c.self.invariant.set.in_range c.args.i c.requires in
    let shown = ap (λ (z : Zono). reach z c.args.i) c.self.view_is in
    (omega (arith, ints), omega (arith, ints))

pub returns-clause-value : goal.returns-clause-value
returns-clause-value g c =
    let centre = c.at-centre.ensures.value ∙ entry-one c.self.inside.centre c.args.i ∙ ap (λ (z : Zono). at z.centre c.args.i) c.self.view_is in
    let x = c.at-centre.ensures.within in
    let y = c.radius-radius.ensures.within in
    let low : SFits w128 c.from.result = record { sfits = c.from.type_inv } in
    let high : SFits w128 c.from-2.result = record { sfits = c.from-2.type_inv } in
    let least = to_z-of_z low ∙ c.from.ensures ∙ difference64 c.at-centre.result c.radius-radius.result (omega (arith, x)) (omega (arith, y)) (omega (arith, ints, x, y)) in
    let greatest = to_z-of_z high ∙ c.from-2.ensures ∙ sum64 c.at-centre.result c.radius-radius.result (omega (arith, x)) (omega (arith, y)) (omega (arith, ints, x, y)) in
    (λ i. (least i, greatest i)) ∙ (λ i. (centre i -ℤ c.radius-radius.ensures.value i, centre i +ℤ c.radius-radius.ensures.value i))

pub returns-clause-low : goal.returns-clause-low
returns-clause-low g c =
    let value = returns-clause-value g c in
    subst (λ (ends : ℤ × ℤ). unsigned_abs ends.0 ≤ 1_000_000_000_000_000_000) (sym value) (between g (goal.at.returns-clause-low g c).After-radius-radius).0

pub returns-clause-high : goal.returns-clause-high
returns-clause-high g c =
    let value = returns-clause-value g c in
    subst (λ (ends : ℤ × ℤ). unsigned_abs ends.1 ≤ 1_000_000_000_000_000_000) (sym value) (between g (goal.at.returns-clause-high g c).After-radius-radius).1

pub returns-clause-holds : goal.returns-clause-holds
returns-clause-holds g c =
    let value = returns-clause-value g c in
    subst (HoldsState g.row.N c.args.self.now c.args.i) (sym value) (λ q x inside. hull-inside g.row.N q c.args.self.now x inside c.args.i c.requires)
