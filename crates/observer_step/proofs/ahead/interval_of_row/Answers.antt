use Rattle.std.proofs.Common.{◌≡◌, ◌≤◌, ◌^◌, ℤ, pos, ◌+ℤ◌, ◌-ℤ◌, unsigned_abs, to_z, of_z, ap, ◌∙◌, arith}
use Rattle.std.proofs.lemmas.Int.{ints, to_z_pos}
use Rattle.std.specs.List.{sum_by}
use mir.Syntax.{w128}
use Rattle.fixed_mat.proofs.Bits.{back}
use Rattle.zono_set.proofs.Steps.{difference_back}
use Rattle.observer_step.proofs.ahead.interval_of_row.Goals as goal
use Rattle.observer_step.proofs.ahead.interval_of_row.Goals.{After-sum}

-- the ends come back from their bits
module _ (v right slack sum all : ℤ) (is : sum ≡ all) (hv : unsigned_abs v ≤ 10 ^ 18) (hr : unsigned_abs right ≤ 10 ^ 22) (hs : unsigned_abs slack ≤ 1) (ha : unsigned_abs all ≤ 10 ^ 22) where
  middle-is : to_z w128 (of_z w128 (to_z w128 (of_z w128 v) -ℤ to_z w128 (of_z w128 right))) ≡ v -ℤ right
  middle-is = difference_back v right (omega arith) (omega arith)

  half-is : to_z w128 (of_z w128 (sum -ℤ to_z w128 (of_z w128 slack))) ≡ all -ℤ slack
  half-is = ap (λ z. to_z w128 (of_z w128 z)) (λ i. is i -ℤ back slack (omega arith) i) ∙ back (all -ℤ slack) (omega (arith, ints))

  low-is : to_z w128 (of_z w128 (to_z w128 (of_z w128 (to_z w128 (of_z w128 v) -ℤ to_z w128 (of_z w128 right))) -ℤ to_z w128 (of_z w128 (sum -ℤ to_z w128 (of_z w128 slack))))) ≡ v -ℤ right -ℤ (all -ℤ slack)
  low-is = ap (λ z. to_z w128 (of_z w128 z)) (λ i. middle-is i -ℤ half-is i) ∙ back (v -ℤ right -ℤ (all -ℤ slack)) (omega (arith, ints))

  high-is : to_z w128 (of_z w128 (to_z w128 (of_z w128 (to_z w128 (of_z w128 v) -ℤ to_z w128 (of_z w128 right))) +ℤ to_z w128 (of_z w128 (sum -ℤ to_z w128 (of_z w128 slack))))) ≡ v -ℤ right +ℤ (all -ℤ slack)
  high-is = ap (λ z. to_z w128 (of_z w128 z)) (λ i. middle-is i +ℤ half-is i) ∙ back (v -ℤ right +ℤ (all -ℤ slack)) (omega (arith, ints))

sum-is : (c : After-sum) → to_z w128 c.sum.result ≡ pos (sum_by unsigned_abs c.args.row.now)
sum-is c = let within = c.sum.ensures.within in to_z_pos w128 c.sum.result (omega arith) ∙ ap pos c.sum.ensures.value

pub returns-clause-value : goal.returns-clause-value
returns-clause-value c =
    let slight = c.requires.slack_high in
    let low = c.requires.slack_low in
    let within = c.sum.ensures.within in
    let value = c.sum.ensures.value in
    let is = sum-is (goal.at.returns-clause-value c).After-sum in
    λ i. (
      low-is c.args.v c.args.right c.args.slack _ (pos (sum_by unsigned_abs c.args.row.now)) is c.requires.reading c.requires.right (omega (arith, ints)) (omega arith) i,
      high-is c.args.v c.args.right c.args.slack _ (pos (sum_by unsigned_abs c.args.row.now)) is c.requires.reading c.requires.right (omega (arith, ints)) (omega arith) i,
    )
