use Rattle.std.proofs.Common.{◌≡◌, [], ◌≤◌, get_or, ℤ, pos, ◌+ℤ◌, unsigned_abs, to_z, of_z, ap, ◌∙◌, arith}
use Rattle.std.proofs.lemmas.Int.{ints}
use mir.Syntax.{w64, w128}
use Rattle.set_rules.specs.Sum.{total, magnitude}
use Rattle.set_rules.specs.Columns.{at, entry}
use Rattle.set_rules.proofs.Sums.{total-magnitudes-low}
use Rattle.fixed_mat.proofs.Bits.{sum_three}
use Rattle.fixed_mat.proofs.Columns.{pushes}
use Rattle.zono_set.proofs.Steps.{fits64, back64}
use Rattle.zono_set.proofs.zono.image.radii_after.Given.{Over}
use Rattle.zono_set.proofs.zono.image.radii_after.Goals as goal
use Rattle.zono_set.proofs.zono.image.radii_after.Goals.{After-from-in-loop-i}

module _ (g : Over) (c : After-from-in-loop-i g) where
  abbrev radius : ℤ
  radius = pos (get_or c.args.sizes.now c.loop-i.i 0) +ℤ total c.args.w (λ t. magnitude (entry 8 c.args.e.now c.loop-i.i t)) +ℤ at c.args.slack.now c.loop-i.i

  radius_small : unsigned_abs radius ≤ 1_000_000_000_000_000_000
  radius_small =
      let most = c.requires.within c.loop-i.i c.loop-i-test.true in
      let low = c.requires.low c.loop-i.i c.loop-i-test.true in
      let noise = total-magnitudes-low c.args.w (entry 8 c.args.e.now c.loop-i.i) in
      omega (arith, ints, most, low, noise)

  slack_small : unsigned_abs (at c.args.slack.now c.loop-i.i) ≤ 1_000_000_000_000_000_000
  slack_small =
      let most = c.requires.within c.loop-i.i c.loop-i-test.true in
      let low = c.requires.low c.loop-i.i c.loop-i-test.true in
      let noise = total-magnitudes-low c.args.w (entry 8 c.args.e.now c.loop-i.i) in
      omega (arith, ints, most, low, noise)

  slack_is : c.from-in-loop-i.result ≡ at c.args.slack.now c.loop-i.i
  slack_is = let h = slack_small in c.from-in-loop-i.ensures ∙ back64 (at c.args.slack.now c.loop-i.i) (omega (arith, h))

  sum_is : to_z w128 (of_z w128 (to_z w128 (of_z w128 (to_z w128 (of_z w128 c.from.result) +ℤ to_z w128 (of_z w128 c.noise_reach.result))) +ℤ to_z w128 (of_z w128 c.from-in-loop-i.result))) ≡ radius
  sum_is =
      let most = c.requires.within c.loop-i.i c.loop-i-test.true in
      let low = c.requires.low c.loop-i.i c.loop-i-test.true in
      let total_low = total-magnitudes-low c.args.w (entry 8 c.args.e.now c.loop-i.i) in
      let from = c.from.ensures in
      let noise = c.noise_reach.ensures.within in
      let slack = ap unsigned_abs slack_is in
      let small = slack_small in
      sum_three c.from.result c.noise_reach.result c.from-in-loop-i.result (omega (arith, ints, most, low, total_low, from)) (omega (arith, noise)) (omega (arith, slack, small))
      ∙ (λ ι. c.from.ensures ι +ℤ c.noise_reach.ensures.value ι +ℤ slack_is ι)

pub overflow_cast-from : goal.overflow_cast-from
overflow_cast-from g c =
    let small = radius_small g c in
    rw (sum_is g c) (fits64 (radius g c) (omega (arith, small)))

pub loop-i-preserved : goal.loop-i-preserved
loop-i-preserved g c =
    let here = (goal.at.loop-i-preserved g c).After-from-in-loop-i in
    let small = radius_small g here in
    pushes [] _ _ _ _ _ c.loop-i.invariant c.push.ensures.items (ap (λ z. to_z w64 (of_z w64 z)) (sum_is g here) ∙ back64 (radius g here) (omega (arith, small)))
