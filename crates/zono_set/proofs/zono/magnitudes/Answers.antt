use Rattle.std.proofs.Common.{[], ◌≤◌, length, unsigned_abs, arith, ap, ◌∙◌}
use Rattle.std.proofs.lemmas.Int.{ints}
use Rattle.std.proofs.lemmas.List.FromFn.{length-map-range_with_len}
use Rattle.set_rules.specs.Columns.{column_entry, row_magnitude}
use Rattle.set_rules.proofs.Sums.{total-magnitudes-low}
use Rattle.fixed_mat.proofs.Columns.{pushes}
use Rattle.zono_set.proofs.Steps.{narrow_fits, narrowed}
use Rattle.zono_set.proofs.zono.magnitudes.Given.{Over}
use Rattle.zono_set.proofs.zono.magnitudes.Goals as goal
use Rattle.zono_set.proofs.zono.magnitudes.Goals.{After-mag}

pub push-requires : goal.push-requires
push-requires g c =
    let long = ap length c.loop-i.invariant ∙ length-map-range_with_len _ 0 c.loop-i.i in
    let small = c.len.ensures.height_small in
    (omega arith, omega arith)

module _ (g : Over) (c : After-mag g) where
  small : unsigned_abs (row_magnitude c.args.cols.now c.loop-i.i) ≤ 1_000_000_000_000_000_000
  small =
      let low = total-magnitudes-low (length c.args.cols.now) (column_entry c.args.cols.now c.loop-i.i) in
      let most = c.requires c.loop-i.i c.loop-i-test.true in
      omega (arith, ints, low, most)

pub overflow_cast-mag : goal.overflow_cast-mag
overflow_cast-mag g c = let h = small g c in narrow_fits c.mag.result (row_magnitude c.args.cols.now c.loop-i.i) c.mag.ensures.value (omega (arith, h))

pub loop-i-preserved : goal.loop-i-preserved
loop-i-preserved g c =
    let h = small g (goal.at.loop-i-preserved g c).After-mag in
    pushes [] _ _ _ _ _ c.loop-i.invariant c.push.ensures.items (narrowed c.mag.result (row_magnitude c.args.cols.now c.loop-i.i) c.mag.ensures.value (omega (arith, h)))
