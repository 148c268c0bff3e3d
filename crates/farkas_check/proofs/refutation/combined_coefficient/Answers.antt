use Rattle.std.proofs.Common.{◌≡◌, ◌<◌, ◌*ℤ◌, pos, get_or, SFits, to_z-of_z, sym, ◌∙◌, rules, arith}
use mir.Syntax.{w32, w128}
use Rattle.set_rules.specs.Columns.{at}
use Rattle.set_rules.specs.Farkas.{coefficient}
use Rattle.set_rules.proofs.Sums.{total-zero}
use Rattle.farkas_check.proofs.Sums128.{more-fits, more-total, more-within}
use Rattle.farkas_check.proofs.refutation.combined_coefficient.Goals as goal
use Rattle.farkas_check.proofs.refutation.combined_coefficient.Goals.{After-multiplied-sum}

pub loop-r-init : goal.loop-r-init
loop-r-init c = record { value = sym (total-zero _); within = search rules }

module _ (c : After-multiplied-sum) where
  few : c.loop-r.r < 6
  few = omega arith

  one : c.multiplied-sum.result ≡ at c.args.list.now c.loop-r.r *ℤ coefficient c.args.rows.now.rows c.loop-r.r c.args.t
  one =
      let multiplier : SFits w32 (get_or c.args.list.now c.loop-r.r (pos 0)) = search rules in
      let number : SFits w128 c.coef.result = record { sfits = c.coef.type_inv } in
      c.multiplied-sum.ensures.value ∙ (λ i. to_z-of_z multiplier i *ℤ (to_z-of_z number ∙ c.coef.ensures.value) i)

pub overflow_add-sum : goal.overflow_add-sum
overflow_add-sum c = more-fits c.loop-r.r c.loop-r.sum-bits c.multiplied-sum.result (few c) c.loop-r.invariant.within c.multiplied-sum.ensures.within

pub loop-r-preserved : goal.loop-r-preserved
loop-r-preserved c = record {
  value = more-total c.loop-r.r c.loop-r.sum-bits c.multiplied-sum.result (few c) c.loop-r.invariant.within c.multiplied-sum.ensures.within
      (λ r. at c.args.list.now r *ℤ coefficient c.args.rows.now.rows r c.args.t) c.loop-r.invariant.value (one c);
  within = more-within c.loop-r.r c.loop-r.sum-bits c.multiplied-sum.result (few c) c.loop-r.invariant.within c.multiplied-sum.ensures.within;
}
