use Rattle.std.proofs.Common.{get_or, pos, rules, arith, sym, ◌∙◌, ◌*ℤ◌, SFits, to_z, to_z-of_z}
use Rattle.std.proofs.lemmas.Int.{ints}
use mir.Syntax.{w64, w128}
use Rattle.set_rules.specs.Columns.{at}
use Rattle.set_rules.proofs.Sums.{total-zero}
use Rattle.fixed_mat.proofs.Bits.{sum_on, next_sum}
use Rattle.row_drop.proofs.products.square_of.Goals as goal

pub loop-t-init : goal.loop-t-init
loop-t-init c = record { value = sym (total-zero _); within = omega arith }

pub loop-t-preserved : goal.loop-t-preserved
loop-t-preserved c =
    let fits : SFits w64 (get_or c.args.row.now c.loop-t.t (pos 0)) = search rules in
    let value = c.times-sum.ensures.value ∙ (λ i. to_z-of_z fits i *ℤ to_z-of_z fits i) in
    let small = c.times-sum.ensures.within in
    let before = c.loop-t.invariant.within in
    let short = c.requires.short in
    let more = c.loop-t-test.true in
    let sum = sum_on c.loop-t.sum-bits c.times-sum.result (omega arith) (omega arith) in
    record {
      value = sum ∙ next_sum (to_z w128 c.loop-t.sum-bits) c.times-sum.result c.loop-t.t
          (λ t. at c.args.row.now t *ℤ at c.args.row.now t) c.loop-t.invariant.value value;
      within = rw sum (omega (arith, ints));
    }
