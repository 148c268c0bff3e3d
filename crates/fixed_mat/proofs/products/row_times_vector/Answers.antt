use Rattle.std.proofs.Common.{arith, sym, ◌∙◌, ◌*ℤ◌, ◌+ℤ◌, SFits, to_z, to_z-of_z}
use Rattle.std.proofs.lemmas.Int.{ints}
use mir.Syntax.{w64, w128}
use Rattle.set_rules.specs.Columns.{at, entry}
use Rattle.set_rules.proofs.Sums.{total-zero}
use Rattle.fixed_mat.proofs.Bits.{back, small_fits, sum_on, next_sum, entry-one}
use Rattle.fixed_mat.proofs.products.row_times_vector.Goals as goal

pub loop-l-init : goal.loop-l-init
loop-l-init g c = record { so_far = sym (total-zero _); within = omega arith }

pub overflow_add-sum : goal.overflow_add-sum
overflow_add-sum g c =
    let small = c.times-sum.ensures.within in
    let before = c.loop-l.invariant.within in
    rw (back c.times-sum.result (omega arith)) (small_fits (to_z w128 c.loop-l.sum-bits +ℤ c.times-sum.result) (omega (arith, ints)))

pub loop-l-preserved : goal.loop-l-preserved
loop-l-preserved g c =
    let small = c.times-sum.ensures.within in
    let before = c.loop-l.invariant.within in
    let sum = sum_on c.loop-l.sum-bits c.times-sum.result (omega arith) (omega arith) in
    let first : SFits w64 c.at.result = record { sfits = c.at.type_inv } in
    let second : SFits w64 c.at-in-loop-l.result = record { sfits = c.at-in-loop-l.type_inv } in
    let left = to_z-of_z first ∙ c.at.ensures.value in
    let right = to_z-of_z second ∙ c.at-in-loop-l.ensures.value ∙ entry-one c.args.x.now c.loop-l.l in
    record {
      so_far = sum ∙ next_sum (to_z w128 c.loop-l.sum-bits) c.times-sum.result c.loop-l.l (λ j. entry g.row.N c.args.a.now c.args.r j *ℤ at c.args.x.now j) c.loop-l.invariant.so_far (c.times-sum.ensures.value ∙ (λ i. left i *ℤ right i));
      within = rw sum (omega (arith, ints));
    }
