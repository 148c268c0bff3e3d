use Rattle.std.proofs.Common.{◌≡◌, ◌≤◌, ◌^◌, get_or, unsigned_abs, SFits, to_z-of_z, pos, ◌*ℤ◌, length, sym, ◌∙◌, ap, arith}
use mir.Syntax.{w64}
use Rattle.set_rules.specs.Sum.{total}
use Rattle.set_rules.specs.Columns.{at, entry}
use Rattle.set_rules.proofs.Sums.{total-zero}
use Rattle.observer_step.proofs.Products.{product_fits, sum_fits, next_total, next_small}
use Rattle.observer_step.proofs.inputs.products.Given.{Over}
use Rattle.observer_step.proofs.inputs.products.Goals as goal
use Rattle.observer_step.proofs.inputs.products.Goals.{After-from}

pub loop-l-init : goal.loop-l-init
loop-l-init g c = record { so_far = sym (total-zero _); within = omega arith }

module _ (g : Over) (c : After-from g) where
  wide_is : c.from.result ≡ c.at.result
  wide_is = let fits : SFits w64 c.at.result = record { sfits = c.at.type_inv } in c.from.ensures ∙ to_z-of_z fits

  entry_small : unsigned_abs c.from.result ≤ 10 ^ 12
  entry_small = let same = ap unsigned_abs wide_is in let within = c.at.ensures.within in omega (arith, same, within)

  input_small : unsigned_abs (get_or c.args.u.now c.loop-l.l (pos 0)) ≤ 10 ^ 15
  input_small = c.requires.small c.loop-l.l (pos 0) c.loop-l-test.true

pub overflow_mul-sum : goal.overflow_mul-sum
overflow_mul-sum g c =
    let here = (goal.at.overflow_mul-sum g c).After-from in
    product_fits c.from.result (get_or c.args.u.now c.loop-l.l (pos 0)) (entry_small g here) (input_small g here)

pub overflow_add-sum : goal.overflow_add-sum
overflow_add-sum g c =
    let here = (goal.at.overflow_add-sum g c).After-from in
    sum_fits c.from.result (get_or c.args.u.now c.loop-l.l (pos 0)) (entry_small g here) (input_small g here)
    c.loop-l.l c.loop-l.sum-bits (let few = c.requires.few in omega arith) c.loop-l.invariant.within

pub loop-l-preserved : goal.loop-l-preserved
loop-l-preserved g c =
    let few = c.requires.few in
    let here = (goal.at.loop-l-preserved g c).After-from in
    record {
      so_far = next_total c.from.result (get_or c.args.u.now c.loop-l.l (pos 0)) (entry_small g here) (input_small g here)
          c.loop-l.l c.loop-l.sum-bits (omega arith) c.loop-l.invariant.within _ c.loop-l.invariant.so_far
          (λ i. (wide_is g here ∙ c.at.ensures.value) i *ℤ get_or c.args.u.now c.loop-l.l (pos 0));
      within = next_small c.from.result (get_or c.args.u.now c.loop-l.l (pos 0)) (entry_small g here) (input_small g here)
          c.loop-l.l c.loop-l.sum-bits (omega arith) c.loop-l.invariant.within;
    }

pub returns-clause-value : goal.returns-clause-value
returns-clause-value g c =
    let end : c.loop-l.l ≡ length c.args.u.now = omega arith in
    c.loop-l.invariant.so_far ∙ ap (λ n. total n (λ j. entry 4 c.args.m.now c.args.r j *ℤ at c.args.u.now j)) end

pub returns-clause-within : goal.returns-clause-within
returns-clause-within g c =
    let few = c.requires.few in
    let within = c.loop-l.invariant.within in
    omega arith
