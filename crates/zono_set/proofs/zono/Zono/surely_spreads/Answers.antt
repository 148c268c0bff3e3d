use Rattle.std.proofs.Common.{◌≡◌, pos, ◌+ℤ◌, ◌*ℤ◌, to_z, of_z, to_z-of_z, SFits, rules, sym, ap, ◌∙◌, arith}
use Rattle.std.proofs.lemmas.Int.{ints}
use mir.Syntax.{w64, w128}
use Rattle.set_rules.specs.Sum.{magnitude}
use Rattle.set_rules.specs.Columns.{at}
use Rattle.set_rules.specs.Zono.{Zono}
use Rattle.set_rules.proofs.Sums.{total-zero}
use Rattle.fixed_mat.proofs.Bits.{back, sum_on, entry-one, next_sum, whole_sum}
use Rattle.zono_set.proofs.Steps.{back64}
use Rattle.zono_set.proofs.Unrounded.{raw_size, spreads}
use Rattle.zono_set.proofs.zono.Zono.surely_spreads.Given.{Over}
use Rattle.zono_set.proofs.zono.Zono.surely_spreads.Goals as goal
use Rattle.zono_set.proofs.zono.Zono.surely_spreads.Goals.{After-widened_size-sum}

pub loop-i-init : goal.loop-i-init
loop-i-init g c = record { so_far = sym (total-zero _); within = omega arith }

module _ (g : Over) (c : After-widened_size-sum g) where
  size_fits : SFits w64 (at c.unrounded_sizes-sizes.result c.loop-i.i)
  size_fits = search rules

  term_is : c.widened_size-sum.result ≡ raw_size c.args.gain.now c.args.a.now c.args.self.now c.loop-i.i
  term_is =
      let gain = back64 c.at.result (let h = c.at.ensures.within in omega arith) ∙ c.at.ensures.value ∙ entry-one c.args.gain.now c.loop-i.i in
      let symbol = back c.new_coefficient-of_symbol.result (let h = c.new_coefficient-of_symbol.ensures.within in omega arith) ∙ c.new_coefficient-of_symbol.ensures.value
      ∙ ap (λ k. magnitude (at c.args.a.now k)) c.len.ensures.value in
      let size = to_z-of_z size_fits ∙ c.unrounded_sizes-sizes.ensures c.loop-i.i c.loop-i-test.true in
      c.widened_size-sum.ensures.value ∙ (λ ι. size ι +ℤ magnitude (gain ι) *ℤ symbol ι)
      ∙ ap (λ (z : Zono). raw_size c.args.gain.now c.args.a.now z c.loop-i.i) c.self.view_is

  sum_on_is : to_z w128 (of_z w128 (to_z w128 c.loop-i.sum-bits +ℤ to_z w128 (of_z w128 c.widened_size-sum.result))) ≡ to_z w128 c.loop-i.sum-bits +ℤ c.widened_size-sum.result
  sum_on_is =
      let few = c.len.ensures.height_small in
      let test = c.loop-i-test.true in
      let so_far = c.loop-i.invariant.within in
      let one = c.widened_size-sum.ensures.within in
      sum_on c.loop-i.sum-bits c.widened_size-sum.result (omega arith) (omega arith)

pub loop-i-preserved : goal.loop-i-preserved
loop-i-preserved g c =
    let so_far = c.loop-i.invariant.within in
    let one = c.widened_size-sum.ensures.within in
    record {
      so_far = sum_on_is g c ∙ next_sum (to_z w128 c.loop-i.sum-bits) c.widened_size-sum.result c.loop-i.i (raw_size c.args.gain.now c.args.a.now c.args.self.now) c.loop-i.invariant.so_far (term_is g c);
      within = rw (sum_on_is g c) (omega (arith, ints));
    }

pub returns : goal.returns
returns g c test b =
    let low = c.requires.low in
    let high = c.requires.high in
    let most = ap (λ v. to_z w128 (of_z w128 (pos 1_000_000_000 *ℤ v))) (back c.args.before (omega (arith, ints))) ∙ back (pos 1_000_000_000 *ℤ c.args.before) (omega (arith, ints)) in
    let is = c.requires.before in
    let end : c.loop-i.i ≡ g.row.N = let last = c.loop-i-test.false in let top = c.loop-i.auto.i-end in omega arith in
    let sum = whole_sum (to_z w128 c.loop-i.sum-bits) c.loop-i.i g.row.N (raw_size c.args.gain.now c.args.a.now c.args.self.now) c.loop-i.invariant.so_far end in
    spreads c.args.gain.now c.args.a.now c.args.self.now c.requires.row g.row.N b (omega (arith, ints, most, is, test, sum))
