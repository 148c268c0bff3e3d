use Rattle.std.proofs.Common.{◌≡◌, of_z, get_or, pos, rules, arith, sym, ap, ◌∙◌, ◌+ℤ◌, ◌*ℤ◌, ◌^◌, SFits, to_z, to_z-of_z, unsigned_abs}
use Rattle.std.proofs.lemmas.Int.{ints}
use mir.Syntax.{w64, w128}
use Rattle.set_rules.specs.Columns.{at, column_entry}
use Rattle.set_rules.specs.Gain.{shrunk_value, greatest_entry}
use Rattle.set_rules.proofs.Sums.{total-zero}
use Rattle.set_rules.proofs.Greatest.{greatest_entry-at}
use Rattle.fixed_mat.proofs.Bits.{back, small_fits, sum_on, next_sum}
use Rattle.row_drop.proofs.Shrinking.{shrinks}
use Rattle.row_drop.proofs.products.product_of.Given.{Over}
use Rattle.row_drop.proofs.products.product_of.Goals as goal
use Rattle.row_drop.proofs.products.product_of.Goals.{After-from-entry}

pub loop-t-init : goal.loop-t-init
loop-t-init g c = record { value = sym (total-zero _); within = omega arith }

entry_is : (g : Over) (c : After-from-entry g)
    → to_z w128 (of_z w128 c.from-entry.result) ≡ column_entry c.args.cols.now c.args.i c.loop-t.t
entry_is g c =
    let fits : SFits w64 c.at.result = record { sfits = c.at.type_inv } in
    let whole : SFits w128 c.from-entry.result = record { sfits = c.from-entry.type_inv } in
    to_z-of_z whole ∙ c.from-entry.ensures ∙ to_z-of_z fits ∙ c.at.ensures.value

pub shrunk-requires-clause-below : goal.shrunk-requires-clause-below
shrunk-requires-clause-below g c =
    let size = ap unsigned_abs (entry_is g (goal.at.shrunk-requires-clause-below g c).After-from-entry) in
    let most = greatest_entry-at c.args.cols.now c.args.i c.loop-t.t in
    rw size (shrinks _ (greatest_entry c.args.cols.now) c.args.halvings (2 ^ 40) most c.requires.below)

pub overflow_add-sum : goal.overflow_add-sum
overflow_add-sum g c =
    let small = c.times-sum.ensures.within in
    let before = c.loop-t.invariant.within in
    let few = c.len-t-end.ensures.few in
    let more = c.loop-t-test.true in
    rw (back c.times-sum.result (omega arith)) (small_fits (to_z w128 c.loop-t.sum-bits +ℤ c.times-sum.result) (omega (arith, ints)))

pub loop-t-preserved : goal.loop-t-preserved
loop-t-preserved g c =
    let shrunk_fits : SFits w64 c.shrunk.result = record { sfits = c.shrunk.type_inv } in
    let fits : SFits w64 (get_or c.args.row.now c.loop-t.t (pos 0)) = search rules in
    let entry = entry_is g (goal.at.loop-t-preserved g c).After-from-entry in
    let left = to_z-of_z shrunk_fits ∙ c.shrunk.ensures.value ∙ ap (shrunk_value c.args.halvings) entry in
    let value = c.times-sum.ensures.value ∙ (λ i. left i *ℤ to_z-of_z fits i) in
    let small = c.times-sum.ensures.within in
    let before = c.loop-t.invariant.within in
    let few = c.len-t-end.ensures.few in
    let more = c.loop-t-test.true in
    let sum = sum_on c.loop-t.sum-bits c.times-sum.result (omega arith) (omega arith) in
    record {
      value = sum ∙ next_sum (to_z w128 c.loop-t.sum-bits) c.times-sum.result c.loop-t.t
          (λ t. shrunk_value c.args.halvings (column_entry c.args.cols.now c.args.i t) *ℤ at c.args.row.now t) c.loop-t.invariant.value value;
      within = rw sum (omega (arith, ints));
    }
