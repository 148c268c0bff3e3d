use Rattle.std.proofs.Common.{◌≡◌, unsigned_abs, SFits, to_z, to_z-of_z, ap, sym, ◌∙◌, length, arith}
use Rattle.std.proofs.lemmas.Int.{ints}
use mir.Syntax.{w64, w128}
use Rattle.set_rules.specs.Columns.{column_entry, row_magnitude}
use Rattle.set_rules.proofs.Sums.{total-zero, total-magnitudes-low}
use Rattle.fixed_mat.proofs.Bits.{sum_on, next_sum}
use Rattle.zono_set.proofs.zono.Zono.spread.Goals as goal

pub loop-i-init : goal.loop-i-init
loop-i-init g c = record { sum = sym (total-zero _); low = omega (arith, ints); high = omega (arith, ints) }

pub loop-i-preserved : goal.loop-i-preserved
loop-i-preserved g c =
    let few = c.len.ensures.height_small in
    let test = c.loop-i-test.true in
    let within = c.radius.ensures.within in
    let natural = total-magnitudes-low (length c.args.self.now.columns) (column_entry c.args.self.now.columns c.loop-i.i) in
    let is = c.radius.ensures.value in
    let low = c.loop-i.invariant.low in
    let high = c.loop-i.invariant.high in
    let fits : SFits w64 c.radius.result = record { sfits = c.radius.type_inv } in
    let same : c.from-sum.result ≡ c.radius.result = c.from-sum.ensures ∙ to_z-of_z fits in
    let size = ap unsigned_abs same in
    let sum = sum_on c.loop-i.sum-bits c.from-sum.result (omega (arith, ints, within, few, test, low, high)) (omega (arith, size, within)) in
    record {
      sum = sum ∙ next_sum (to_z w128 c.loop-i.sum-bits) c.from-sum.result c.loop-i.i (row_magnitude c.args.self.now.columns) c.loop-i.invariant.sum (same ∙ is);
      low = omega (arith, ints);
      high = omega (arith, ints);
    }
