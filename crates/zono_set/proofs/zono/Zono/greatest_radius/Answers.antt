use Rattle.std.proofs.Common.{◌≡◌, length, pos, unsigned_abs, to_z, of_z, arith, ap, ◌∙◌}
use Rattle.std.proofs.lemmas.Int.{ints}
use mir.Syntax.{w64}
use Rattle.set_rules.specs.Columns.{column_entry, row_magnitude, tabulate}
use Rattle.set_rules.specs.Reduce.{greatest}
use Rattle.set_rules.proofs.Sums.{total-magnitudes-low}
use Rattle.zono_set.proofs.Steps.{back64}
use Rattle.zono_set.proofs.Kept.{greatest-tabulate, entries-within}
use Rattle.zono_set.proofs.zono.Zono.greatest_radius.Goals as goal

pub overflow_cast-radius : goal.overflow_cast-radius
overflow_cast-radius g c =
    let natural = total-magnitudes-low (length c.args.self.now.columns) (column_entry c.args.self.now.columns c.loop-i.i) in
    let within = c.radius.ensures.within in
    let value = c.radius.ensures.value in
    let is : to_z w64 (of_z w64 c.radius.result) ≡ pos (unsigned_abs c.radius.result) =
    back64 c.radius.result (omega (arith, within)) ∙ (let same : c.radius.result ≡ pos (unsigned_abs c.radius.result) = omega (arith, ints, natural, value) in same) in
    rw is (tt, record { fits = omega (arith, within) })

pub loop-i-preserved : goal.loop-i-preserved
loop-i-preserved g c =
    let more = greatest-tabulate c.loop-i.i (row_magnitude c.args.self.now.columns) in
    let within = c.radius.ensures.within in
    let radius = ap unsigned_abs c.radius.ensures.value in
    let size = ap unsigned_abs (back64 c.radius.result (omega arith) ∙ c.radius.ensures.value) in
    let before = c.loop-i.invariant.value in
    let small = c.loop-i.invariant.within in
    let max_is = c.max-greatest.ensures in
    record { value = omega arith; within = omega arith }

pub returns-clause-entries : goal.returns-clause-entries
returns-clause-entries g c i t h =
    let end : c.loop-i.i ≡ g.row.N = omega arith in
    let is = c.loop-i.invariant.value ∙ ap (λ n. greatest (tabulate n (row_magnitude c.args.self.now.columns))) end in
    let one = entries-within g.row.N c.args.self.now.columns i t h in
    omega arith
