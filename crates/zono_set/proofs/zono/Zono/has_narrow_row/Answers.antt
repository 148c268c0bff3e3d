use Rattle.std.proofs.Common.{◌≡◌, ◌^◌, ◌≤◌, ◌+ℤ◌, ◌*ℤ◌, unsigned_abs, SFits, to_z, ap, ◌∙◌, sym, arith}
use Rattle.std.proofs.lemmas.Int.{ints}
use mir.Syntax.{w64, w128}
use Rattle.set_rules.specs.Sum.{magnitude}
use Rattle.set_rules.specs.Columns.{entry, row_magnitude}
use Rattle.set_rules.proofs.Sums.{total-zero}
use Rattle.fixed_mat.proofs.Bits.{back, small_fits, sum_on, next_sum, whole_sum}
use Rattle.zono_set.proofs.Steps.{abs64, back64}
use Rattle.zono_set.proofs.Narrow.{narrow-by-radii}
use Rattle.zono_set.proofs.zono.Zono.has_narrow_row.Given.{Over}
use Rattle.zono_set.proofs.zono.Zono.has_narrow_row.Goals as goal
use Rattle.zono_set.proofs.zono.Zono.has_narrow_row.Goals.{After-radius}

size_small : (g : Over) (c : After-radius g) → (unsigned_abs c.abs.result ≤ 10 ^ 12) × (c.abs.result ≡ magnitude (entry g.row.N c.args.a.now c.args.r c.loop-l.l))
size_small g c =
    let small = c.at.ensures.within in
    let whole : SFits w64 c.at.result = record { sfits = c.at.type_inv } in
    let is = abs64 c.at.result (entry g.row.N c.args.a.now c.args.r c.loop-l.l) c.abs.result whole c.abs.ensures.value c.at.ensures.value in
    let value = ap unsigned_abs c.at.ensures.value in
    (omega (arith, ints), is)

pub loop-l-init : goal.loop-l-init
loop-l-init g c = record { so_far = sym (total-zero _); within = omega arith }

pub times-sum-requires-clause-left : goal.times-sum-requires-clause-left
times-sum-requires-clause-left g c =
    let size = (size_small g (goal.at.times-sum-requires-clause-left g c).After-radius).0 in
    rw (back64 c.abs.result (omega arith)) (omega arith)

pub overflow_add-sum : goal.overflow_add-sum
overflow_add-sum g c =
    let small = c.times-sum.ensures.within in
    let before = c.loop-l.invariant.within in
    let high = c.len.ensures.height_small in
    rw (back c.times-sum.result (omega arith)) (small_fits (to_z w128 c.loop-l.sum-bits +ℤ c.times-sum.result) (omega (arith, ints)))

pub loop-l-preserved : goal.loop-l-preserved
loop-l-preserved g c =
    let here = (goal.at.loop-l-preserved g c).After-radius in
    let high = c.len.ensures.height_small in
    let small = c.times-sum.ensures.within in
    let before = c.loop-l.invariant.within in
    let sum = sum_on c.loop-l.sum-bits c.times-sum.result (omega arith) (omega arith) in
    let left = back64 c.abs.result (let h = (size_small g here).0 in omega arith) ∙ (size_small g here).1 in
    let right = back64 c.radius.result (let h = c.radius.ensures.within in omega arith) ∙ c.radius.ensures.value in
    record {
      so_far = sum ∙ next_sum (to_z w128 c.loop-l.sum-bits) c.times-sum.result c.loop-l.l (λ j. magnitude (entry g.row.N c.args.a.now c.args.r j) *ℤ row_magnitude c.args.self.now.columns j) c.loop-l.invariant.so_far (c.times-sum.ensures.value ∙ (λ i. left i *ℤ right i));
      within = rw sum (omega (arith, ints));
    }

pub returns : goal.returns
returns g c test =
    let end : c.loop-l.l ≡ g.row.N = omega arith in
    let sum = whole_sum (to_z w128 c.loop-l.sum-bits) c.loop-l.l g.row.N (λ j. magnitude (entry g.row.N c.args.a.now c.args.r j) *ℤ row_magnitude c.args.self.now.columns j) c.loop-l.invariant.so_far end in
    narrow-by-radii g.row.N c.args.a.now c.args.r c.args.self.now.columns (omega (arith, ints))
