use Rattle.std.proofs.Common.{◌≡◌, ◌+◌, ◌^◌, ◌≤◌, ◌<◌, length, get_or, pos, ◌+ℤ◌, ◌*ℤ◌, unsigned_abs, SFits, to_z, ap, ◌∙◌, sym, arith}
use Rattle.std.proofs.lemmas.Int.{ints}
use mir.Syntax.{w64, w128}
use Rattle.set_rules.specs.Sum.{magnitude}
use Rattle.set_rules.specs.Columns.{entry, at, column_entry}
use Rattle.set_rules.specs.Zono.{Zono, reach}
use Rattle.set_rules.proofs.Sums.{total-zero, total-magnitudes-low}
use Rattle.set_rules.proofs.ImageSets.{length-tabulate, get_or-tabulate}
use Rattle.fixed_mat.proofs.Bits.{back, small_fits, sum_on, next_sum, whole_sum}
use Rattle.zono_set.proofs.Steps.{abs_of, abs64, back64, bound_back, bound_fits}
use Rattle.zono_set.proofs.zono.Zono.reach_bound.Given.{Over}
use Rattle.zono_set.proofs.zono.Zono.reach_bound.Goals as goal
use Rattle.zono_set.proofs.zono.Zono.reach_bound.Goals.{After-abs, After-noise_reach}

spot : (g : Over) (c : After-abs g) → c.loop-l.l < length c.args.reaches.now
spot g c = let long = ap length c.requires.reaches ∙ length-tabulate g.row.N (reach c.args.self.now) in omega arith

reach_is : (g : Over) (c : After-abs g) → get_or c.args.reaches.now c.loop-l.l (pos 0) ≡ reach c.args.self.now c.loop-l.l
reach_is g c = ap (λ xs. get_or xs c.loop-l.l (pos 0)) c.requires.reaches ∙ get_or-tabulate g.row.N (reach c.args.self.now) c.loop-l.l (pos 0) c.loop-l-test.true

reach_small : (g : Over) (c : After-abs g) → unsigned_abs (get_or c.args.reaches.now c.loop-l.l (pos 0)) ≤ 10 ^ 18
reach_small g c =
    let low = total-magnitudes-low (length c.args.self.now.columns) (column_entry c.args.self.now.columns c.loop-l.l) in
    let most = c.self.invariant.set.in_range c.loop-l.l c.loop-l-test.true in
    let shown = ap (λ (z : Zono). reach z c.loop-l.l) c.self.view_is in
    let is = reach_is g c in
    omega (arith, ints)

size_small : (g : Over) (c : After-abs g) → (unsigned_abs c.abs.result ≤ 10 ^ 12) × (c.abs.result ≡ magnitude (entry g.row.N c.args.a.now c.args.i c.loop-l.l))
size_small g c =
    let small = c.at.ensures.within in
    let whole : SFits w64 c.at.result = record { sfits = c.at.type_inv } in
    let is = abs64 c.at.result (entry g.row.N c.args.a.now c.args.i c.loop-l.l) c.abs.result whole c.abs.ensures.value c.at.ensures.value in
    let value = ap unsigned_abs c.at.ensures.value in
    (omega (arith, ints), is)

pub loop-l-init : goal.loop-l-init
loop-l-init g c = record { so_far = sym (total-zero _); within = omega arith }

pub offset_bounds-reaches-l : goal.offset_bounds-reaches-l
offset_bounds-reaches-l g c = let high = c.len-count.ensures.height_small in omega arith

pub bounds-reaches-l : goal.bounds-reaches-l
bounds-reaches-l g c = spot g c

pub times-sum-requires-clause-left : goal.times-sum-requires-clause-left
times-sum-requires-clause-left g c =
    let size = (size_small g (goal.at.times-sum-requires-clause-left g c).After-abs).0 in
    rw (back64 c.abs.result (omega arith)) (omega arith)

pub times-sum-requires-clause-right : goal.times-sum-requires-clause-right
times-sum-requires-clause-right g c =
    let size = reach_small g (goal.at.times-sum-requires-clause-right g c).After-abs in
    rw (back64 (get_or c.args.reaches.now c.loop-l.l (pos 0)) (omega arith)) size

pub overflow_add-sum : goal.overflow_add-sum
overflow_add-sum g c =
    let small = c.times-sum.ensures.within in
    let before = c.loop-l.invariant.within in
    let high = c.len-count.ensures.height_small in
    rw (back c.times-sum.result (omega arith)) (small_fits (to_z w128 c.loop-l.sum-bits +ℤ c.times-sum.result) (omega (arith, ints)))

pub loop-l-preserved : goal.loop-l-preserved
loop-l-preserved g c =
    let here = (goal.at.loop-l-preserved g c).After-abs in
    let high = c.len-count.ensures.height_small in
    let small = c.times-sum.ensures.within in
    let before = c.loop-l.invariant.within in
    let sum = sum_on c.loop-l.sum-bits c.times-sum.result (omega arith) (omega arith) in
    let left = back64 c.abs.result (let h = (size_small g here).0 in omega arith) ∙ (size_small g here).1 in
    let right = back64 (get_or c.args.reaches.now c.loop-l.l (pos 0)) (let h = reach_small g here in omega arith) ∙ reach_is g here in
    record {
      so_far = sum ∙ next_sum (to_z w128 c.loop-l.sum-bits) c.times-sum.result c.loop-l.l (λ j. magnitude (entry g.row.N c.args.a.now c.args.i j) *ℤ reach c.args.self.now j) c.loop-l.invariant.so_far (c.times-sum.ensures.value ∙ (λ i. left i *ℤ right i));
      within = rw sum (omega (arith, ints));
    }

shift_small : (g : Over) (c : After-noise_reach g) → (unsigned_abs c.abs-2.result ≤ 10 ^ 33) × (c.abs-2.result ≡ magnitude (at c.args.shift.now c.args.i))
shift_small g c =
    let small = c.at-2.ensures.within in
    let is = abs_of c.at-2.result (at c.args.shift.now c.args.i) c.abs-2.result (omega arith) c.abs-2.ensures.value c.at-2.ensures.value in
    let value = ap unsigned_abs c.at-2.ensures.value in
    (omega (arith, ints), is)

sum_small : (g : Over) (c : After-noise_reach g) → unsigned_abs (to_z w128 c.loop-l.sum-bits) ≤ 10 ^ 33
sum_small g c = let high = c.len-count.ensures.height_small in let within = c.loop-l.invariant.within in omega arith

pub overflow_add-result-4 : goal.overflow_add-result-4
overflow_add-result-4 g c =
    let here = (goal.at.overflow_add-result-4 g c).After-noise_reach in
    bound_fits c.loop-l.sum-bits c.abs-2.result c.len-count.result c.noise_reach.result (sum_small g here) (shift_small g here).0 c.len-count.ensures.few (let h = c.noise_reach.ensures.within in omega arith)

pub returns : goal.returns
returns g c =
    let end : c.loop-l.l ≡ g.row.N = omega arith in
    let here = (goal.at.returns g c).After-noise_reach in
    let count = c.len-count.ensures.value ∙ ap (λ (z : Zono). length z.columns) c.self.view_is in
    bound_back c.loop-l.sum-bits c.abs-2.result c.len-count.result c.noise_reach.result (sum_small g here) (shift_small g here).0 c.len-count.ensures.few (let h = c.noise_reach.ensures.within in omega arith)
    ∙ (λ i. whole_sum (to_z w128 c.loop-l.sum-bits) c.loop-l.l g.row.N (λ j. magnitude (entry g.row.N c.args.a.now c.args.i j) *ℤ reach c.args.self.now j) c.loop-l.invariant.so_far end i
    +ℤ (shift_small g here).1 i +ℤ pos 1_000_000_000 *ℤ (pos (count i + 2) +ℤ c.noise_reach.ensures.value i))
