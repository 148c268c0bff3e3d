use Rattle.std.proofs.Common.{◌≡◌, ℕ, ◌<◌, [], ℤ, ◌+ℤ◌, unsigned_abs, SFits, to_z, of_z, to_z-of_z, ap, ◌∙◌, sym, subst, arith, below_more}
use Rattle.std.proofs.lemmas.Int.{ints}
use mir.Syntax.{w64, w128}
use Rattle.set_rules.specs.Sum.{magnitude}
use Rattle.set_rules.specs.Symbols.{diagonal}
use Rattle.set_rules.specs.Columns.{at, row_magnitude, tabulate}
use Rattle.set_rules.specs.Zono.{Zono, reach, InRange}
use Rattle.set_rules.specs.Box.{box}
use Rattle.set_rules.proofs.RowsHold.{box-holds}
use Rattle.fixed_mat.proofs.Bits.{entry-one}
use Rattle.fixed_mat.proofs.Columns.{pushes}
use Rattle.zono_set.specs.Holds.{HoldsBox}
use Rattle.zono_set.proofs.Reaches.{row_magnitude-diagonal, reach-box}
use Rattle.zono_set.proofs.Steps.{back64, abs64, sum64}
use Rattle.zono_set.proofs.zono.Zono.of_box.Given.{Over}
use Rattle.zono_set.proofs.zono.Zono.of_box.Goals as goal
use Rattle.zono_set.proofs.zono.Zono.of_box.Goals.{After-at-in-loop-i, After-copy}

mag_is : (g : Over) (c : After-at-in-loop-i g) → to_z w64 (of_z w64 (to_z w64 (of_z w64 c.abs.result) +ℤ to_z w64 (of_z w64 c.at-in-loop-i.result))) ≡ reach (box g.row.N c.args.c.now c.args.r.now) c.loop-i.i
mag_is g c =
    let centre = c.at.ensures.value ∙ entry-one c.args.c.now c.loop-i.i in
    let radius = c.at-in-loop-i.ensures.value ∙ entry-one c.args.r.now c.loop-i.i in
    let natural = c.requires.radii c.loop-i.i c.loop-i-test.true in
    let whole : SFits w64 c.at.result = record { sfits = c.at.type_inv } in
    let size = abs64 c.at.result (at c.args.c.now c.loop-i.i) c.abs.result whole c.abs.ensures.value centre in
    let same : at c.args.r.now c.loop-i.i ≡ magnitude (at c.args.r.now c.loop-i.i) = omega (arith, ints) in
    let x = c.at.ensures.within in
    let is = ap unsigned_abs centre in
    let y = c.at-in-loop-i.ensures.within in
    sum64 c.abs.result c.at-in-loop-i.result (omega (arith, ints, size, x, is)) (omega (arith, y)) (omega (arith, ints, size, x, is, y))
    ∙ (λ i. size i +ℤ (radius ∙ same) i) ∙ sym (reach-box g.row.N c.args.c.now c.args.r.now c.loop-i.i c.loop-i-test.true)

pub returns-then-mag-gt1000000000000000000-clause-refused : goal.returns-then-mag-gt1000000000000000000-clause-refused
returns-then-mag-gt1000000000000000000-clause-refused g c =
    let is = mag_is g (goal.at.returns-then-mag-gt1000000000000000000-clause-refused g c).After-at-in-loop-i in
    let past = c.if-mag-gt1000000000000000000.true in
    let wide : SFits w128 c.from.result = record { sfits = c.from.type_inv } in
    let same = to_z-of_z wide ∙ c.from.ensures ∙ is in
    (c.loop-i-test.true, record { is = same; past = omega (arith, ints, same, is, past); before = c.loop-i.invariant })

pub loop-i-preserved : goal.loop-i-preserved
loop-i-preserved g c =
    let is = mag_is g (goal.at.loop-i-preserved g c).After-at-in-loop-i in
    let test = c.if-mag-gt1000000000000000000.false in
    below_more _ _ c.loop-i.invariant (omega (arith, ints))

pub loop-i-2-preserved : goal.loop-i-2-preserved
loop-i-2-preserved g c =
    let radius = back64 c.at-in-loop-i-2.result (let h = c.at-in-loop-i-2.ensures.within in omega arith) ∙ c.at-in-loop-i-2.ensures.value ∙ entry-one c.args.r.now c.loop-i-2.i in
    pushes [] _ _ _ _ _ c.loop-i-2.invariant c.push_diagonal.ensures (ap (λ (v : ℤ). tabulate g.row.N (λ s. diagonal (λ _. v) s c.loop-i-2.i)) radius)

made : (g : Over) (c : After-copy g) → let new : Zono = record { centre = c.copy.result; columns = c.loop-i-2.cols } in new ≡ box g.row.N c.args.c.now c.args.r.now
made g c =
    let end : c.loop-i-2.i ≡ g.row.N = omega arith in
    λ i. record { centre = c.copy.ensures i; columns = (c.loop-i-2.invariant ∙ ap (λ n. tabulate n (λ j. tabulate g.row.N (λ i. diagonal (at c.args.r.now) i j))) end) i }

pub returns-clause-value : goal.returns-clause-value
returns-clause-value g c = made g (goal.at.returns-clause-value g c).After-copy

pub returns-clause-holds : goal.returns-clause-holds
returns-clause-holds g c =
    subst (HoldsBox g.row.N c.args.c.now c.args.r.now) (sym (made g (goal.at.returns-clause-holds g c).After-copy)) (λ q x positive near. box-holds g.row.N q c.args.c.now c.args.r.now x positive near)

pub invariant_of-result : goal.invariant_of-result
invariant_of-result g c =
    let here = (goal.at.invariant_of-result g c).After-copy in
    let is = made g here in
    let natural : (i : ℕ) → i < g.row.N → magnitude (at c.args.r.now i) ≡ at c.args.r.now i = λ i h. let low = c.requires.radii i h in omega (arith, ints) in
    let end : c.loop-i.i ≡ g.row.N = omega arith in
    record {
      set = record {
        low = c.requires.low;
        high = c.requires.high;
        in_range = subst (InRange g.row.N) (sym is) (subst (λ n. InRange n (box g.row.N c.args.c.now c.args.r.now)) end c.loop-i.invariant);
      };
      radii_are = λ i h. ap (λ xs. at xs i) c.copy-2.ensures ∙ sym (ap (λ (z : Zono). row_magnitude z.columns i) is ∙ row_magnitude-diagonal g.row.N (at c.args.r.now) i h ∙ natural i h);
    }
