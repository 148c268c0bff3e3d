use Rattle.std.proofs.Common.{◌≡◌, ℕ, ◌≤◌, [], length, ℤ, unsigned_abs, ◌+ℤ◌, ◌*ℤ◌, to_z, of_z, mul-one, ap, ◌∙◌, sym, arith}
use Rattle.std.proofs.lemmas.Int.{ints}
use Rattle.std.proofs.lemmas.List.FromFn.{length-map-range_with_len}
use mir.Syntax.{w128}
use Rattle.set_rules.specs.Sum.{total}
use Rattle.set_rules.specs.Columns.{at, entry, tabulate}
use Rattle.set_rules.specs.Round.{rnd, residue}
use Rattle.set_rules.specs.Zono.{range}
use Rattle.fixed_mat.proofs.Bits.{back}
use Rattle.fixed_mat.proofs.Columns.{pushes}
use Rattle.zono_set.proofs.Steps.{filled-all, narrow_fits, narrowed}
use Rattle.zono_set.proofs.zono.image.move_centre.Given.{Over}
use Rattle.zono_set.proofs.zono.image.move_centre.Goals as goal
use Rattle.zono_set.proofs.zono.image.move_centre.Goals.{After-rounded_centre-state}

pub push-requires : goal.push-requires
push-requires g c =
    let long = ap length c.loop-i.invariant.moved ∙ length-map-range_with_len _ 0 c.loop-i.i in
    let small = c.requires.small in
    (omega arith, omega arith)

pub push-requires-in-loop-i : goal.push-requires-in-loop-i
push-requires-in-loop-i g c =
    let long = ap length c.loop-i.invariant.left ∙ length-map-range_with_len _ 0 c.loop-i.i in
    let small = c.requires.small in
    (omega arith, omega arith)

shift_is : (g : Over) (c : After-rounded_centre-state g) → to_z w128 (of_z w128 c.at.result) ≡ at c.args.shift.now c.loop-i.i
shift_is g c = back c.at.result (let h = c.at.ensures.within in omega arith) ∙ c.at.ensures.value

module _ (g : Over) (c : After-rounded_centre-state g) where
  abbrev exact : ℤ
  exact = total g.row.N (λ l. entry g.row.N c.args.a.now c.loop-i.i l *ℤ at c.args.centre.now l) +ℤ at c.args.shift.now c.loop-i.i

  nearest_is : c.rounded_centre-state.result.nearest ≡ rnd exact
  nearest_is =
      c.rounded_centre-state.ensures.nearest
      ∙ ap (λ s. rnd (total g.row.N (λ l. entry g.row.N c.args.a.now c.loop-i.i l *ℤ at c.args.centre.now l) +ℤ s)) (shift_is g c)

  nearest_small : unsigned_abs (rnd exact) ≤ 9_200_000_000_000_000_000
  nearest_small = let fits = c.requires.fits c.loop-i.i c.loop-i-test.true in omega (arith, fits)

pub overflow_cast-state : goal.overflow_cast-state
overflow_cast-state g c =
    let here = (goal.at.overflow_cast-state g c).After-rounded_centre-state in
    narrow_fits c.rounded_centre-state.result.nearest (rnd (exact g here)) (nearest_is g here) (nearest_small g here)

pub loop-i-preserved : goal.loop-i-preserved
loop-i-preserved g c =
    let here = (goal.at.loop-i-preserved g c).After-rounded_centre-state in
    let left = back c.rounded_centre-state.result.residue (let h = c.rounded_centre-state.ensures.half in let l = c.rounded_centre-state.ensures.low in omega (arith, ints)) ∙ c.rounded_centre-state.ensures.residue
    ∙ ap (λ s. residue (total g.row.N (λ l. entry g.row.N c.args.a.now c.loop-i.i l *ℤ at c.args.centre.now l) +ℤ s)) (shift_is g here) in
    record {
      moved = pushes [] _ _ _ _ _ c.loop-i.invariant.moved c.push.ensures.items (narrowed c.rounded_centre-state.result.nearest (rnd (exact g here)) (nearest_is g here) (nearest_small g here));
      left = pushes [] _ _ _ _ _ c.loop-i.invariant.left c.push-in-loop-i.ensures.items left;
    }

pub replace-requires : goal.replace-requires
replace-requires g c =
    let end : c.loop-i.i ≡ g.row.N = omega arith in
    let f : ℕ → ℤ = λ i. rnd (total g.row.N (λ l. entry g.row.N c.args.a.now i l *ℤ at c.args.centre.now l) +ℤ at c.args.shift.now i) in
    let is = c.deref.ensures.0 ∙ c.loop-i.invariant.moved ∙ ap (λ n. tabulate n f) end in
    let long = ap length is ∙ length-map-range_with_len f 0 g.row.N in
    (omega arith, (long ∙ sym (mul-one g.row.N), filled-all g.row.N f c.deref.result.now range is c.requires.fits))
