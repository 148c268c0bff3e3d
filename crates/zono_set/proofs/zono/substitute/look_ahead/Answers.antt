use Rattle.std.proofs.Common.{◌≡◌, ◌+◌, ◌<◌, ◌≤◌, ◌≢◌, true, false, ◌&&◌, int_le, int_lt, [], length, length-set, get_or-set_same, get_or-set_other, ℤ, pos, ◌+ℤ◌, ◌≤ℤ◌, unsigned_abs, to_z, of_z, refl, sym, ap, ◌∙◌, subst, below_more, arith}
use Rattle.std.proofs.lemmas.Int.{ints}
use Rattle.std.proofs.lemmas.List.FromFn.{length-map-range_with_len}
use mir.Syntax.{w128}
use Rattle.set_rules.specs.Sum.{total, magnitude}
use Rattle.set_rules.specs.Columns.{at, column_entry, row_magnitude}
use Rattle.set_rules.specs.Zono.{Zono, reach, InRange}
use Rattle.set_rules.specs.Gain.{substitution, in_range, spread}
use Rattle.set_rules.proofs.Sums.{total-zero, total-magnitudes-low}
use Rattle.fixed_mat.proofs.Bits.{back, sum_on, next_sum}
use Rattle.fixed_mat.proofs.Columns.{pushes}
use Rattle.zono_set.proofs.Steps.{narrow_fits, narrowed}
use Rattle.zono_set.proofs.Ahead.{past-range, past-spread, within-both}
use Rattle.zono_set.proofs.zono.substitute.look_ahead.Given.{Over}
use Rattle.zono_set.proofs.zono.substitute.look_ahead.Goals as goal
use Rattle.zono_set.proofs.zono.substitute.look_ahead.Goals.{After-state_ahead-state, then-state-gt1000000000000000000-via-then-state-gt1000000000000000000, then-state-gt1000000000000000000-via-else-state-gt1000000000000000000+then-spread-before}

pub loop-i-init : goal.loop-i-init
loop-i-init g c = record {
  long = c.told-rest;
  centre = c.new.ensures;
  radii = c.new-2.ensures;
  sizes = c.new-3.ensures;
  fits = λ i h. absurd (omega arith);
  spread = sym (total-zero _);
  spread_low = omega (arith, ints);
  no_more =
      let low = c.requires.before_low in
      let high = c.requires.before_high in
      rw (back c.args.before (omega (arith, ints))) low;
  rest = λ k h. absurd (omega arith);
}

module _ (g : Over) (c : After-state_ahead-state g) where
  abbrev made : ℤ → Zono
  made b = substitution g.row.N c.args.gain.now (record { coefficients = c.args.a.now; right = b }) (record { centre = c.args.centre.now; columns = c.args.cols.now })

  abbrev bits : ℤ
  bits = to_z w128 (of_z w128 c.args.b)

  right_is : bits ≡ c.args.b
  right_is = back c.args.b (let h = c.requires.right in omega arith)

  reach_is : to_z w128 (of_z w128 c.state_ahead-state.result.reach) ≡ reach (made bits) c.loop-i.i
  reach_is = back c.state_ahead-state.result.reach (let h = c.state_ahead-state.ensures.reach_within in omega arith) ∙ c.state_ahead-state.ensures.reach

  before_is : to_z w128 (of_z w128 c.args.before) ≡ c.args.before
  before_is = let low = c.requires.before_low in let high = c.requires.before_high in back c.args.before (omega (arith, ints))

  spread_small : unsigned_abs (to_z w128 c.loop-i.spread-bits) ≤ 100_000_000_000_000_000_000
  spread_small =
      let low = c.loop-i.invariant.spread_low in
      let most = c.loop-i.invariant.no_more in
      let same = before_is in
      let high = c.requires.before_high in
      omega (arith, ints)

  spread_is : to_z w128 (of_z w128 (to_z w128 c.loop-i.spread-bits +ℤ to_z w128 (of_z w128 c.state_ahead-state.result.size))) ≡ total (c.loop-i.i + 1) (row_magnitude (made bits).columns)
  spread_is =
      let so_far = spread_small in
      let one = c.state_ahead-state.ensures.size_within in
      sum_on c.loop-i.spread-bits c.state_ahead-state.result.size (omega arith) (omega arith)
      ∙ next_sum (to_z w128 c.loop-i.spread-bits) c.state_ahead-state.result.size c.loop-i.i (row_magnitude (made bits).columns) c.loop-i.invariant.spread c.state_ahead-state.ensures.size

pub returns-then-state-gt1000000000000000000-clause-used : goal.returns-then-state-gt1000000000000000000-clause-used
returns-then-state-gt1000000000000000000-clause-used g c =
    let here = (goal.at.returns-then-state-gt1000000000000000000-clause-used g c).After-state_ahead-state in
    let reach_same = reach_is g here in
    let spread_same = spread_is g here in
    let before_same = before_is g here in
    subst (λ b. false ≡ (in_range g.row.N (made g here b) && int_le (spread g.row.N (made g here b)) c.args.before)) (right_is g here)
    (elim c.then-state-gt1000000000000000000.branch [
      | then-state-gt1000000000000000000-via-then-state-gt1000000000000000000 w ↦
          let past = w.if-state-gt1000000000000000000.true in
          past-range g.row.N (made g here (bits g here)) c.args.before c.loop-i.i c.loop-i-test.true (omega (arith, ints, past, reach_same))
      | then-state-gt1000000000000000000-via-else-state-gt1000000000000000000+then-spread-before w ↦
          let past = w.if-spread-before.true in
          past-spread g.row.N (made g here (bits g here)) c.args.before c.loop-i.i c.loop-i-test.true (omega (arith, ints, past, spread_same, before_same))
    ])

pub push-requires : goal.push-requires
push-requires g c =
    let long = ap length c.loop-i.invariant.centre ∙ length-map-range_with_len _ 0 c.loop-i.i in
    let small = c.len.ensures.height_small in
    (omega arith, omega arith)

pub push-requires-in-loop-i : goal.push-requires-in-loop-i
push-requires-in-loop-i g c =
    let long = ap length c.loop-i.invariant.radii ∙ length-map-range_with_len _ 0 c.loop-i.i in
    let small = c.len.ensures.height_small in
    (omega arith, omega arith)

pub push-requires-in-loop-i-2 : goal.push-requires-in-loop-i-2
push-requires-in-loop-i-2 g c =
    let long = ap length c.loop-i.invariant.sizes ∙ length-map-range_with_len _ 0 c.loop-i.i in
    let small = c.len.ensures.height_small in
    (omega arith, omega arith)

-- where a state is in range, its parts fit 64 bits
parts_small : (reach centre size : ℤ) → reach ≡ magnitude centre +ℤ size → pos 0 ≤ℤ size → reach ≤ℤ pos 1_000_000_000_000_000_000
    → (unsigned_abs centre ≤ 1_000_000_000_000_000_000) × (unsigned_abs size ≤ 1_000_000_000_000_000_000)
parts_small reach centre size is low small = (omega (arith, ints), omega (arith, ints))

no_more : (x y : ℤ) → int_lt x y ≡ false → y ≤ℤ x
no_more x y test = omega (arith, ints, test)

module _ (g : Over) (c : After-state_ahead-state g) (within : to_z w128 (of_z w128 c.state_ahead-state.result.reach) ≤ℤ pos 1_000_000_000_000_000_000) where
  natural : pos 0 ≤ℤ c.state_ahead-state.result.size
  natural =
      let is = c.state_ahead-state.ensures.size in
      let low = total-magnitudes-low (length (made g c (bits g c)).columns) (column_entry (made g c (bits g c)).columns c.loop-i.i) in
      omega (arith, ints, is, low)

  parts : (unsigned_abs c.state_ahead-state.result.centre ≤ 1_000_000_000_000_000_000) × (unsigned_abs c.state_ahead-state.result.size ≤ 1_000_000_000_000_000_000)
  parts =
      let same = back c.state_ahead-state.result.reach (let h = c.state_ahead-state.ensures.reach_within in omega arith) in
      parts_small c.state_ahead-state.result.reach c.state_ahead-state.result.centre c.state_ahead-state.result.size c.state_ahead-state.ensures.parts natural
      (subst (λ r. r ≤ℤ pos 1_000_000_000_000_000_000) same within)

pub overflow_cast-state : goal.overflow_cast-state
overflow_cast-state g c =
    let here = (goal.at.overflow_cast-state g c).After-state_ahead-state in
    let small = (parts g here (no_more _ _ c.if-state-gt1000000000000000000.false)).0 in
    narrow_fits c.state_ahead-state.result.centre c.state_ahead-state.result.centre refl (omega (arith, small))

pub overflow_cast-state-in-loop-i-2 : goal.overflow_cast-state-in-loop-i-2
overflow_cast-state-in-loop-i-2 g c =
    let here = (goal.at.overflow_cast-state-in-loop-i-2 g c).After-state_ahead-state in
    let small = (parts g here (no_more _ _ c.if-state-gt1000000000000000000.false)).1 in
    narrow_fits c.state_ahead-state.result.size c.state_ahead-state.result.size refl (omega (arith, small))

pub loop-i-preserved : goal.loop-i-preserved
loop-i-preserved g c =
    let here = (goal.at.loop-i-preserved g c).After-state_ahead-state in
    let reach = reach_is g here in
    let fits = c.if-state-gt1000000000000000000.false in
    let most = c.if-spread-before.false in
    let small = parts g here (no_more _ _ fits) in
    let centre_small = small.0 in
    let radius_small = c.state_ahead-state.ensures.radius_within in
    let size_small = small.1 in
    let long = c.loop-i.invariant.long in
    record {
      long = length-set c.loop-i.rest c.loop-i.i _ ∙ long;
      centre = pushes [] _ _ _ _ _ c.loop-i.invariant.centre c.push.ensures.items (narrowed c.state_ahead-state.result.centre c.state_ahead-state.result.centre refl (omega (arith, centre_small)) ∙ c.state_ahead-state.ensures.centre);
      radii = pushes [] _ _ _ _ _ c.loop-i.invariant.radii c.push-in-loop-i.ensures.items (narrowed c.state_ahead-state.result.radius c.state_ahead-state.result.radius refl (omega (arith, radius_small)) ∙ c.state_ahead-state.ensures.radius);
      sizes = pushes [] _ _ _ _ _ c.loop-i.invariant.sizes c.push-in-loop-i-2.ensures.items (narrowed c.state_ahead-state.result.size c.state_ahead-state.result.size refl (omega (arith, size_small)) ∙ c.state_ahead-state.ensures.size);
      fits = below_more _ _ c.loop-i.invariant.fits (omega (arith, ints, reach, fits));
      spread = spread_is g here;
      spread_low =
          let is = spread_is g here in
          let one = c.state_ahead-state.ensures.size in
          let natural = total-magnitudes-low (length (made g here (bits g here)).columns) (column_entry (made g here (bits g here)).columns c.loop-i.i) in
          let so_far = c.loop-i.invariant.spread_low in
          let within = spread_small g here in
          let wide = c.state_ahead-state.ensures.size_within in
          let sum = sum_on c.loop-i.spread-bits c.state_ahead-state.result.size (omega (arith, within)) (omega (arith, wide)) in
          omega (arith, ints, sum, one, natural, so_far);
      no_more = omega (arith, ints, most);
      rest =
          let small = c.len.ensures.height_small in
          let test = c.loop-i-test.true in
          let lt : c.loop-i.i < length c.loop-i.rest = omega arith in
          let same = back c.state_ahead-state.result.reach (let h = c.state_ahead-state.ensures.reach_within in omega arith) in
          below_more _ _
          (λ k h t l. let ne : k ≢ c.loop-i.i = λ e. omega arith in ap (λ xs. at xs t) (get_or-set_other c.loop-i.rest c.loop-i.i k _ [] ne) ∙ c.loop-i.invariant.rest k h t l)
          (λ t l. ap (λ xs. at xs t) (get_or-set_same c.loop-i.rest c.loop-i.i _ [] lt) ∙ c.state_ahead-state.ensures.rest (omega (arith, ints, same, fits)) t l);
    }

pub returns-clause-used : goal.returns-clause-used
returns-clause-used g c =
    let made : ℤ → Zono = λ b. substitution g.row.N c.args.gain.now (record { coefficients = c.args.a.now; right = b }) (record { centre = c.args.centre.now; columns = c.args.cols.now }) in
    let end : c.loop-i.i ≡ g.row.N = let test = c.loop-i-test.false in let most = c.loop-i.auto.i-end in omega arith in
    let bits = to_z w128 (of_z w128 c.args.b) in
    let right : bits ≡ c.args.b = back c.args.b (let h = c.requires.right in omega arith) in
    let before = let low = c.requires.before_low in let high = c.requires.before_high in back c.args.before (omega (arith, ints)) in
    let spread_is = c.loop-i.invariant.spread ∙ ap (λ n. total n (row_magnitude (made bits).columns)) end in
    let no_more = c.loop-i.invariant.no_more in
    subst (λ b. true ≡ (in_range g.row.N (made b) && int_le (spread g.row.N (made b)) c.args.before)) right
    (within-both g.row.N (made bits) c.args.before (subst (λ n. InRange n (made bits)) end c.loop-i.invariant.fits) (omega (arith, ints, spread_is, no_more, before)))
