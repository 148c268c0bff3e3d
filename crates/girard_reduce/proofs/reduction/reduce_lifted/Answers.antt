use Rattle.std.proofs.Common.{◌≡◌, ◌+◌, ◌-◌, ◌++◌, length, refl, ap, ◌∙◌, arith}
use Rattle.set_rules.specs.Columns.{tabulate, row_magnitude}
use Rattle.set_rules.specs.Reduce.{stays}
use Rattle.fixed_mat.specs.Rows.{marked, condensed_rows}
use Rattle.fixed_mat.proofs.Columns.{pushes, counted}
use Rattle.girard_reduce.specs.Lifted.{lifted_all, reduced_columns, reduced_rows}
use Rattle.girard_reduce.proofs.Reduced.{condensed-long}
use Rattle.girard_reduce.proofs.LiftedReduced.{zero_column, lifted-same, lifted-reduced, lifted-inside, lifted-magnitudes, lifted-stays}
use Rattle.girard_reduce.proofs.reduction.reduce_lifted.Goals as goal
use Rattle.girard_reduce.proofs.reduction.reduce_lifted.Given.{Over}

pub returns-then-len-max-clause-columns : goal.returns-then-len-max-clause-columns
returns-then-len-max-clause-columns g c = (lifted-same g.row.N c.args.max c.args.cols.now c.args.rows.now.rows (let n = c.len.ensures.value in let h = c.if-len-max.true in omega arith)).0

pub returns-then-len-max-clause-rows : goal.returns-then-len-max-clause-rows
returns-then-len-max-clause-rows g c = (lifted-same g.row.N c.args.max c.args.cols.now c.args.rows.now.rows (let n = c.len.ensures.value in let h = c.if-len-max.true in omega arith)).1

pub returns-then-len-max-clause-inside : goal.returns-then-len-max-clause-inside
returns-then-len-max-clause-inside g c = lifted-inside g.row.N c.args.max c.args.cols.now c.args.cols.now c.args.rows.now.rows c.args.rows.now.rows (returns-then-len-max-clause-columns g c) (returns-then-len-max-clause-rows g c)

pub condense-stay-requires : goal.condense-stay-requires
condense-stay-requires g c =
    let few = c.len.ensures.few in
    let long = c.len.ensures.value in
    let small = c.len.ensures.height_small in
    let more = c.if-len-max.false in
    let low = c.requires.low in
    let count = c.count-count.ensures.value in
    let stay = lifted-stays g.row.N c.args.cols.now c.args.rows.now.rows c.deref.result.now (c.args.max - g.row.N - c.count-count.result) c.kept-marks.result (omega arith) c.lifted_keys.result.items c.deref.ensures.0 c.lifted_keys.ensures.count c.lifted_keys.ensures.order c.kept-marks.ensures in
    let kept = stay.1 in
    (omega arith, (omega arith, (omega arith, (omega arith, c.requires.in_range))))

pub condense-requires-clause-room : goal.condense-requires-clause-room
condense-requires-clause-room g c =
    let few = c.len.ensures.few in
    let long = c.len.ensures.value in
    let low = c.requires.low in
    let high = c.requires.high in
    let count = c.count-count.ensures.value in
    let stay = lifted-stays g.row.N c.args.cols.now c.args.rows.now.rows c.deref.result.now (c.args.max - g.row.N - c.count-count.result) c.kept-marks.result (omega arith) c.lifted_keys.result.items c.deref.ensures.0 c.lifted_keys.ensures.count c.lifted_keys.ensures.order c.kept-marks.ensures in
    let kept = stay.1 in
    let counted = c.condense-stay.ensures.count in
    omega arith

pub push_diagonal-requires : goal.push_diagonal-requires
push_diagonal-requires g c =
    let few = c.len.ensures.few in
    let long = c.len.ensures.value in
    let low = c.requires.low in
    let high = c.requires.high in
    let positive = c.len.ensures.height_positive in
    let count = c.count-count.ensures.value in
    let kept = (lifted-stays g.row.N c.args.cols.now c.args.rows.now.rows c.deref.result.now (c.args.max - g.row.N - c.count-count.result) c.kept-marks.result (omega arith) c.lifted_keys.result.items c.deref.ensures.0 c.lifted_keys.ensures.count c.lifted_keys.ensures.order c.kept-marks.ensures).1 in
    let made = ap length c.condense-stay.ensures.columns ∙ condensed-long (marked c.kept-marks.result) g.row.N c.args.cols.now in
    let size = counted c.condense-stay.new.cols c.loop.cols c.loop.counter (λ _. zero_column g.row.N) c.loop.invariant in
    let test = c.loop-test.true in
    (omega arith, (omega arith, (omega arith, omega arith)))

pub loop-preserved : goal.loop-preserved
loop-preserved g c = pushes c.condense-stay.new.cols c.loop.cols c.push_diagonal.new.self c.loop.counter (λ _. zero_column g.row.N) _ c.loop.invariant c.push_diagonal.ensures refl

module _ (g : Over) (c : goal.After-loop g) where
  -- both, once the marked columns are known to be those that stay
  reduced_is : (c.loop.cols ≡ reduced_columns g.row.N c.args.max c.args.cols.now c.args.rows.now.rows) × (c.condense.new.self.rows ≡ reduced_rows g.row.N c.args.max c.args.cols.now c.args.rows.now.rows)
  reduced_is =
      let few = c.len.ensures.few in
      let long = c.len.ensures.value in
      let more = c.if-len-max.false in
      let count = c.count-count.ensures.value in
      let columns = c.args.cols.now in
      let rows = c.args.rows.now.rows in
      let end = c.loop-test.false in
      let most = c.loop.auto.counter-end in
      let all : c.loop.counter ≡ length rows = omega arith in
      let room : c.args.max - g.row.N - c.count-count.result ≡ c.args.max - (g.row.N + length rows) = omega arith in
      let stay = (lifted-stays g.row.N columns rows c.deref.result.now (c.args.max - g.row.N - c.count-count.result) c.kept-marks.result (omega arith) c.lifted_keys.result.items c.deref.ensures.0 c.lifted_keys.ensures.count c.lifted_keys.ensures.order c.kept-marks.ensures).0 in
      let width = c.requires.width in
      let both = lifted-reduced g.row.N columns rows (marked c.kept-marks.result) c.tell_heights.ensures (λ r h. c.tell_widths.ensures r h ∙ width) c.args.max (omega arith)
      (λ t h. stay t h ∙ ap (λ n. stays (lifted_all g.row.N columns rows) n t) room) in (
        c.loop.invariant ∙ (λ i. c.condense-stay.ensures.columns i ++ tabulate (all i) (λ _. zero_column g.row.N)) ∙ both.0,
        c.condense.ensures.rows ∙ ap (λ ms. condensed_rows (marked ms) g.row.N rows) c.all.ensures.value ∙ both.1,
      )

pub returns-clause-columns : goal.returns-clause-columns
returns-clause-columns g c = (reduced_is g c).0

pub returns-clause-rows : goal.returns-clause-rows
returns-clause-rows g c = (reduced_is g c).1

pub returns-clause-width : goal.returns-clause-width
returns-clause-width g c =
    let made = ap length c.condense-stay.ensures.columns ∙ condensed-long (marked c.kept-marks.result) g.row.N c.args.cols.now in
    let size = counted c.condense-stay.new.cols c.loop.cols c.loop.counter (λ _. zero_column g.row.N) c.loop.invariant in
    let width = c.condense.ensures.width in
    let kept = c.condense-stay.ensures.count in
    let count = c.count-count.ensures.value in
    let end = c.loop-test.false in
    let most = c.loop.auto.counter-end in
    omega arith

pub returns-clause-magnitudes : goal.returns-clause-magnitudes
returns-clause-magnitudes g c i h = ap (λ xs. row_magnitude xs i) (returns-clause-columns g c) ∙ lifted-magnitudes g.row.N c.args.max c.args.cols.now c.args.rows.now.rows i h

pub returns-clause-inside : goal.returns-clause-inside
returns-clause-inside g c = lifted-inside g.row.N c.args.max c.args.cols.now c.loop.cols c.args.rows.now.rows c.condense.new.self.rows (returns-clause-columns g c) (returns-clause-rows g c)
