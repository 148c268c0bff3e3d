use Rattle.std.proofs.Common.{◌^◌, length, pos, ◌*ℤ◌, ◌≤ℤ◌, arith}
use Rattle.std.proofs.lemmas.Int.{ints}
use Rattle.set_rules.specs.Sum.{total, magnitude}
use Rattle.set_rules.specs.Columns.{entry, column_entry}
use Rattle.set_rules.specs.Round.{rnd}
use Rattle.set_rules.proofs.Sums.{total-magnitudes-low}
use Rattle.fixed_mat.proofs.Fits.{wide_row}
use Rattle.zono_set.proofs.Sizes.{narrow-sizes, wide-sizes}
use Rattle.zono_set.proofs.products.row_sums.Given.{Over}
use Rattle.zono_set.proofs.products.row_sums.Goals as goal
use Rattle.zono_set.proofs.products.row_sums.Goals.{Then-narrow, Else-narrow}

narrow : (g : Over) (c : Then-narrow g) → total (length c.args.cols.now) (λ t. magnitude (rnd (total g.row.N (λ l. entry g.row.N c.args.a.now c.args.r l *ℤ column_entry c.args.cols.now l t)))) ≤ℤ pos 2_000_000_000_000
narrow g c =
    narrow-sizes g.row.N c.args.a.now c.args.r c.args.cols.now c.tell_products.ensures.few (c.requires.narrow c.if-narrow.true)

pub sums_in-requires : goal.sums_in-requires
sums_in-requires g c = let sizes = narrow g c in (omega arith, (omega arith, (c.requires.row, (c.requires.narrow c.if-narrow.true, omega (arith, ints, sizes)))))

module _ (g : Over) (c : Else-narrow g) where
  wide : total (length c.args.cols.now) (λ t. magnitude (rnd (total g.row.N (λ l. entry g.row.N c.args.a.now c.args.r l *ℤ column_entry c.args.cols.now l t)))) ≤ℤ pos (10 ^ 25)
  wide = wide-sizes g.row.N c.args.a.now c.args.r c.args.cols.now c.tell_products.ensures.height c.tell_products.ensures.few (c.tell_products.ensures.rows c.args.r c.requires.row)

pub sums_in-requires-else-narrow : goal.sums_in-requires-else-narrow
sums_in-requires-else-narrow g c =
    let sizes = wide g c in
    (omega arith, (omega arith, (c.requires.row, (wide_row g.row.N c.args.a.now c.args.r c.args.cols.now c.tell_products.ensures.height (c.tell_products.ensures.rows c.args.r c.requires.row), omega (arith, ints, sizes)))))

pub returns-then-narrow-clause-size_low : goal.returns-then-narrow-clause-size_low
returns-then-narrow-clause-size_low g c =
    let is = c.sums_in.ensures.size in
    let low = total-magnitudes-low (length c.args.cols.now) (λ t. rnd (total g.row.N (λ l. entry g.row.N c.args.a.now c.args.r l *ℤ column_entry c.args.cols.now l t))) in
    omega (arith, ints, is, low)

pub returns-then-narrow-clause-size_high : goal.returns-then-narrow-clause-size_high
returns-then-narrow-clause-size_high g c =
    let is = c.sums_in.ensures.size in
    let sizes = narrow g (goal.at.returns-then-narrow-clause-size_high g c).Then-narrow in
    omega (arith, ints, is, sizes)

pub returns-else-narrow-clause-size_low : goal.returns-else-narrow-clause-size_low
returns-else-narrow-clause-size_low g c =
    let is = c.sums_in-else-narrow.ensures.size in
    let low = total-magnitudes-low (length c.args.cols.now) (λ t. rnd (total g.row.N (λ l. entry g.row.N c.args.a.now c.args.r l *ℤ column_entry c.args.cols.now l t))) in
    omega (arith, ints, is, low)

pub returns-else-narrow-clause-size_high : goal.returns-else-narrow-clause-size_high
returns-else-narrow-clause-size_high g c =
    let is = c.sums_in-else-narrow.ensures.size in
    let sizes = wide g (goal.at.returns-else-narrow-clause-size_high g c).Else-narrow in
    omega (arith, ints, is, sizes)
