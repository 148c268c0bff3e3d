use Rattle.std.proofs.Common.{ℕ, ◌*◌, ◌^◌, ◌≤◌, length, ℤ, pos, ◌-ℤ◌, ◌*ℤ◌, ◌≤ℤ◌, unsigned_abs, sum_by, to_z, of_z, to_z-of_z, mul-le-mul, ap, arith}
use Rattle.std.proofs.lemmas.Int.{ints}
use mir.Syntax.{w64}
use Rattle.set_rules.specs.Sum.{total, magnitude}
use Rattle.set_rules.specs.Columns.{at, column_entry}
use Rattle.set_rules.specs.Round.{rnd}
use Rattle.set_rules.proofs.Sums.{total-magnitudes-low}
use Rattle.zono_set.proofs.Sizes.{left-within}
use Rattle.zono_set.proofs.products.take_shares.Given.{Over}
use Rattle.zono_set.proofs.products.take_shares.Goals as goal
use Rattle.zono_set.proofs.products.take_shares.Goals.{Start, After-len}

module _ (g : Over) (c : After-len g) where
  abbrev gain : ℤ
  gain = to_z w64 (of_z w64 c.args.gain)

  abbrev taken : ℕ → ℤ
  taken t = column_entry c.args.cols.now c.args.i t -ℤ rnd (gain *ℤ at c.args.a.now t)

  low : pos 0 ≤ℤ total (length c.args.a.now) (λ t. magnitude (taken t))
  low = total-magnitudes-low (length c.args.a.now) taken

  any_products : unsigned_abs gain * sum_by unsigned_abs c.args.a.now ≤ 10 ^ 34
  any_products =
      let same = ap unsigned_abs (to_z-of_z c.ranges.gain) in
      let small = c.requires.gain in
      let left : unsigned_abs gain ≤ 10 ^ 12 = omega (arith, same, small) in
      let right : sum_by unsigned_abs c.args.a.now ≤ 10 ^ 22 = let h = c.len.ensures.small in omega (arith, h) in
      let most : unsigned_abs gain * sum_by unsigned_abs c.args.a.now ≤ 10 ^ 12 * 10 ^ 22 = mul-le-mul left right in
      omega (arith, most)

  any : total (length c.args.a.now) (λ t. magnitude (taken t)) ≤ℤ pos (10 ^ 28)
  any =
      let few = c.len.ensures.few in
      let count = c.len.ensures.value in
      let all = left-within (10 ^ 34) (10 ^ 25) gain c.args.a.now c.args.cols.now c.args.i (omega arith) any_products c.requires.len c.requires.radius in
      omega (arith, ints, few, count, all)

  narrow : unsigned_abs gain * sum_by unsigned_abs c.args.a.now ≤ 9_000_000_000_000_000_000 → total (length c.args.a.now) (λ t. magnitude (taken t)) ≤ℤ pos 9_000_000_000_000_000_000
  narrow products =
      let few = c.len.ensures.few in
      let count = c.len.ensures.value in
      let all = left-within 9_000_000_000_000_000_000 9_000_000_000 gain c.args.a.now c.args.cols.now c.args.i (omega arith) products c.requires.len c.requires.radius in
      omega (arith, ints, few, count, all)

pub shares_in-requires : goal.shares_in-requires
shares_in-requires g c =
    let here = (goal.at.shares_in-requires g c).After-len in
    let products = c.has_narrow_shares.ensures.products c.if-has_narrow_shares.true in
    (omega arith, (c.requires.row, (c.requires.len, (c.has_narrow_shares.ensures.numbers c.if-has_narrow_shares.true, (products, narrow g here products)))))

pub shares_in-requires-else-has_narrow_shares : goal.shares_in-requires-else-has_narrow_shares
shares_in-requires-else-has_narrow_shares g c =
    let here = (goal.at.shares_in-requires-else-has_narrow_shares g c).After-len in
    let products = any_products g here in
    let sizes = any g here in
    let numbers = c.len.ensures.small in
    (omega arith, (c.requires.row, (c.requires.len, (omega (arith, numbers), (omega (arith, products), omega (arith, ints, sizes))))))

pub returns-then-has_narrow_shares-clause-size_low : goal.returns-then-has_narrow_shares-clause-size_low
returns-then-has_narrow_shares-clause-size_low g c = let is = c.shares_in.ensures.size in let h = low g (goal.at.returns-then-has_narrow_shares-clause-size_low g c).After-len in omega (arith, ints, is, h)

pub returns-then-has_narrow_shares-clause-size_high : goal.returns-then-has_narrow_shares-clause-size_high
returns-then-has_narrow_shares-clause-size_high g c = let is = c.shares_in.ensures.size in let h = any g (goal.at.returns-then-has_narrow_shares-clause-size_high g c).After-len in omega (arith, ints, is, h)

pub returns-else-has_narrow_shares-clause-size_low : goal.returns-else-has_narrow_shares-clause-size_low
returns-else-has_narrow_shares-clause-size_low g c = let is = c.shares_in-else-has_narrow_shares.ensures.size in let h = low g (goal.at.returns-else-has_narrow_shares-clause-size_low g c).After-len in omega (arith, ints, is, h)

pub returns-else-has_narrow_shares-clause-size_high : goal.returns-else-has_narrow_shares-clause-size_high
returns-else-has_narrow_shares-clause-size_high g c = let is = c.shares_in-else-has_narrow_shares.ensures.size in let h = any g (goal.at.returns-else-has_narrow_shares-clause-size_high g c).After-len in omega (arith, ints, is, h)
