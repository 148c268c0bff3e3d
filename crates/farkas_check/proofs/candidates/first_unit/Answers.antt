use Rattle.std.proofs.Common.{◌≡◌, ℕ, ◌<◌, ◌≤◌, length, nat_lt, true, false, Some, unsigned_abs, SFits, to_z-of_z, sym, ap, ◌∙◌, arith}
use Rattle.std.proofs.lemmas.Bool.Decides.{nat_tests}
use borrow.Author.Count.{below_more}
use mir.Syntax.{w128}
use Rattle.set_rules.specs.Farkas.{passes, unit_list}
use Rattle.farkas_check.proofs.Found.{found-each, missed-each}
use Rattle.farkas_check.proofs.Sides.{row_sum-is, unit-passes-by}
use Rattle.farkas_check.proofs.candidates.first_unit.Goals as goal
use Rattle.farkas_check.proofs.candidates.first_unit.Goals.{After-unsigned_abs}

module _ (c : After-unsigned_abs) where
  within : c.loop-r.r < length c.args.rows.now.rows
  within = omega arith

  -- row r passes where its right side is above its sum
  passes-is : passes c.args.rows.now.width c.args.rows.now.rows (unit_list (length c.args.rows.now.rows) c.loop-r.r) ≡ nat_lt c.sum.result c.unsigned_abs.result
  passes-is =
      let right : SFits w128 c.rhs.result = record { sfits = c.rhs.type_inv } in
      unit-passes-by c.args.rows.now.width c.args.rows.now.rows c.loop-r.r c.sum.result c.unsigned_abs.result within
      (row_sum-is c.args.rows.now.width c.args.rows.now.rows c.loop-r.r c.row.result.now c.sum.result c.row.ensures.value c.row.ensures.wide c.sum.ensures.value)
      (c.unsigned_abs.ensures.value ∙ ap unsigned_abs (to_z-of_z right ∙ c.rhs.ensures.value))

below : (m n : ℕ) → m < n → nat_lt m n ≡ true
below m n h = grind (arith, nat_tests)

not_below : (m n : ℕ) → n ≤ m → nat_lt m n ≡ false
not_below m n h = grind (arith, nat_tests)

pub returns-then-sum-unsigned_abs : goal.returns-then-sum-unsigned_abs
returns-then-sum-unsigned_abs c =
    let here = (goal.at.returns-then-sum-unsigned_abs c).After-unsigned_abs in
    ap Some (c.unit.ensures ∙ ap (λ n. unit_list n c.loop-r.r) c.count.ensures.value)
    ∙ sym (found-each (passes c.args.rows.now.width c.args.rows.now.rows) (unit_list (length c.args.rows.now.rows)) 0 (length c.args.rows.now.rows) c.loop-r.r (omega arith) (let h = within here in omega arith)
    (λ k _ l. c.loop-r.invariant k l) (passes-is here ∙ below c.sum.result c.unsigned_abs.result c.if-sum-unsigned_abs.true))

pub loop-r-preserved : goal.loop-r-preserved
loop-r-preserved c =
    let here = (goal.at.loop-r-preserved c).After-unsigned_abs in
    below_more (λ k. passes c.args.rows.now.width c.args.rows.now.rows (unit_list (length c.args.rows.now.rows) k) ≡ false) c.loop-r.r c.loop-r.invariant
    (passes-is here ∙ not_below c.sum.result c.unsigned_abs.result c.if-sum-unsigned_abs.false)

pub returns : goal.returns
returns c = sym (missed-each (passes c.args.rows.now.width c.args.rows.now.rows) (unit_list (length c.args.rows.now.rows)) 0 (length c.args.rows.now.rows) (λ k _ l. c.loop-r.invariant k (omega arith)))
