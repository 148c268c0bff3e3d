use Rattle.std.proofs.Common.{◌≡◌, ℕ, ◌≤◌, nat_lt, false, pos, ◌+ℤ◌, ◌*ℤ◌, ◌≤ℤ◌, int_lt, unsigned_abs, SFits, to_z-of_z, sym, ap, ◌∙◌, arith, subst₂}
use Rattle.std.proofs.lemmas.Int.{ints}
use Rattle.std.proofs.lemmas.Bool.Decides.{nat_tests}
use mir.Syntax.{w128}
use Rattle.set_rules.specs.Sum.{total, magnitude}
use Rattle.set_rules.specs.Columns.{at}
use Rattle.farkas_check.proofs.PairLists.{pair-passes}
use Rattle.farkas_check.proofs.Sides.{right-is, within-fails}
use Rattle.farkas_check.specs.Sides.{right_by}
use Rattle.farkas_check.proofs.pair.Pair.passes.Goals as goal
use Rattle.farkas_check.proofs.pair.Pair.passes.Goals.{After-unsigned_abs-right}

-- the right side, as the code has it
module _ (c : After-unsigned_abs-right) where
  reach-is : pos c.unsigned_abs-right.result ≡ magnitude (right_by c.args.self.now c.args.by.first c.args.by.second)
  reach-is =
      let fits : SFits w128 c.right.result = record { sfits = c.right.type_inv } in
      ap pos (c.unsigned_abs-right.ensures.value ∙ ap unsigned_abs (to_z-of_z fits ∙ c.right.ensures))

not_below : (m n : ℕ) → n ≤ m → nat_lt m n ≡ false
not_below m n h = grind (arith, nat_tests)

pub returns-then-least_left-right : goal.returns-then-least_left-right
returns-then-least_left-right c =
    let pair = c.args.self.now in
    let x = c.args.by.first in
    let y = c.args.by.second in
    c.leaves_less.ensures
    ∙ (λ i. int_lt (total (c.row.ensures.wide i) (λ t. magnitude (x *ℤ at (c.row.ensures.value i) t +ℤ y *ℤ at (c.row-then-least_left-right.ensures.value i) t)))
    ((reach-is (goal.at.returns-then-least_left-right c).After-unsigned_abs-right ∙ right-is c.args.rows.now pair c.requires x y) i))
    ∙ sym (pair-passes c.args.rows.now.width c.args.rows.now.rows pair.r pair.s x y c.requires.order c.requires.within)

pub returns-else-least_left-right : goal.returns-else-least_left-right
returns-else-least_left-right c =
    let below : pos c.unsigned_abs-right.result ≤ℤ pos c.least_left.result = let h = c.if-least_left-right.false in omega (arith, ints) in
    not_below c.least_left.result c.unsigned_abs-right.result c.if-least_left-right.false
    ∙ sym (within-fails c.args.rows.now c.args.self.now c.requires c.args.by.first c.args.by.second
    (subst₂ (λ u v. u ≤ℤ v) (reach-is (goal.at.returns-else-least_left-right c).After-unsigned_abs-right) c.least_left.ensures below))
