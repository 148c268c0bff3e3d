use Rattle.std.proofs.Common.{◌≡◌, ℕ, ◌≤◌, SFits, to_z-of_z, sym, subst, ◌∙◌, arith}
use mir.Syntax.{w128}
use Rattle.set_rules.specs.Columns.{at}
use Rattle.farkas_check.specs.Two.{own_of}
use Rattle.farkas_check.proofs.Sides.{row_sum-is, own-within}
use Rattle.farkas_check.proofs.pair.Pair.of.Goals as goal

pub invariant_of-result-clause-within : goal.invariant_of-result-clause-within
invariant_of-result-clause-within c = own-within c.row-a.result.now c.row-b.result.now c.of-own.result.first c.sum.result c.of-own.ensures.first c.sum.ensures.value

pub invariant_of-result-2-clause-within : goal.invariant_of-result-2-clause-within
invariant_of-result-2-clause-within c =
    let long = c.row-a.ensures.wide ∙ sym c.row-b.ensures.wide in
    own-within c.row-b.result.now c.row-a.result.now c.of-own.result.second c.sum-2.result
    (subst (λ n. c.of-own.result.second ≤ own_of n (at c.row-b.result.now) (at c.row-a.result.now)) long c.of-own.ensures.second) c.sum-2.ensures.value

pub returns-clause-pair : goal.returns-clause-pair
returns-clause-pair c =
    let first : SFits w128 c.rhs.result = record { sfits = c.rhs.type_inv } in
    let second : SFits w128 c.rhs-2.result = record { sfits = c.rhs-2.type_inv } in
    let rows = c.args.rows.now in
    record {
      order = c.requires.order;
      within = c.requires.within;
      first = record {
        right_is = to_z-of_z first ∙ c.rhs.ensures.value;
        sum_is = row_sum-is rows.width rows.rows c.args.r c.row-a.result.now c.sum.result c.row-a.ensures.value c.row-a.ensures.wide c.sum.ensures.value;
        own_within = within (λ i. own_of (c.row-a.ensures.wide i) (at (c.row-a.ensures.value i)) (at (c.row-b.ensures.value i))) c.of-own.ensures.first;
      };
      second = record {
        right_is = to_z-of_z second ∙ c.rhs-2.ensures.value;
        sum_is = row_sum-is rows.width rows.rows c.args.s c.row-b.result.now c.sum-2.result c.row-b.ensures.value c.row-b.ensures.wide c.sum-2.ensures.value;
        own_within = within (λ i. own_of (c.row-a.ensures.wide i) (at (c.row-b.ensures.value i)) (at (c.row-a.ensures.value i))) c.of-own.ensures.second;
      };
    }
  where
    within : {own most known : ℕ} → most ≡ known → own ≤ most → own ≤ known
    within e h = omega arith
