use Rattle.std.proofs.Common.{◌≡◌, ℕ, ◌+◌, ◌*◌, ◌≤◌, nat_lt, length, ℤ, pos, ◌+ℤ◌, ◌*ℤ◌, ◌≤ℤ◌, int_lt, unsigned_abs, SFits, to_z-of_z, sym, ap, ◌∙◌, rules, arith}
use Rattle.std.proofs.lemmas.Int.{ints}
use Rattle.std.proofs.lemmas.Bool.Decides.{nat_tests}
use mir.Syntax.{w128}
use Rattle.set_rules.specs.Sum.{total, magnitude}
use Rattle.set_rules.specs.Columns.{at}
use Rattle.set_rules.proofs.Sums.{total-zero, total-more}
use Rattle.fixed_mat.proofs.Fits.{total-prefix}
use Rattle.farkas_check.specs.Multipliers.{multiplied_limit}
use Rattle.farkas_check.specs.Sides.{left_by}
use Rattle.farkas_check.proofs.Sides.{not_less}
use Rattle.farkas_check.proofs.pair.leaves_less.Goals as goal
use Rattle.farkas_check.proofs.pair.leaves_less.Goals.{After-unsigned_abs-left}

pub loop-t-init : goal.loop-t-init
loop-t-init c = record { value = sym (total-zero _); within = search rules }

module _ (c : After-unsigned_abs-left) where
  abbrev term : ℕ → ℤ
  term t = c.args.by.first *ℤ at c.args.a.now t +ℤ c.args.by.second *ℤ at c.args.b.now t

  -- one more column
  next : pos (c.loop-t.left + c.unsigned_abs-left.result) ≡ total (c.loop-t.t + 1) (λ t. magnitude (term t))
  next =
      let fits : SFits w128 c.combined.result = record { sfits = c.combined.type_inv } in
      let first : SFits w128 c.at.result = record { sfits = c.at.type_inv } in
      let second : SFits w128 c.at-in-loop-t.result = record { sfits = c.at-in-loop-t.type_inv } in
      let is = c.combined.ensures.value ∙ (λ i. c.args.by.first *ℤ (to_z-of_z first ∙ c.at.ensures.value) i +ℤ c.args.by.second *ℤ (to_z-of_z second ∙ c.at-in-loop-t.ensures.value) i) in
      let size = c.unsigned_abs-left.ensures.value ∙ ap unsigned_abs (to_z-of_z fits ∙ is) in
      (λ i. c.loop-t.invariant.value i +ℤ ap pos size i) ∙ sym (total-more c.loop-t.t (λ t. magnitude (term t)))

  small : c.unsigned_abs-left.result ≤ 2 * multiplied_limit
  small =
      let fits : SFits w128 c.combined.result = record { sfits = c.combined.type_inv } in
      let size = c.unsigned_abs-left.ensures.value ∙ ap unsigned_abs (to_z-of_z fits) in
      omega arith

  within : c.loop-t.t + 1 ≤ length c.args.a.now
  within = omega arith

-- a sum that gets there with its first terms does
gets_there : (left right : ℕ) (front all : ℤ) → right ≤ left → pos left ≡ front → front ≤ℤ all → pos right ≤ℤ all
gets_there left right front all h e k = omega (arith, ints)

-- two sizes as the code compares them
compared : (size reach : ℕ) (left : ℤ) → pos size ≡ left → nat_lt size reach ≡ int_lt left (pos reach)
compared size reach left e = grind (arith, ints, nat_tests)

pub returns-then-right-left : goal.returns-then-right-left
returns-then-right-left c =
    let here = (goal.at.returns-then-right-left c).After-unsigned_abs-left in
    sym (not_less (left_by c.args.a.now c.args.b.now c.args.by.first c.args.by.second) (pos c.args.right)
    (gets_there (c.loop-t.left + c.unsigned_abs-left.result) c.args.right (total (c.loop-t.t + 1) (λ t. magnitude (term here t))) (left_by c.args.a.now c.args.b.now c.args.by.first c.args.by.second)
    c.if-right-left.true (next here) (total-prefix (c.loop-t.t + 1) (length c.args.a.now) (term here) (within here))))

pub loop-t-preserved : goal.loop-t-preserved
loop-t-preserved c =
    let here = (goal.at.loop-t-preserved c).After-unsigned_abs-left in
    let one = small here in
    record { value = next here; within = omega arith }

pub returns : goal.returns
returns c =
    let end : c.loop-t.t ≡ length c.args.a.now = search rules in
    compared c.loop-t.left c.args.right (left_by c.args.a.now c.args.b.now c.args.by.first c.args.by.second)
    (c.loop-t.invariant.value ∙ ap (λ n. total n (λ t. magnitude (c.args.by.first *ℤ at c.args.a.now t +ℤ c.args.by.second *ℤ at c.args.b.now t))) end)
