use Rattle.std.proofs.Common.{◌≡◌, ℕ, ◌==◌, ◌&&◌, nat_lt, length, IsTrue, Bool, ℤ, pos, int_lt, unsigned_abs, SFits, to_z-of_z, ap, ◌∙◌, arith, subst}
use Rattle.std.proofs.lemmas.Int.{ints}
use Rattle.std.proofs.lemmas.Bool.Decides.{nat_tests}
use mir.Syntax.{w128}
use Rattle.set_rules.specs.Sum.{total, magnitude}
use Rattle.set_rules.specs.Farkas.{combined_coefficient, combined_right, passes}
use Rattle.set_rules.proofs.TestsHold.{passing-refutes}
use Rattle.farkas_check.proofs.refutation.passes.Goals as goal

-- the two sizes as the code compares them
compared : (m n size reach : ℕ) (left right : ℤ) → m ≡ n → pos size ≡ left → reach ≡ unsigned_abs right → nat_lt size reach ≡ ((m == n) && int_lt left (magnitude right))
compared m n size reach left right long e f = grind (arith, ints, nat_tests)

-- a list of another length
other : (m k n : ℕ) (b : Bool) → ¬ (m ≡ k) → k ≡ n → (m == k) ≡ ((m == n) && b)
other m k n b apart is = grind (arith, nat_tests)

pub returns-then-list-count-clause-value : goal.returns-then-list-count-clause-value
unfolding passes
returns-then-list-count-clause-value c =
    let fits : SFits w128 c.combined_right.result = record { sfits = c.combined_right.type_inv } in
    compared (length c.args.list.now) (length c.args.rows.now.rows) c.combined_size.result c.unsigned_abs.result
    (total c.args.rows.now.width (λ t. magnitude (combined_coefficient c.args.rows.now.rows c.args.list.now t))) (combined_right c.args.rows.now.rows c.args.list.now)
    (c.if-list-count.true ∙ c.count.ensures.value) c.combined_size.ensures
    (c.unsigned_abs.ensures.value ∙ ap unsigned_abs (to_z-of_z fits ∙ c.combined_right.ensures.value))

pub returns-then-list-count-clause-refutes : goal.returns-then-list-count-clause-refutes
returns-then-list-count-clause-refutes c h q s positive meets =
    passing-refutes c.args.rows.now.width q c.args.rows.now.rows c.args.list.now s positive (subst IsTrue (returns-then-list-count-clause-value c) h) meets

pub returns-else-list-count-clause-value : goal.returns-else-list-count-clause-value
unfolding passes
returns-else-list-count-clause-value c =
    other (length c.args.list.now) c.count.result (length c.args.rows.now.rows) _ c.if-list-count.false c.count.ensures.value
