use Rattle.std.proofs.Common.{◌∙◌, sym, arith}
use Rattle.set_rules.specs.Farkas.{passes, pair_at}
use Rattle.farkas_check.specs.Certificate.{list_of}
use Rattle.farkas_check.specs.Search.{first_at, first_in_column}
use Rattle.farkas_check.proofs.Found.{found-part, missed-part}
use Rattle.farkas_check.proofs.Sides.{none-first}
use Rattle.farkas_check.proofs.candidates.first_at.Goals as goal

pub returns-then-is_hopeless : goal.returns-then-is_hopeless
returns-then-is_hopeless c =
    sym ((λ i. first_at c.args.rows.now.width c.args.rows.now.rows (sym c.of-pair.ensures.first i) (sym c.of-pair.ensures.second i))
    ∙ none-first c.args.rows.now c.of-pair.result c.of-pair.ensures.pair (c.is_hopeless.ensures c.if-is_hopeless.true))

pub returns-in-Some : goal.returns-in-Some
returns-in-Some c =
    sym (found-part (passes c.args.rows.now.width c.args.rows.now.rows) (pair_at c.args.rows.now.rows c.args.r c.args.s) 0 c.args.rows.now.width c.loop-t.t (list_of c.in-Some.found)
    (omega arith) (omega arith) (λ k _ l. c.loop-t.invariant k l)
    (sym (c.in-Some.ensures ∙ (λ i. first_in_column c.args.rows.now.width c.args.rows.now.rows (c.of-pair.ensures.first i) (c.of-pair.ensures.second i) c.loop-t.t))))

pub returns : goal.returns
returns c =
    sym (missed-part (passes c.args.rows.now.width c.args.rows.now.rows) (pair_at c.args.rows.now.rows c.args.r c.args.s) 0 c.args.rows.now.width (λ k _ l. c.loop-t.invariant k (omega arith)))
