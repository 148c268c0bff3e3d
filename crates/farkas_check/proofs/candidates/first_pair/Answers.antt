use Rattle.std.proofs.Common.{length, sym, arith}
use Rattle.set_rules.specs.Farkas.{passes}
use Rattle.farkas_check.specs.Certificate.{list_of}
use Rattle.farkas_check.specs.Search.{pairs_from}
use Rattle.farkas_check.proofs.Found.{found-part, missed-part}
use Rattle.farkas_check.proofs.candidates.first_pair.Goals as goal

pub returns-in-Some : goal.returns-in-Some
returns-in-Some c =
    sym (found-part (passes c.args.rows.now.width c.args.rows.now.rows) (pairs_from c.args.rows.now.width c.args.rows.now.rows) 0 (length c.args.rows.now.rows) c.loop-r.r (list_of c.in-Some.found)
    (omega arith) (omega arith) (λ k _ l. c.loop-r.invariant k l) (sym c.in-Some.ensures))

pub returns : goal.returns
returns c =
    sym (missed-part (passes c.args.rows.now.width c.args.rows.now.rows) (pairs_from c.args.rows.now.width c.args.rows.now.rows) 0 (length c.args.rows.now.rows) (λ k _ l. c.loop-r.invariant k (omega arith)))
