use Rattle.std.proofs.Common.{◌+◌, ◌-◌, length, sym, arith}
use Rattle.set_rules.specs.Farkas.{passes, pairs_at}
use Rattle.farkas_check.specs.Certificate.{list_of}
use Rattle.farkas_check.proofs.Found.{found-part, missed-part}
use Rattle.farkas_check.proofs.candidates.first_from.Goals as goal

pub returns-in-Some : goal.returns-in-Some
returns-in-Some c =
    sym (found-part (passes c.args.rows.now.width c.args.rows.now.rows) (pairs_at c.args.rows.now.width c.args.rows.now.rows c.args.r)
    (c.args.r + 1) (length c.args.rows.now.rows - (c.args.r + 1)) c.loop-s.s (list_of c.in-Some.found) (omega arith) (omega arith) (λ k h l. c.loop-s.invariant k (omega arith) l) (sym c.in-Some.ensures))

pub returns : goal.returns
returns c =
    sym (missed-part (passes c.args.rows.now.width c.args.rows.now.rows) (pairs_at c.args.rows.now.width c.args.rows.now.rows c.args.r)
    (c.args.r + 1) (length c.args.rows.now.rows - (c.args.r + 1)) (λ k h l. c.loop-s.invariant k (omega arith) (omega arith)))
