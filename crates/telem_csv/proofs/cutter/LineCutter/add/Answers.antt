use Rattle.std.proofs.Common.{sym}
use Rattle.telem_csv.proofs.Cuts.{no_feed_before, feed_found, feed_not_found, no_feed_at_all}
use Rattle.telem_csv.proofs.cutter.LineCutter.add.Goals as goal

pub end_line-requires : goal.end_line-requires
end_line-requires c = rw (feed_found c.args.piece.now c.in-Some.at c.in-Some.ensures.place).before (no_feed_before c.args.piece.now)

pub extend_line-requires : goal.extend_line-requires
extend_line-requires c = feed_not_found c.args.piece.now c.in-None.ensures.place

pub returns-in-Some-clause-answer : goal.returns-in-Some-clause-answer
returns-in-Some-clause-answer c =
    let found = feed_found c.args.piece.now c.in-Some.at c.in-Some.ensures.place in
    rw (sym found.before, found.some) c.end_line.ensures.answer

pub returns-in-None-clause-answer : goal.returns-in-None-clause-answer
returns-in-None-clause-answer c =
    let none = feed_not_found c.args.piece.now c.in-None.ensures.place in
    rw (no_feed_at_all c.args.piece.now none, none) c.extend_line.ensures.answer
