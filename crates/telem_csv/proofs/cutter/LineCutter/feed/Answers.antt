use Rattle.std.proofs.Common.{sym}
use Rattle.telem_csv.proofs.Owed.{fed_by_steps, rows_of_feed, telemetry_of_feed}
use Rattle.telem_csv.proofs.Taken.{taken_fits, more_takes_all}
use Rattle.telem_csv.proofs.cutter.LineCutter.feed.Goals as goal

pub returns-clause-rows : goal.returns-clause-rows
returns-clause-rows c goes =
    let fed = fed_by_steps c.args.self.now _ _ c.args.piece.now _ _ goes c.go_on.ensures c.add.ensures.answer c.add.ensures.taken c.add.ensures.after in
    rows_of_feed c.args.self.now _ c.args.piece.now _ _ (rw (sym c.self.view_is) c.self.invariant.no_feed) fed.is_answer fed.is_taken fed.is_after goes

pub returns-clause-telemetry : goal.returns-clause-telemetry
returns-clause-telemetry c goes =
    let fed = fed_by_steps c.args.self.now _ _ c.args.piece.now _ _ goes c.go_on.ensures c.add.ensures.answer c.add.ensures.taken c.add.ensures.after in
    telemetry_of_feed c.args.self.now _ c.args.piece.now _ _ (rw (sym c.self.view_is) c.self.invariant.no_feed) fed.is_answer fed.is_taken fed.is_after goes

pub returns-clause-within : goal.returns-clause-within
returns-clause-within c = rw (c.add.ensures.taken, c.add.ensures.answer) (taken_fits c.go_on.new.self c.args.piece.now)

pub returns-clause-more : goal.returns-clause-more
returns-clause-more c = more_takes_all c.go_on.new.self c.args.piece.now c.add.result.1 c.add.result.0 c.add.ensures.answer c.add.ensures.taken
