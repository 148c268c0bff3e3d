use Rattle.std.proofs.Common.{[], ◌∷◌, ◌++◌, arith, rules}
use Rattle.std.proofs.lemmas.Result.{err_from_is_err_and}
use Rattle.outside_io.proofs.Fronts.{on-ok, on-err}
use Rattle.plant_model.specs.Seen.{sample_of}
use Rattle.telem_csv.specs.Cutter.{rows_owed}
use Rattle.model_bank.specs.Seen.{sample_seen}
use Rattle.input_files.specs.Left.{left_of}
use Rattle.report_text.specs.Line.{lines_text, end}
use Rattle.input_files.specs.Ended.{TakesRow, EndsNoRow}
use Rattle.input_files.proofs.Streams.{told-then, both-told}
use Rattle.monitor_run.specs.Rows.{AreRows}
use Rattle.monitor_run.proofs.InTime.{InTime, in_time-init, one-in_time, put-in_time, stream-in_time, last-in_time, piece-short}
use Rattle.monitor_run.proofs.Turns.{nothing-yet, one-more, front-more, so-far, refused-says, refused-puts, all-says, all-puts, all-front, put-cut, telemetry-says, telemetry-puts, last-says, last-puts}
use Rattle.monitor_run.proofs.reporting.put_rows.Goals as goal

pub rows-init : goal.rows-init
rows-init g c = record {
  going = c.requires.going;
  inputs = c.requires.inputs;
  outputs = c.requires.outputs;
  taken = (
    [],
    nothing-yet c.args.head.now c.args.bank.now c.args.stream.now.cutter (left_of c.args.stream.now) ((g.F.Shelf.state c.args.shelf.now).slot 1).rest (g.O.Sink.state c.args.out.now) c.requires.begins,
    in_time-init c.args.head.now c.args.stream.now.is_ended c.args.stream.now.cutter (left_of c.args.stream.now) ((g.F.Shelf.state c.args.shelf.now).slot 1).rest c.requires.ended,
  );
  ended = c.requires.ended;
  stays = λ h. h;
  room = omega arith;
  faults = omega arith;
  kept = search rules;
}

pub rows-preserved : goal.rows-preserved
rows-preserved g c =
    let row = rw c.in-Some.is at c.in_ok-sample.ensures.row in
    let going = rw c.in-Some.is at c.in_ok-sample.ensures.going in
    let fewer = rw c.in-Some.is at c.in_ok-sample.ensures.fewer in
    let takes = rw c.in-Some.is at c.in_ok-sample.ensures.takes in
    let rest0 = ((g.F.Shelf.state c.args.shelf.now).slot 1).rest in
    let rest1 = ((g.F.Shelf.state c.rows.shelf).slot 1).rest in
    let rest2 = ((g.F.Shelf.state c.next_row.new.shelf).slot 1).rest in
    record {
      going = going;
      inputs = search rules;
      outputs = search rules;
      taken = (
        c.rows.invariant.taken.0 ++ sample_of c.in-Some.sample ∷ [],
        one-more c.rows.invariant.taken.1 c.next_row.new.stream.cutter (left_of c.next_row.new.stream) ((g.F.Shelf.state c.next_row.new.shelf).slot 1).rest (sample_of c.in-Some.sample) row c.step_into.new.self (sample_seen c.step_into.new.earlier) (g.O.Sink.state c.put_sample.new.out) c.step_into.ensures.taken c.step_into.ensures.count c.in_ok-put_sample-in-Some.ensures.whole,
        told-then rest0 rest1 rest2 (λ r r'. InTime c.args.head.now c.rows.stream.is_ended c.args.stream.now.cutter c.rows.stream.cutter (left_of c.args.stream.now ++ r) (left_of c.rows.stream ++ r') c.rows.invariant.taken.0)
            (λ r r'. TakesRow c.args.head.now (sample_of c.in-Some.sample) c.next_row.new.stream.is_ended c.rows.stream.cutter c.next_row.new.stream.cutter (left_of c.rows.stream ++ r) (left_of c.next_row.new.stream ++ r'))
            (λ r r'. InTime c.args.head.now c.next_row.new.stream.is_ended c.args.stream.now.cutter c.next_row.new.stream.cutter (left_of c.args.stream.now ++ r) (left_of c.next_row.new.stream ++ r') (c.rows.invariant.taken.0 ++ sample_of c.in-Some.sample ∷ []))
            (λ x y z time row. one-in_time time (sample_of c.in-Some.sample) c.next_row.ensures.stays row) c.rows.invariant.taken.2 takes,
      );
      ended = c.next_row.ensures.ended;
      stays = λ h. c.rows.invariant.stays (c.next_row.ensures.stays h);
      room = omega (arith, fewer);
      faults = omega (arith, c.in_ok-put_sample-in-Some.ensures.failed);
      kept = search rules;
    }

pub returns-in_err-put_sample-in-Some-clause-puts : goal.returns-in_err-put_sample-in-Some-clause-puts
returns-in_err-put_sample-in-Some-clause-puts g c = λ ps stands.
    let row = rw c.in-Some.is at c.in_ok-sample.ensures.row in
    let p = err_from_is_err_and c.from_residual-in_err-put_sample-in-Some.result c.from_residual-in_err-put_sample-in-Some.ensures.1 in
    rw p.1
    (put-cut c.in_err-put_sample-in-Some.field-0.0 p.0 p.2 ((g.F.Shelf.state c.args.shelf.now).slot 1).rest (g.O.Sink.state c.args.out.now) (g.O.Sink.state c.put_sample.new.out) (λ r. AreRows ps (rows_owed c.args.head.now c.args.stream.now.cutter (left_of c.args.stream.now ++ r)))
    (front-more c.rows.invariant.taken.1 c.next_row.new.stream.cutter (left_of c.next_row.new.stream) ((g.F.Shelf.state c.next_row.new.shelf).slot 1).rest (sample_of c.in-Some.sample) row c.step_into.new.self (sample_seen c.step_into.new.earlier) (g.O.Sink.state c.put_sample.new.out) c.step_into.ensures.taken ps stands c.in_err-put_sample-in-Some.ensures.front))

pub returns-in-None-clause-says : goal.returns-in-None-clause-says
returns-in-None-clause-says g c =
    let end = rw c.in-None.is at c.in_ok-sample.ensures.end in
    last-says ((g.F.Shelf.state c.args.shelf.now).slot 1).rest c.put_last.result c.rows.bank.count (λ r. rows_owed c.args.head.now c.args.stream.now.cutter (left_of c.args.stream.now ++ r)) c.put_last.ensures.puts.faults (rw c.count.ensures at c.put_last.ensures.done)
    (all-says c.rows.invariant.taken.1 ((g.F.Shelf.state c.next_row.new.shelf).slot 1).rest end)

pub returns-in-None-clause-puts : goal.returns-in-None-clause-puts
returns-in-None-clause-puts g c = λ ps stands.
    let end = rw c.in-None.is at c.in_ok-sample.ensures.end in
    let last = rw c.count.ensures at c.put_last.ensures.puts in
    last-puts ((g.F.Shelf.state c.args.shelf.now).slot 1).rest c.put_last.result (g.O.Sink.state c.args.out.now) (g.O.Sink.state c.put_last.new.out) (λ r. AreRows ps (rows_owed c.args.head.now c.args.stream.now.cutter (left_of c.args.stream.now ++ r))) c.put_last.ensures.puts.faults
    (on-ok c.put_last.result _ _ (all-puts c.rows.invariant.taken.1 ((g.F.Shelf.state c.next_row.new.shelf).slot 1).rest end (g.O.Sink.state c.put_last.new.out) ps stands) last.whole)
    (on-err c.put_last.result _ _ (all-front c.rows.invariant.taken.1 ((g.F.Shelf.state c.next_row.new.shelf).slot 1).rest end (g.O.Sink.state c.put_last.new.out) ps stands) last.front)

pub returns-in_err-sample-clause-says : goal.returns-in_err-sample-clause-says
returns-in_err-sample-clause-says g c =
    let p = err_from_is_err_and c.from_residual.result c.from_residual.ensures.1 in
    rw p.1
    (telemetry-says c.in_err-sample.field-0.0 p.0 p.2 ((g.F.Shelf.state c.args.shelf.now).slot 1).rest (λ r. rows_owed c.args.head.now c.args.stream.now.cutter (left_of c.args.stream.now ++ r))
    (λ fault e. refused-says c.rows.invariant.taken.1 fault ((g.F.Shelf.state c.next_row.new.shelf).slot 1).rest (c.in_err-sample.ensures.refused fault e)))

pub returns-in_err-sample-clause-puts : goal.returns-in_err-sample-clause-puts
returns-in_err-sample-clause-puts g c = λ ps stands.
    let p = err_from_is_err_and c.from_residual.result c.from_residual.ensures.1 in
    rw p.1
    (telemetry-puts c.in_err-sample.field-0.0 p.0 p.2 ((g.F.Shelf.state c.args.shelf.now).slot 1).rest (g.O.Sink.state c.args.out.now) (g.O.Sink.state c.rows.out) (λ r. AreRows ps (rows_owed c.args.head.now c.args.stream.now.cutter (left_of c.args.stream.now ++ r)))
    (λ fault e. refused-puts c.rows.invariant.taken.1 fault ((g.F.Shelf.state c.next_row.new.shelf).slot 1).rest (c.in_err-sample.ensures.refused fault e) ps stands)
    (so-far c.rows.invariant.taken.1 ps stands))

pub returns-in_err-put_sample-in-Some-clause-in_time : goal.returns-in_err-put_sample-in-Some-clause-in_time
returns-in_err-put_sample-in-Some-clause-in_time g c = λ ps stands.
    let takes = rw c.in-Some.is at c.in_ok-sample.ensures.takes in
    let rest1 = ((g.F.Shelf.state c.rows.shelf).slot 1).rest in
    let rest2 = ((g.F.Shelf.state c.next_row.new.shelf).slot 1).rest in
    let p = err_from_is_err_and c.from_residual-in_err-put_sample-in-Some.result c.from_residual-in_err-put_sample-in-Some.ensures.1 in
    rw p.1
    (put-in_time c.args.head.now c.args.stream.now.cutter (left_of c.args.stream.now) ((g.F.Shelf.state c.args.shelf.now).slot 1).rest c.args.stream.now.is_ended (g.O.Sink.state c.args.out.now) c.rows.stream.is_ended c.rows.stream.cutter (left_of c.rows.stream) rest1 (g.O.Sink.state c.rows.out) c.rows.invariant.taken.0 c.rows.invariant.taken.2 ps c.rows.invariant.taken.1.choice (c.rows.invariant.taken.1.chosen ps stands) (c.rows.invariant.taken.1.puts ps stands)
    c.in_err-put_sample-in-Some.field-0.0 p.0 p.2 (left_of c.next_row.new.stream) rest2 (g.O.Sink.state c.put_sample.new.out) _ (piece-short c.next_row.new.stream.piece c.next_row.new.stream.at c.next_row.new.stream.end c.next_row.new.stream.short) c.in_err-put_sample-in-Some.ensures.front
    (both-told rest1 rest2 (λ r r'. TakesRow c.args.head.now (sample_of c.in-Some.sample) c.next_row.new.stream.is_ended c.rows.stream.cutter c.next_row.new.stream.cutter (left_of c.rows.stream ++ r) (left_of c.next_row.new.stream ++ r'))
    (λ r r'. EndsNoRow c.args.head.now c.rows.stream.cutter (left_of c.rows.stream ++ r) (left_of c.next_row.new.stream ++ r')) (λ r r' row. row.before) takes))

pub returns-in-None-clause-in_time : goal.returns-in-None-clause-in_time
returns-in-None-clause-in_time g c = λ ps stands.
    let none = rw c.in-None.is at c.in_ok-sample.ensures.no_more in
    let last = rw c.count.ensures at c.put_last.ensures.puts in
    let rest1 = ((g.F.Shelf.state c.rows.shelf).slot 1).rest in
    let rest2 = ((g.F.Shelf.state c.next_row.new.shelf).slot 1).rest in
    last-in_time c.args.head.now c.args.stream.now.cutter (left_of c.args.stream.now) ((g.F.Shelf.state c.args.shelf.now).slot 1).rest c.args.stream.now.is_ended (g.O.Sink.state c.args.out.now) c.rows.stream.is_ended c.rows.stream.cutter (left_of c.rows.stream) rest1 (g.O.Sink.state c.rows.out) c.rows.invariant.taken.0 c.rows.invariant.taken.2 ps c.rows.invariant.taken.1.choice (c.rows.invariant.taken.1.chosen ps stands) (c.rows.invariant.taken.1.puts ps stands)
    c.put_last.result (left_of c.next_row.new.stream) rest2 (g.O.Sink.state c.put_last.new.out) (lines_text (end c.rows.bank.count ∷ [])) (piece-short c.next_row.new.stream.piece c.next_row.new.stream.at c.next_row.new.stream.end c.next_row.new.stream.short) last.faults last.front none

pub returns-in_err-sample-clause-in_time : goal.returns-in_err-sample-clause-in_time
returns-in_err-sample-clause-in_time g c = λ ps stands.
    let rest1 = ((g.F.Shelf.state c.rows.shelf).slot 1).rest in
    let rest2 = ((g.F.Shelf.state c.next_row.new.shelf).slot 1).rest in
    let p = err_from_is_err_and c.from_residual.result c.from_residual.ensures.1 in
    rw p.1
    (stream-in_time c.args.head.now c.args.stream.now.cutter (left_of c.args.stream.now) ((g.F.Shelf.state c.args.shelf.now).slot 1).rest c.args.stream.now.is_ended (g.O.Sink.state c.args.out.now) c.rows.stream.is_ended c.rows.stream.cutter (left_of c.rows.stream) rest1 (g.O.Sink.state c.rows.out) c.rows.invariant.taken.0 c.rows.invariant.taken.2 ps c.rows.invariant.taken.1.choice (c.rows.invariant.taken.1.chosen ps stands) (c.rows.invariant.taken.1.puts ps stands)
    c.in_err-sample.field-0.0 p.0 p.2 (left_of c.next_row.new.stream) rest2 c.rows.invariant.stays (λ is. (c.in_err-sample.ensures.failed is).unended) (λ is. (c.in_err-sample.ensures.failed is).used) c.in_err-sample.ensures.no_line)
