use Rattle.std.proofs.Common.{◌≡◌, [], ◌∷◌, ◌++◌, true, Err, refl, sym, ap, ◌∙◌, arith, rules, subst}
use Rattle.std.proofs.lemmas.Result.{err_from_is_err_and}
use Rattle.outside_io.specs.Shelf.{SlotState}
use Rattle.plant_model.specs.Seen.{sample_of}
use Rattle.telem_csv.specs.Cutter.{rows_owed}
use Rattle.input_files.specs.Left.{left_of}
use Rattle.input_files.specs.Stream.{BothTold, with_sample}
use Rattle.std.specs.Io.KnownBytes.{IsAtEnd}
use Rattle.report_text.specs.Line.{end, put_text}
use Rattle.cert_replay.specs.Ends.{EndDeparts}
use Rattle.cert_replay.specs.Faults.{IsSampleFault}
use Rattle.cert_replay.specs.declared.fault.CheckFault.TheVariants.{Telemetry, Report}
use Rattle.cert_replay.proofs.Turned.{no-turn, one-turn, turn-fault, turn-refused, turn-ends, unread-same, checked-same, if-err-at, if-ok-at, on-ok-at}
use Rattle.input_files.specs.Ended.{TakesRow, EndsNoRow}
use Rattle.input_files.proofs.Streams.{told-then, both-told}
use Rattle.monitor_run.proofs.InTime.{InTime, in_time-init, one-in_time, piece-short}
use Rattle.cert_replay.proofs.Ahead.{ends-in_time, stream-in_time, end-after, RowsEnd}
use Rattle.cert_replay.proofs.checking.check_rows.Goals as goal

pub rows-init : goal.rows-init
rows-init g c = record {
  going = c.requires.going;
  ended = c.requires.ended;
  inputs = c.requires.inputs;
  outputs = c.requires.outputs;
  ready = c.requires.ready;
  counts = refl;
  taken = (
    [],
    no-turn c.args.head.now c.args.replay.now (g.F.Shelf.state c.args.shelf.now) c.args.stream.now.cutter (left_of c.args.stream.now) ((g.F.Shelf.state c.args.shelf.now).slot 1).rest,
    in_time-init c.args.head.now c.args.stream.now.is_ended c.args.stream.now.cutter (left_of c.args.stream.now) ((g.F.Shelf.state c.args.shelf.now).slot 1).rest c.requires.ended,
  );
  room = omega (arith, c.requires.begins);
  both = search rules;
}

pub rows-preserved : goal.rows-preserved
rows-preserved g c =
    let before = g.F.Shelf.state c.rows.shelf in
    let next = g.F.Shelf.state c.next_row.new.shelf in
    let after = g.F.Shelf.state c.check_sample.new.shelf in
    let inv = c.rows.invariant in
    let one = sample_of c.in-Some.sample in
    let row = rw c.in-Some.is at c.in_ok-sample.ensures.row in
    let going = rw c.in-Some.is at c.in_ok-sample.ensures.going in
    let fewer = rw c.in-Some.is at c.in_ok-sample.ensures.fewer in
    let takes = rw c.in-Some.is at c.in_ok-sample.ensures.takes in
    let rest0 = ((g.F.Shelf.state c.args.shelf.now).slot 1).rest in
    let report : next.slot 2 ≡ before.slot 2 = c.next_row.ensures.kept.others.slots 2 (omega arith) (omega arith) in
    let telemetry : after.slot 1 ≡ next.slot 1 = c.check_sample.ensures.kept.others.slots 1 (omega arith) (omega arith) in
    let told = subst (λ (x : SlotState). BothTold (before.slot 1).rest x.rest
    (λ r r'. rows_owed c.args.head.now c.rows.stream.cutter (left_of c.rows.stream ++ r) ≡ with_sample one (rows_owed c.args.head.now c.next_row.new.stream.cutter (left_of c.next_row.new.stream ++ r')))) (sym telemetry) row in
    record {
      going = going;
      ended = subst (λ (x : SlotState). c.next_row.new.stream.is_ended ≡ true → (left_of c.next_row.new.stream ≡ []) × IsAtEnd x.rest) (sym telemetry) c.next_row.ensures.ended;
      inputs = search rules;
      outputs = search rules;
      ready = c.in_ok-check_sample-in-Some.ensures.ready;
      counts = c.check_sample.ensures.counts ∙ inv.counts;
      taken = (
        inv.taken.0 ++ one ∷ [],
        one-turn inv.taken.1 c.next_row.new.stream.cutter (left_of c.next_row.new.stream) (after.slot 1).rest one told c.check_sample.new.self after
            (λ names ps taken bytes models checked. c.in_ok-check_sample-in-Some.ensures.taken names ps taken bytes models (checked-same names ps taken bytes c.rows.replay before next report checked)) inv.counts,
        subst (λ (x : SlotState). BothTold rest0 x.rest (λ r r'. InTime c.args.head.now c.next_row.new.stream.is_ended c.args.stream.now.cutter c.next_row.new.stream.cutter (left_of c.args.stream.now ++ r) (left_of c.next_row.new.stream ++ r') (inv.taken.0 ++ one ∷ []))) (sym telemetry)
            (told-then rest0 (before.slot 1).rest (next.slot 1).rest (λ r r'. InTime c.args.head.now c.rows.stream.is_ended c.args.stream.now.cutter c.rows.stream.cutter (left_of c.args.stream.now ++ r) (left_of c.rows.stream ++ r') inv.taken.0)
            (λ r r'. TakesRow c.args.head.now one c.next_row.new.stream.is_ended c.rows.stream.cutter c.next_row.new.stream.cutter (left_of c.rows.stream ++ r) (left_of c.next_row.new.stream ++ r'))
            (λ r r'. InTime c.args.head.now c.next_row.new.stream.is_ended c.args.stream.now.cutter c.next_row.new.stream.cutter (left_of c.args.stream.now ++ r) (left_of c.next_row.new.stream ++ r') (inv.taken.0 ++ one ∷ []))
            (λ x y z time row. one-in_time time one c.next_row.ensures.stays row) inv.taken.2 takes),
      );
      room = omega (arith, fewer, inv.room, c.in_ok-check_sample-in-Some.ensures.count);
      both = search rules;
    }

pub returns-in-None-clause-says : goal.returns-in-None-clause-says
returns-in-None-clause-says g c = λ names ps bytes models begun.
    let before = g.F.Shelf.state c.rows.shelf in
    let next = g.F.Shelf.state c.next_row.new.shelf in
    let inv = c.rows.invariant in
    let told = rw c.in-None.is at c.in_ok-sample.ensures.end in
    let report : next.slot 2 ≡ before.slot 2 = c.next_row.ensures.kept.others.slots 2 (omega arith) (omega arith) in
    let w = c.rows.replay.window in
    turn-ends inv.taken.1 names ps bytes models begun (next.slot 1).rest told c.check_end.result
    (λ line e unread u. subst (λ n. EndDeparts n w.lines unread line) c.count.ensures (if-err-at c.check_end.result _ _ c.check_end.ensures.departs e line refl unread (unread-same w before next report unread u)))
    (λ accepted e. (
      if-ok-at c.check_end.result _ accepted c.check_end.ensures.done e ∙ c.count.ensures,
      λ unread u. on-ok-at c.check_end.result _ accepted c.check_end.ensures.stands e unread (unread-same w before next report unread u) ∙ ap (λ n. put_text (end n)) c.count.ensures,
    ))
    (λ fault e. if-err-at c.check_end.result IsSampleFault (Telemetry fault) c.check_end.ensures.fault e)

pub returns-in_err-sample-clause-says : goal.returns-in_err-sample-clause-says
returns-in_err-sample-clause-says g c = λ names ps bytes models begun.
    let p = err_from_is_err_and c.from_residual.result c.from_residual.ensures.1 in
    rw (p.1, p.2)
    (turn-refused c.rows.invariant.taken.1 names ps bytes models begun c.in_err-sample.field-0.0 ((g.F.Shelf.state c.next_row.new.shelf).slot 1).rest
    (λ fault e. c.in_err-sample.ensures.refused fault e))

pub returns-in_err-check_sample-in-Some-clause-says : goal.returns-in_err-check_sample-in-Some-clause-says
returns-in_err-check_sample-in-Some-clause-says g c = λ names ps bytes models begun.
    let before = g.F.Shelf.state c.rows.shelf in
    let next = g.F.Shelf.state c.next_row.new.shelf in
    let inv = c.rows.invariant in
    let row = rw c.in-Some.is at c.in_ok-sample.ensures.row in
    let report : next.slot 2 ≡ before.slot 2 = c.next_row.ensures.kept.others.slots 2 (omega arith) (omega arith) in
    let p = err_from_is_err_and c.from_residual-in_err-check_sample-in-Some.result c.from_residual-in_err-check_sample-in-Some.ensures.1 in
    rw (p.1, p.2)
    (turn-fault inv.taken.1 c.next_row.new.stream.cutter (left_of c.next_row.new.stream) (next.slot 1).rest (sample_of c.in-Some.sample) row names ps bytes models begun inv.counts
    c.in_err-check_sample-in-Some.field-0.0 c.in_err-check_sample-in-Some.ensures.fault
    (λ names ps taken bytes models checked. c.in_err-check_sample-in-Some.ensures.departs names ps taken bytes models (checked-same names ps taken bytes c.rows.replay before next report checked)))

pub returns-in-None-clause-in_time : goal.returns-in-None-clause-in_time
returns-in-None-clause-in_time g c = λ names ps bytes models begun.
    let before = g.F.Shelf.state c.rows.shelf in
    let next = g.F.Shelf.state c.next_row.new.shelf in
    let after = g.F.Shelf.state c.check_end.new.shelf in
    let rest0 = ((g.F.Shelf.state c.args.shelf.now).slot 1).rest in
    let inv = c.rows.invariant in
    let none = rw c.in-None.is at c.in_ok-sample.ensures.no_more in
    let report : next.slot 2 ≡ before.slot 2 = c.next_row.ensures.kept.others.slots 2 (omega arith) (omega arith) in
    let telemetry : after.slot 1 ≡ next.slot 1 = c.check_end.ensures.kept.others.slots 1 (omega arith) (omega arith) in
    let now = inv.taken.1.checked names ps bytes models begun in
    let w = c.rows.replay.window in
    subst (λ (x : SlotState). RowsEnd c.args.head.now c.args.stream.now.cutter (left_of c.args.stream.now) rest0 x.rest names ps bytes c.check_end.result) (sym telemetry)
    (ends-in_time c.args.head.now c.args.stream.now.cutter (left_of c.args.stream.now) rest0 (next.slot 1).rest names ps bytes
    c.rows.stream.is_ended c.rows.stream.cutter (left_of c.rows.stream) (left_of c.next_row.new.stream) (before.slot 1).rest inv.taken.0 inv.taken.2
    (piece-short c.next_row.new.stream.piece c.next_row.new.stream.at c.next_row.new.stream.end c.next_row.new.stream.short) none c.rows.replay before now c.check_end.result
    (λ line e. end-after _ w.lines now.unread line (if-err-at c.check_end.result _ _ c.check_end.ensures.departs e line refl now.unread (unread-same w before next report now.unread now.left))))

pub returns-in_err-sample-clause-in_time : goal.returns-in_err-sample-clause-in_time
returns-in_err-sample-clause-in_time g c = λ names ps bytes models begun.
    let p = err_from_is_err_and c.from_residual.result c.from_residual.ensures.1 in
    rw (p.1, p.2)
    (stream-in_time c.args.head.now c.args.stream.now.cutter (left_of c.args.stream.now) ((g.F.Shelf.state c.args.shelf.now).slot 1).rest ((g.F.Shelf.state c.next_row.new.shelf).slot 1).rest names ps bytes c.in_err-sample.field-0.0)

pub returns-in_err-check_sample-in-Some-clause-in_time : goal.returns-in_err-check_sample-in-Some-clause-in_time
returns-in_err-check_sample-in-Some-clause-in_time g c = λ names ps bytes models begun.
    let before = g.F.Shelf.state c.rows.shelf in
    let next = g.F.Shelf.state c.next_row.new.shelf in
    let after = g.F.Shelf.state c.check_sample.new.shelf in
    let rest0 = ((g.F.Shelf.state c.args.shelf.now).slot 1).rest in
    let inv = c.rows.invariant in
    let one = sample_of c.in-Some.sample in
    let takes = rw c.in-Some.is at c.in_ok-sample.ensures.takes in
    let telemetry : after.slot 1 ≡ next.slot 1 = c.check_sample.ensures.kept.others.slots 1 (omega arith) (omega arith) in
    let now = inv.taken.1.checked names ps bytes models begun in
    let p = err_from_is_err_and c.from_residual-in_err-check_sample-in-Some.result c.from_residual-in_err-check_sample-in-Some.ensures.1 in
    let fault = c.in_err-check_sample-in-Some.field-0.0 in
    rw (p.1, p.2)
    (subst (λ (x : SlotState). RowsEnd c.args.head.now c.args.stream.now.cutter (left_of c.args.stream.now) rest0 x.rest names ps bytes (Err fault)) (sym telemetry)
    (ends-in_time c.args.head.now c.args.stream.now.cutter (left_of c.args.stream.now) rest0 (next.slot 1).rest names ps bytes
    c.rows.stream.is_ended c.rows.stream.cutter (left_of c.rows.stream) (left_of c.next_row.new.stream) (before.slot 1).rest inv.taken.0 inv.taken.2
    (piece-short c.next_row.new.stream.piece c.next_row.new.stream.at c.next_row.new.stream.end c.next_row.new.stream.short)
    (both-told (before.slot 1).rest (next.slot 1).rest (λ r r'. TakesRow c.args.head.now one c.next_row.new.stream.is_ended c.rows.stream.cutter c.next_row.new.stream.cutter (left_of c.rows.stream ++ r) (left_of c.next_row.new.stream ++ r'))
    (λ r r'. EndsNoRow c.args.head.now c.rows.stream.cutter (left_of c.rows.stream ++ r) (left_of c.next_row.new.stream ++ r')) (λ r r' row. row.before) takes)
    c.rows.replay before now (Err fault)
    (λ line e. let same : fault ≡ Report line = cc in c.in_err-check_sample-in-Some.ensures.behind line same)))
