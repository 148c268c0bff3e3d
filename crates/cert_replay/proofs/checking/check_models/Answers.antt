use Rattle.std.proofs.Common.{◌++◌, ap, ◌∙◌, arith}
use Rattle.std.proofs.lemmas.Result.{err_from_is_err_and}
use Rattle.outside_io.specs.Shelf.{SlotState}
use Rattle.telem_csv.specs.Cutter.{rows_owed}
use Rattle.input_files.specs.Files.{files_with}
use Rattle.input_files.specs.Left.{left_of}
use Rattle.input_files.specs.Stream.{stream_fault}
use Rattle.monitor_run.proofs.Opened.{if-some, of-some, with-rows}
use Rattle.cert_replay.specs.Outcome.{SaysOfReport}
use Rattle.cert_replay.proofs.Said.{where-told, rows-said, report-said, opened-said, no-header-said}
use Rattle.input_files.specs.Ended.{without_last, begun_with}
use Rattle.cert_replay.proofs.Ahead.{behind-header, no-header-in_time, no-report-in_time}
use Rattle.cert_replay.proofs.checking.check_models.Goals as goal

pub returns-clause-says : goal.returns-clause-says
returns-clause-says g c = λ named.
    let ms = c.args.models in
    let before = g.F.Shelf.state c.args.shelf.now in
    let both = g.F.Shelf.state c.attach-2.new.self in
    let behind = g.F.Shelf.state c.find_header.new.shelf in
    where-told (before.file c.args.report.now) _ (λ bytes told.
    let report = ap (λ (x : SlotState). x.rest) (c.find_header.ensures.kept.others.slots 2 (omega arith) (omega arith))
    ∙ c.in_ok-attach.ensures.here.begins ∙ c.in-Ok.ensures.others.files c.args.report.now ∙ told in
    let telemetry = ap (λ (x : SlotState). x.rest) (c.in_ok-attach.ensures.others.slots 1 (omega arith) (omega arith)) ∙ c.in-Ok.ensures.here.begins in
    with-rows ms (λ files. SaysOfReport c.check_report.result files bytes) (before.file c.args.telemetry.now) (both.slot 1).rest (behind.slot 1).rest telemetry
    (λ r. rows_owed c.in_ok-head.head c.find_header.new.stream.cutter (left_of c.find_header.new.stream ++ r))
    (rw (c.new-stream.ensures.cutter, c.new-stream.ensures.left, c.inputs.ensures.value, c.outputs.ensures.value) at c.in_ok-head.ensures.header)
    (if-some (behind.slot 1).rest _ _ (λ r h. rows-said c.check_report.result ms _ bytes h) (c.check_report.ensures.says named bytes report)))

pub returns-in_err-head-clause-says : goal.returns-in_err-head-clause-says
returns-in_err-head-clause-says g c = λ named.
    let ms = c.args.models in
    let before = g.F.Shelf.state c.args.shelf.now in
    let both = g.F.Shelf.state c.attach-2.new.self in
    let behind = g.F.Shelf.state c.find_header.new.shelf in
    let telemetry = ap (λ (x : SlotState). x.rest) (c.in_ok-attach.ensures.others.slots 1 (omega arith) (omega arith)) ∙ c.in-Ok.ensures.here.begins in
    let p = err_from_is_err_and c.from_residual-in_err-head.result c.from_residual-in_err-head.ensures.1 in
    rw (p.1, p.2)
    (of-some (before.file c.args.report.now) _ (λ bytes.
    no-header-said ms c.in_err-head.field-0.0 (before.file c.args.telemetry.now) (both.slot 1).rest (behind.slot 1).rest telemetry
    (rw (c.new-stream.ensures.cutter, c.new-stream.ensures.left, c.inputs.ensures.value, c.outputs.ensures.value) at c.in_err-head.ensures.refused) bytes))

pub returns-in_err-attach-clause-says : goal.returns-in_err-attach-clause-says
returns-in_err-attach-clause-says g c = λ named.
    let ms = c.args.models in
    let before = g.F.Shelf.state c.args.shelf.now in
    let p = err_from_is_err_and c.from_residual.result c.from_residual.ensures.1 in
    rw (p.1, p.2)
    (of-some (before.file c.args.report.now) _ (λ bytes. of-some (before.file c.args.telemetry.now) _ (λ t. report-said c.in_err-attach.field-0.0 (files_with ms t) bytes)))

pub returns-in-Err-clause-says : goal.returns-in-Err-clause-says
returns-in-Err-clause-says g c = λ named.
    let ms = c.args.models in
    let before = g.F.Shelf.state c.args.shelf.now in
    rw (c.into.ensures, c.from.ensures)
    (of-some (before.file c.args.report.now) _ (λ bytes. of-some (before.file c.args.telemetry.now) _ (λ t. opened-said c.in-Err.fault (files_with ms t) bytes)))

pub returns-clause-in_time : goal.returns-clause-in_time
returns-clause-in_time g c = λ named.
    let ms = c.args.models in
    let before = g.F.Shelf.state c.args.shelf.now in
    let both = g.F.Shelf.state c.attach-2.new.self in
    let behind = g.F.Shelf.state c.find_header.new.shelf in
    let after = g.F.Shelf.state c.check_report.new.shelf in
    where-told (before.file c.args.report.now) _ (λ bytes told _.
    let report = ap (λ (x : SlotState). x.rest) (c.find_header.ensures.kept.others.slots 2 (omega arith) (omega arith))
    ∙ c.in_ok-attach.ensures.here.begins ∙ c.in-Ok.ensures.others.files c.args.report.now ∙ told in
    let telemetry = ap (λ (x : SlotState). x.rest) (c.in_ok-attach.ensures.others.slots 1 (omega arith) (omega arith)) ∙ c.in-Ok.ensures.here.begins in
    behind-header ms bytes c.in_ok-head.head c.find_header.new.stream.is_ended c.find_header.new.stream.cutter (left_of c.find_header.new.stream)
    (before.file c.args.telemetry.now) (both.slot 1).rest (behind.slot 1).rest (after.slot 1).rest telemetry c.check_report.result
    (rw (c.new-stream.ensures.cutter, c.new-stream.ensures.left, c.inputs.ensures.value, c.outputs.ensures.value) at c.in_ok-head.ensures.takes)
    (c.check_report.ensures.in_time named bytes report))

pub returns-in_err-head-clause-in_time : goal.returns-in_err-head-clause-in_time
returns-in_err-head-clause-in_time g c = λ named.
    let before = g.F.Shelf.state c.args.shelf.now in
    let p = err_from_is_err_and c.from_residual-in_err-head.result c.from_residual-in_err-head.ensures.1 in
    rw (p.1, p.2)
    (of-some (before.file c.args.report.now) _ (λ bytes _.
    no-header-in_time c.in_err-head.field-0.0 (before.file c.args.telemetry.now) ((g.F.Shelf.state c.find_header.new.shelf).slot 1).rest (λ t k. begun_with c.args.models (without_last k t)) bytes))

pub returns-in_err-attach-clause-in_time : goal.returns-in_err-attach-clause-in_time
returns-in_err-attach-clause-in_time g c = λ named.
    let before = g.F.Shelf.state c.args.shelf.now in
    let p = err_from_is_err_and c.from_residual.result c.from_residual.ensures.1 in
    rw (p.1, p.2)
    (of-some (before.file c.args.report.now) _ (λ bytes _.
    no-report-in_time c.in_err-attach.field-0.0 (before.file c.args.telemetry.now) ((g.F.Shelf.state c.attach-2.new.self).slot 1).rest (λ t k. begun_with c.args.models (without_last k t)) bytes))

pub returns-in-Err-clause-in_time : goal.returns-in-Err-clause-in_time
returns-in-Err-clause-in_time g c = λ named.
    let before = g.F.Shelf.state c.args.shelf.now in
    rw (c.into.ensures, c.from.ensures)
    (of-some (before.file c.args.report.now) _ (λ bytes _.
    no-header-in_time (stream_fault c.in-Err.fault) (before.file c.args.telemetry.now) ((g.F.Shelf.state c.attach.new.self).slot 1).rest (λ t k. begun_with c.args.models (without_last k t)) bytes))
