use Rattle.std.proofs.Common.{◌++◌, ◌≤◌, arith, ap, sym, ◌∙◌}
use Rattle.std.proofs.lemmas.Result.{err_from_is_err_and}
use Rattle.telem_csv.specs.Cutter.{current, rows_owed}
use Rattle.input_files.specs.Left.{left_of}
use Rattle.input_files.specs.Files.{most_telemetry}
use Rattle.monitor_run.specs.Reports.{IsReportOf, IsReportOfRows}
use Rattle.monitor_run.proofs.Begun.{behind-header, no-header-in_time, not-asked}
use Rattle.monitor_run.specs.Outcome.{SaysOfFiles, PutsReport}
use Rattle.monitor_run.specs.Rows.{ending_of}
use Rattle.monitor_run.proofs.Opened.{if-some, with-rows, no-header-says, no-header-puts, unopened-puts, rows-say}
use Rattle.monitor_run.proofs.reporting.monitor_models.Goals as goal

pub put_report-requires-clause-short : goal.put_report-requires-clause-short
put_report-requires-clause-short g c =
    let room : (current c.find_header.new.stream.cutter).room ≤ most_telemetry = rw c.new-stream.ensures.cutter at c.in_ok-head.ensures.room in
    omega (arith, room)

pub returns-clause-says : goal.returns-clause-says
returns-clause-says g c =
    let before = g.F.Shelf.state c.args.shelf.now in
    let opened = g.F.Shelf.state c.attach.new.self in
    let behind = g.F.Shelf.state c.find_header.new.shelf in
    with-rows c.args.models (SaysOfFiles c.put_report.result) (before.file c.args.telemetry.now) (opened.slot 1).rest (behind.slot 1).rest c.in-Ok.ensures.here.begins
    (λ r. rows_owed c.in_ok-head.head c.find_header.new.stream.cutter (left_of c.find_header.new.stream ++ r))
    (rw (c.new-stream.ensures.cutter, c.new-stream.ensures.left, c.inputs.ensures.value, c.outputs.ensures.value) at c.in_ok-head.ensures.header)
    (if-some (behind.slot 1).rest _ _ (λ r h. rows-say c.put_report.result c.args.models _ h) c.put_report.ensures.says)

pub returns-clause-puts : goal.returns-clause-puts
returns-clause-puts g c =
    let before = g.F.Shelf.state c.args.shelf.now in
    let opened = g.F.Shelf.state c.attach.new.self in
    let behind = g.F.Shelf.state c.find_header.new.shelf in
    with-rows c.args.models (λ f. PutsReport (IsReportOf f) (g.O.Sink.state c.args.out.now) c.put_report.result (g.O.Sink.state c.put_report.new.out))
    (before.file c.args.telemetry.now) (opened.slot 1).rest (behind.slot 1).rest c.in-Ok.ensures.here.begins
    (λ r. rows_owed c.in_ok-head.head c.find_header.new.stream.cutter (left_of c.find_header.new.stream ++ r))
    (rw (c.new-stream.ensures.cutter, c.new-stream.ensures.left, c.inputs.ensures.value, c.outputs.ensures.value) at c.in_ok-head.ensures.header)
    c.put_report.ensures.puts

pub returns-in_err-head-clause-says : goal.returns-in_err-head-clause-says
returns-in_err-head-clause-says g c =
    let before = g.F.Shelf.state c.args.shelf.now in
    let opened = g.F.Shelf.state c.attach.new.self in
    let behind = g.F.Shelf.state c.find_header.new.shelf in
    let p = err_from_is_err_and c.from_residual.result c.from_residual.ensures.1 in
    rw p.1
    (no-header-says c.args.models c.in_err-head.field-0.0 p.0 p.2 (before.file c.args.telemetry.now) (opened.slot 1).rest (behind.slot 1).rest c.in-Ok.ensures.here.begins
    (rw (c.new-stream.ensures.cutter, c.new-stream.ensures.left, c.inputs.ensures.value, c.outputs.ensures.value) at c.in_err-head.ensures.refused))

pub returns-in_err-head-clause-puts : goal.returns-in_err-head-clause-puts
returns-in_err-head-clause-puts g c =
    let before = g.F.Shelf.state c.args.shelf.now in
    let opened = g.F.Shelf.state c.attach.new.self in
    let behind = g.F.Shelf.state c.find_header.new.shelf in
    let p = err_from_is_err_and c.from_residual.result c.from_residual.ensures.1 in
    rw p.1
    (no-header-puts c.args.models c.in_err-head.field-0.0 p.0 p.2 (before.file c.args.telemetry.now) (opened.slot 1).rest (behind.slot 1).rest c.in-Ok.ensures.here.begins
    (rw (c.new-stream.ensures.cutter, c.new-stream.ensures.left, c.inputs.ensures.value, c.outputs.ensures.value) at c.in_err-head.ensures.refused)
    (g.O.Sink.state c.args.out.now))

pub returns-clause-in_time : goal.returns-clause-in_time
returns-clause-in_time g c = λ _.
    let before = g.F.Shelf.state c.args.shelf.now in
    let opened = g.F.Shelf.state c.attach.new.self in
    let behind = g.F.Shelf.state c.find_header.new.shelf in
    let after = g.F.Shelf.state c.put_report.new.shelf in
    behind-header c.args.models (g.O.Sink.state c.args.out.now) (g.O.Sink.state c.put_report.new.out) c.in_ok-head.head c.find_header.new.stream.is_ended c.find_header.new.stream.cutter (left_of c.find_header.new.stream)
    (before.file c.args.telemetry.now) (opened.slot 1).rest (behind.slot 1).rest (after.slot 1).rest c.in-Ok.ensures.here.begins c.put_report.result
    (λ r. IsReportOfRows c.args.models (rows_owed c.in_ok-head.head c.find_header.new.stream.cutter (left_of c.find_header.new.stream ++ r)))
    (rw (c.new-stream.ensures.cutter, c.new-stream.ensures.left, c.inputs.ensures.value, c.outputs.ensures.value) at c.in_ok-head.ensures.takes)
    c.put_report.ensures.in_time c.put_report.ensures.puts

pub returns-in_err-head-clause-in_time : goal.returns-in_err-head-clause-in_time
returns-in_err-head-clause-in_time g c =
    let before = g.F.Shelf.state c.args.shelf.now in
    let opened = g.F.Shelf.state c.attach.new.self in
    let behind = g.F.Shelf.state c.find_header.new.shelf in
    let p = err_from_is_err_and c.from_residual.result c.from_residual.ensures.1 in
    rw p.1
    (λ _. no-header-in_time c.args.models (g.O.Sink.state c.args.out.now) c.in_err-head.field-0.0 p.0 p.2 (left_of c.find_header.new.stream) (before.file c.args.telemetry.now) (opened.slot 1).rest (behind.slot 1).rest c.in-Ok.ensures.here.begins
    (λ is. (c.in_err-head.ensures.failed is).used)
    (rw (c.new-stream.ensures.cutter, c.new-stream.ensures.left, c.inputs.ensures.value, c.outputs.ensures.value) at c.in_err-head.ensures.no_line))

pub returns-in-Err-clause-in_time : goal.returns-in-Err-clause-in_time
returns-in-Err-clause-in_time g c = λ attached.
    absurd (not-asked ((g.F.Shelf.state c.args.shelf.now).slot 1).asked c.requires (g.met.F.Shelf.attached_was_asked c.args.shelf.now 1 (sym c.in-Err.ensures.here.not_attached ∙ attached)))

pub returns-in-Err-clause-puts : goal.returns-in-Err-clause-puts
returns-in-Err-clause-puts g c =
    unopened-puts c.args.models c.in-Err.fault c.into.result (c.into.ensures ∙ ap ending_of c.from.ensures) ((g.F.Shelf.state c.args.shelf.now).file c.args.telemetry.now) (g.O.Sink.state c.args.out.now)
