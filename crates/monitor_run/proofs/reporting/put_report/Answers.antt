use Rattle.std.proofs.Common.{◌++◌, length}
use Rattle.std.proofs.lemmas.Result.{err_from_is_err_and}
use Rattle.outside_io.proofs.Fronts.{all-front}
use Rattle.telem_csv.specs.Cutter.{rows_owed}
use Rattle.report_text.specs.Line.{lines_text}
use Rattle.report_rules.specs.Lines.{head_lines}
use Rattle.model_bank.specs.Bank.{names_in, plants_in}
use Rattle.input_files.specs.Ended.{rows_ended, without_last}
use Rattle.monitor_run.specs.InTime.{IsReportBegun}
use Rattle.monitor_run.proofs.InTime.{head-in_time, behind-head-in_time, some-both, piece-short}
use Rattle.monitor_run.specs.Reports.{IsReportOfRows}
use Rattle.input_files.specs.Left.{left_of}
use Rattle.monitor_run.proofs.Turns.{put-cut}
use Rattle.monitor_run.proofs.Opened.{if-some, of-some, behind-head, head-front}
use Rattle.monitor_run.proofs.reporting.put_report.Goals as goal

pub returns-in_err-put_head-clause-puts : goal.returns-in_err-put_head-clause-puts
returns-in_err-put_head-clause-puts g c =
    let rest = ((g.F.Shelf.state c.args.shelf.now).slot 1).rest in
    let before = g.O.Sink.state c.args.out.now in
    let after = g.O.Sink.state c.put_head.new.out in
    let p = err_from_is_err_and c.from_residual.result c.from_residual.ensures.1 in
    rw p.1
    (put-cut c.in_err-put_head.field-0.0 p.0 p.2 rest before after (λ r. IsReportOfRows c.args.models (rows_owed c.args.head.now c.args.stream.now.cutter (left_of c.args.stream.now ++ r)))
    (of-some rest _ (λ r. head-front c.args.models before after (rows_owed c.args.head.now c.args.stream.now.cutter (left_of c.args.stream.now ++ r)) c.in_err-put_head.ensures.front)))

pub returns-in-Err-clause-puts : goal.returns-in-Err-clause-puts
returns-in-Err-clause-puts g c =
    let before = g.O.Sink.state c.args.out.now in
    let after = g.O.Sink.state c.put_head.new.out in
    of-some ((g.F.Shelf.state c.args.shelf.now).slot 1).rest _ (λ r. head-front c.args.models before after (rows_owed c.args.head.now c.args.stream.now.cutter (left_of c.args.stream.now ++ r))
    (all-front before.held after.held (lines_text (head_lines (names_in c.args.models))) c.in_ok-put_head.ensures.whole))

pub returns-in-Ok-clause-puts : goal.returns-in-Ok-clause-puts
returns-in-Ok-clause-puts g c =
    if-some ((g.F.Shelf.state c.args.shelf.now).slot 1).rest _ _
    (λ r h. behind-head c.args.models (g.O.Sink.state c.args.out.now) (g.O.Sink.state c.put_head.new.out) (g.O.Sink.state c.put_rows.new.out) c.in_ok-put_head.ensures.whole c.put_rows.result
    (rows_owed c.args.head.now c.args.stream.now.cutter (left_of c.args.stream.now ++ r)) c.put_rows.ensures.ends.faults h)
    (c.put_rows.ensures.puts (plants_in c.args.models) c.in-Ok.ensures.stands)

pub returns-in_err-put_head-clause-in_time : goal.returns-in_err-put_head-clause-in_time
returns-in_err-put_head-clause-in_time g c =
    let p = err_from_is_err_and c.from_residual.result c.from_residual.ensures.1 in
    rw p.1
    (head-in_time c.in_err-put_head.field-0.0 p.0 p.2 (λ unread k. IsReportBegun c.args.models (rows_ended c.args.head.now c.args.stream.now.cutter (without_last k unread))) c.args.stream.now.is_ended (left_of c.args.stream.now) ((g.F.Shelf.state c.args.shelf.now).slot 1).rest
    (g.O.Sink.state c.args.out.now) (g.O.Sink.state c.put_head.new.out) (piece-short c.args.stream.now.piece c.args.stream.now.at c.args.stream.now.end c.args.stream.now.short))

pub returns-in-Err-clause-in_time : goal.returns-in-Err-clause-in_time
returns-in-Err-clause-in_time g c = some-both ((g.F.Shelf.state c.args.shelf.now).slot 1).rest ((g.F.Shelf.state c.args.shelf.now).slot 1).rest _ (λ r r'. tt)

pub returns-in-Ok-clause-in_time : goal.returns-in-Ok-clause-in_time
returns-in-Ok-clause-in_time g c =
    if-some ((g.F.Shelf.state c.args.shelf.now).slot 1).rest _ _
    (λ r h. if-some ((g.F.Shelf.state c.put_rows.new.shelf).slot 1).rest _ _
    (λ r' h'. behind-head-in_time c.args.models (g.O.Sink.state c.args.out.now) (g.O.Sink.state c.put_head.new.out) (g.O.Sink.state c.put_rows.new.out) c.in_ok-put_head.ensures.whole
    (λ k. rows_ended c.args.head.now c.args.stream.now.cutter (without_last k (left_of c.args.stream.now ++ r))) c.args.stream.now.is_ended (length (left_of c.args.stream.now ++ r)) (length r') c.put_rows.result h') h)
    (c.put_rows.ensures.in_time (plants_in c.args.models) c.in-Ok.ensures.stands)
