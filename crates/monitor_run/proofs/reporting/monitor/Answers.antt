use Rattle.std.proofs.Common.{◌+◌, sym, subst, arith}
use Rattle.std.proofs.lemmas.Result.{err_from_is_err_and}
use Rattle.input_files.specs.Whole.{TakesAtMost, most_model, most_piece}
use Rattle.monitor_run.proofs.Begun.{with-models-in_time, judged-in_time}
use Rattle.monitor_run.specs.Reports.{IsReportOf}
use Rattle.monitor_run.specs.Outcome.{SaysOfFiles, PutsReport}
use Rattle.input_files.specs.Files.{files_of}
use Rattle.monitor_run.proofs.Opened.{with-models, accepted-says, judged-puts, on-both}
use Rattle.monitor_run.proofs.reporting.monitor.Goals as goal

pub returns-clause-says_model : goal.returns-clause-says_model
returns-clause-says_model g c =
    let shelf = g.F.Shelf.state c.args.shelf.now in
    accepted-says c.in_ok-models.models (shelf.file c.args.model.now) (shelf.file c.args.telemetry.now) c.in_ok-models.ensures.read_all c.monitor_models.result c.monitor_models.ensures.ends.faults

pub returns-clause-says_files : goal.returns-clause-says_files
returns-clause-says_files g c =
    let shelf = g.F.Shelf.state c.args.shelf.now in
    with-models c.in_ok-models.models (shelf.file c.args.model.now) (shelf.file c.args.telemetry.now) c.in_ok-models.ensures.read_all (SaysOfFiles c.monitor_models.result)
    (rw c.in_ok-models.ensures.others.files at c.monitor_models.ensures.says)

pub returns-clause-puts : goal.returns-clause-puts
returns-clause-puts g c =
    let shelf = g.F.Shelf.state c.args.shelf.now in
    with-models c.in_ok-models.models (shelf.file c.args.model.now) (shelf.file c.args.telemetry.now) c.in_ok-models.ensures.read_all
    (λ f. PutsReport (IsReportOf f) (g.O.Sink.state c.args.out.now) c.monitor_models.result (g.O.Sink.state c.monitor_models.new.out))
    (rw c.in_ok-models.ensures.others.files at c.monitor_models.ensures.puts)

pub returns-clause-in_time : goal.returns-clause-in_time
returns-clause-in_time g c = λ attached.
    let shelf = g.F.Shelf.state c.args.shelf.now in
    with-models-in_time c.in_ok-models.models (shelf.file c.args.model.now) (shelf.file c.args.telemetry.now) ((g.F.Shelf.state c.monitor_models.new.shelf).slot 1).rest (g.O.Sink.state c.args.out.now) (g.O.Sink.state c.monitor_models.new.out) c.monitor_models.result
    c.in_ok-models.ensures.read_all
    (rw c.in_ok-models.ensures.others.files at c.monitor_models.ensures.in_time attached)

pub returns-clause-model_taken : goal.returns-clause-model_taken
returns-clause-model_taken g c =
    let shelf = g.F.Shelf.state c.args.shelf.now in
    let same = c.monitor_models.ensures.others.slots 0 (omega arith) (λ e. cc) in
    subst (λ s. TakesAtMost (most_model + most_piece) (shelf.file c.args.model.now) s) (sym same) c.in_ok-models.ensures.taken

pub returns-in_err-models-clause-in_time : goal.returns-in_err-models-clause-in_time
returns-in_err-models-clause-in_time g c =
    let shelf = g.F.Shelf.state c.args.shelf.now in
    let p = err_from_is_err_and c.from_residual.result c.from_residual.ensures.1 in
    rw p.1
    (λ _. judged-in_time c.in_err-models.field-0.0 p.0 p.2 (shelf.file c.args.model.now) (shelf.file c.args.telemetry.now) ((g.F.Shelf.state c.read_model.new.shelf).slot 1).rest (g.O.Sink.state c.args.out.now))

pub returns-in_err-models-clause-puts : goal.returns-in_err-models-clause-puts
returns-in_err-models-clause-puts g c =
    let shelf = g.F.Shelf.state c.args.shelf.now in
    let p = err_from_is_err_and c.from_residual.result c.from_residual.ensures.1 in
    rw p.1
    (on-both (shelf.file c.args.model.now) (shelf.file c.args.telemetry.now) _
    (λ m t. judged-puts c.in_err-models.field-0.0 p.0 p.2 (g.O.Sink.state c.args.out.now) (files_of m t)))
