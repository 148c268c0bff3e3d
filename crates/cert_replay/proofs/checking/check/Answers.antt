use Rattle.std.proofs.Common.{◌≡◌, ◌+◌, true, length, IfSome, sym, subst}
use Rattle.input_files.specs.Files.{files_with}
use Rattle.std.proofs.lemmas.Result.{err_from_is_err_and}
use Rattle.cert_replay.specs.Outcome.{SaysOfReport}
use Rattle.cert_replay.proofs.Said.{with-named, accepted-said, model-said, model-ends}
use Rattle.input_files.specs.Ended.{without_last, begun_with}
use Rattle.input_files.specs.Whole.{TakesAtMost, most_model, most_piece}
use Rattle.monitor_run.proofs.Opened.{if-some}
use Rattle.cert_replay.specs.Ahead.{RefusesInTime}
use Rattle.cert_replay.proofs.Ahead.{left-last, with-models-in_time, no-models-in_time}
use Rattle.cert_replay.proofs.checking.check.Goals as goal

pub returns-clause-says_model : goal.returns-clause-says_model
returns-clause-says_model g c =
    let shelf = g.F.Shelf.state c.args.shelf.now in
    accepted-said c.in_ok-models.models (shelf.file c.args.model.now) c.in_ok-models.ensures.read_all c.check_models.result c.check_models.ensures.ends.faults

pub returns-clause-says : goal.returns-clause-says
returns-clause-says g c =
    let shelf = g.F.Shelf.state c.args.shelf.now in
    let after = g.F.Shelf.state c.read_model.new.shelf in
    let ms = c.in_ok-models.models in
    let result = c.check_models.result in
    let files = c.in_ok-models.ensures.others.files in
    with-named ms (shelf.file c.args.model.now) (shelf.file c.args.telemetry.now) (shelf.file c.args.report.now) c.in_ok-models.ensures.read_all (SaysOfReport result)
    (λ named. subst (λ f. IfSome (shelf.file c.args.report.now) (λ bytes. IfSome f (λ t. SaysOfReport result (files_with ms t) bytes))) (files c.args.telemetry.now)
    (subst (λ f. IfSome f (λ bytes. IfSome (after.file c.args.telemetry.now) (λ t. SaysOfReport result (files_with ms t) bytes))) (files c.args.report.now) (c.check_models.ensures.says named)))

pub returns-in_err-models-clause-says_model : goal.returns-in_err-models-clause-says_model
returns-in_err-models-clause-says_model g c =
    let shelf = g.F.Shelf.state c.args.shelf.now in
    let p = err_from_is_err_and c.from_residual.result c.from_residual.ensures.1 in
    rw (p.1, p.2) (model-said c.in_err-models.field-0.0 (shelf.file c.args.model.now) c.in_err-models.ensures.says)

pub returns-in_err-models-clause-says : goal.returns-in_err-models-clause-says
returns-in_err-models-clause-says g c =
    let shelf = g.F.Shelf.state c.args.shelf.now in
    let p = err_from_is_err_and c.from_residual.result c.from_residual.ensures.1 in
    rw (p.1, p.2) (model-ends c.in_err-models.field-0.0 (shelf.file c.args.model.now) (shelf.file c.args.telemetry.now) (shelf.file c.args.report.now) c.in_err-models.ensures.says)

pub returns-clause-model_taken : goal.returns-clause-model_taken
returns-clause-model_taken g c =
    let shelf = g.F.Shelf.state c.args.shelf.now in
    subst (λ s. TakesAtMost (most_model + most_piece) (shelf.file c.args.model.now) s) (sym c.check_models.ensures.ends.model) c.in_ok-models.ensures.taken

pub returns-clause-in_time : goal.returns-clause-in_time
returns-clause-in_time g c =
    let shelf = g.F.Shelf.state c.args.shelf.now in
    let mid = g.F.Shelf.state c.read_model.new.shelf in
    let last = (g.F.Shelf.state c.check_models.new.shelf).slot 1 in
    let ms = c.in_ok-models.models in
    let result = c.check_models.result in
    let files = c.in_ok-models.ensures.others.files in
    left-last (shelf.file c.args.report.now) _ _ (λ attached.
    with-models-in_time ms (shelf.file c.args.report.now) (shelf.file c.args.model.now) (shelf.file c.args.telemetry.now) last.rest result c.in_ok-models.ensures.read_all
    (λ named. if-some (shelf.file c.args.report.now) (λ bytes. last.attached ≡ true → IfSome (shelf.file c.args.telemetry.now) (λ t. IfSome last.rest (λ q. RefusesInTime (λ k. begun_with ms (without_last k t)) bytes (length q) result))) _ (λ bytes h. h attached)
    (subst (λ f. IfSome (shelf.file c.args.report.now) (λ bytes. last.attached ≡ true → IfSome f (λ t. IfSome last.rest (λ q. RefusesInTime (λ k. begun_with ms (without_last k t)) bytes (length q) result)))) (files c.args.telemetry.now)
    (subst (λ f. IfSome f (λ bytes. last.attached ≡ true → IfSome (mid.file c.args.telemetry.now) (λ t. IfSome last.rest (λ q. RefusesInTime (λ k. begun_with ms (without_last k t)) bytes (length q) result)))) (files c.args.report.now) (c.check_models.ensures.in_time named)))))

pub returns-in_err-models-clause-in_time : goal.returns-in_err-models-clause-in_time
returns-in_err-models-clause-in_time g c =
    let shelf = g.F.Shelf.state c.args.shelf.now in
    let p = err_from_is_err_and c.from_residual.result c.from_residual.ensures.1 in
    rw (p.1, p.2)
    (left-last (shelf.file c.args.report.now) _ _ (λ attached. no-models-in_time c.in_err-models.field-0.0 (shelf.file c.args.report.now) (shelf.file c.args.model.now) (shelf.file c.args.telemetry.now) ((g.F.Shelf.state c.read_model.new.shelf).slot 1).rest))
