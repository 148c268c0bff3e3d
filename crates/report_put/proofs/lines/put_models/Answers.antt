use Rattle.std.proofs.Common.{◌+◌, take, map, flat_map}
use Rattle.std.proofs.lemmas.Result.{err_from_is_err_and}
use Rattle.report_rules.specs.Lines.{model_lines}
use Rattle.model_bank.specs.Seen.{model_seen}
use Rattle.report_put.proofs.Put.{has-more, cut-turn, each-more, each-rest}
use Rattle.report_put.proofs.lines.put_models.Goals as goal

pub loop-model-preserved : goal.loop-model-preserved
loop-model-preserved g c =
    let k = c.loop-model.model-index in
    let all = c.args.models.now in
    has-more (flat_map model_lines (map model_seen (take k all))) _ _ (each-more model_lines model_seen all k c.model-item.result c.loop-model-test.true c.model-item.is) c.loop-model.invariant c.in_ok-put_model.ensures

pub returns-in_err-put_model : goal.returns-in_err-put_model
returns-in_err-put_model g c =
    let k = c.loop-model.model-index in
    let all = c.args.models.now in
    let p = err_from_is_err_and c.from_residual.result c.from_residual.ensures.1 in
    rw (p.1, p.2)
    (cut-turn (flat_map model_lines (map model_seen (take k all))) _ _ (each-more model_lines model_seen all k c.model-item.result c.loop-model-test.true c.model-item.is) c.loop-model.invariant _ _ (each-rest model_lines model_seen all (k + 1)) c.in_err-put_model.ensures)
