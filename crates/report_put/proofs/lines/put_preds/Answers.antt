use Rattle.std.proofs.Common.{◌+◌, pos, take}
use Rattle.std.proofs.lemmas.Result.{err_from_is_err_and}
use Rattle.report_text.specs.Line.{pred}
use Rattle.report_rules.specs.Lines.{pred_lines}
use Rattle.report_put.proofs.Put.{has-more, cut-turn, numbered-more, numbered-rest}
use Rattle.report_put.proofs.lines.put_preds.Goals as goal

pub loop-o-preserved : goal.loop-o-preserved
loop-o-preserved g c =
    let i = c.args.index in
    let x = c.loop-o.o in
    let all = c.args.preds.now in
    has-more (pred_lines i (take x all)) _ _ (numbered-more (λ e. pred i e.0 e.1.0 e.1.1) all x (pos 0, pos 0) c.loop-o-test.true) c.loop-o.invariant c.in_ok-put_pred.ensures

pub returns-in_err-put_pred : goal.returns-in_err-put_pred
returns-in_err-put_pred g c =
    let i = c.args.index in
    let x = c.loop-o.o in
    let all = c.args.preds.now in
    let p = err_from_is_err_and c.from_residual.result c.from_residual.ensures.1 in
    rw (p.1, p.2)
    (cut-turn (pred_lines i (take x all)) _ _ (numbered-more (λ e. pred i e.0 e.1.0 e.1.1) all x (pos 0, pos 0) c.loop-o-test.true) c.loop-o.invariant _ _ (numbered-rest (λ e. pred i e.0 e.1.0 e.1.1) all (x + 1)) c.in_err-put_pred.ensures)
