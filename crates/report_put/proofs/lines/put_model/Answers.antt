use Rattle.std.proofs.Common.{◌≡◌, ℤ, List, ◌++◌, ap, sym}
use Rattle.model_bank.specs.Answers.{ModelAnswer}
use Rattle.model_bank.specs.Seen.{model_seen}
use Rattle.std.proofs.lemmas.Result.{err_from_is_err_and}
use Rattle.report_rules.specs.Lines.{model_lines, pred_lines, outcome_lines}
use Rattle.report_put.proofs.Put.{has-put, cut-first, puts-last}
use Rattle.report_put.proofs.lines.put_model.Goals as goal

parts : (m : ModelAnswer) (put : List (ℤ × ℤ)) → put ≡ m.answer.predicted
    → model_lines m ≡ pred_lines m.index put ++ outcome_lines m.index m.answer.certificate m.answer.hulls m.answer.is_widened
parts m put same = ap (λ ps. pred_lines m.index ps ++ outcome_lines m.index m.answer.certificate m.answer.hulls m.answer.is_widened) (sym same)

pub returns-in_err-put_preds : goal.returns-in_err-put_preds
returns-in_err-put_preds g c =
    let m = model_seen c.args.rec.now in
    let p = err_from_is_err_and c.from_residual.result c.from_residual.ensures.1 in
    rw (p.1, p.2) (cut-first (pred_lines m.index c.deref.result.now) _ (model_lines m) (parts m c.deref.result.now c.deref.ensures.0) c.in_err-put_preds.ensures)

pub returns : goal.returns
returns g c =
    let m = model_seen c.args.rec.now in
    puts-last (pred_lines m.index c.deref.result.now) _ (model_lines m) (parts m c.deref.result.now c.deref.ensures.0) (has-put _ c.in_ok-put_preds.ensures) c.put_outcome.result c.put_outcome.ensures
