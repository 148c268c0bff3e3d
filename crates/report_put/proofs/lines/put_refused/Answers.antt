use Rattle.std.proofs.Common.{[], ◌∷◌, ◌++◌, flat_map, map, refl}
use Rattle.model_bank.specs.Seen.{model_seen}
use Rattle.std.proofs.lemmas.Result.{err_from_is_err_and}
use Rattle.report_text.specs.Line.{sample}
use Rattle.report_rules.specs.Lines.{model_lines, pred_lines}
use Rattle.report_put.proofs.Put.{has-put, has-more, cut-first, cut-turn, puts-last}
use Rattle.report_put.proofs.lines.put_refused.Goals as goal

pub returns-in_err-put_line : goal.returns-in_err-put_line
returns-in_err-put_line g c =
    let p = err_from_is_err_and c.from_residual.result c.from_residual.ensures.1 in
    rw (p.1, p.2) (cut-first (sample c.args.k ∷ []) (flat_map model_lines (map model_seen c.args.below.now) ++ pred_lines c.args.model c.args.preds.now) _ refl c.in_err-put_line.ensures)

pub returns-in_err-put_models : goal.returns-in_err-put_models
returns-in_err-put_models g c =
    let models = flat_map model_lines (map model_seen c.args.below.now) in
    let p = err_from_is_err_and c.from_residual-in_err-put_models.result c.from_residual-in_err-put_models.ensures.1 in
    rw (p.1, p.2)
    (cut-turn (sample c.args.k ∷ []) models (sample c.args.k ∷ models) refl (has-put _ c.in_ok-put_line.ensures) (pred_lines c.args.model c.args.preds.now) _ refl c.in_err-put_models.ensures)

pub returns : goal.returns
returns g c =
    let models = flat_map model_lines (map model_seen c.args.below.now) in
    puts-last (sample c.args.k ∷ models) (pred_lines c.args.model c.args.preds.now) _ refl
    (has-more (sample c.args.k ∷ []) models (sample c.args.k ∷ models) refl (has-put _ c.in_ok-put_line.ensures) c.in_ok-put_models.ensures) c.put_preds.result c.put_preds.ensures
