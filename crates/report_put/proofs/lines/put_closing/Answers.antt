use Rattle.std.proofs.Common.{◌≡◌, ℕ, List, [], ◌∷◌, ◌++◌, ap, sym, ◌∙◌, Bool}
use Rattle.isolate_core.specs.Verdict.{possible_models}
use Rattle.isolate_core.specs.declared.verdict.Verdict.{Verdict}
use Rattle.std.proofs.lemmas.Result.{err_from_is_err_and}
use Rattle.report_text.specs.Line.{possible, verdict}
use Rattle.report_put.proofs.Put.{has-put, cut-first, puts-last}
use Rattle.report_put.proofs.lines.put_closing.Goals as goal

closing : (bs seen : List Bool) (put : List ℕ) (v : Verdict) → seen ≡ bs → put ≡ possible_models seen → (possible (possible_models bs) ∷ verdict v ∷ []) ≡ (possible put ∷ []) ++ verdict v ∷ []
closing bs seen put v same is = ap (λ is. possible is ∷ verdict v ∷ []) (sym (is ∙ ap possible_models same))

pub returns-in_err-put_line : goal.returns-in_err-put_line
returns-in_err-put_line g c =
    let rec = c.args.rec.now in
    let p = err_from_is_err_and c.from_residual.result c.from_residual.ensures.1 in
    rw (p.1, p.2) (cut-first (possible c.possible_indices.result.items ∷ []) (verdict rec.verdict ∷ []) _ (closing rec.possible.items _ _ rec.verdict c.deref.ensures.0 c.possible_indices.ensures) c.in_err-put_line.ensures)

pub returns : goal.returns
returns g c =
    let rec = c.args.rec.now in
    puts-last (possible c.possible_indices.result.items ∷ []) (verdict rec.verdict ∷ []) _ (closing rec.possible.items _ _ rec.verdict c.deref.ensures.0 c.possible_indices.ensures)
    (has-put _ c.in_ok-put_line.ensures) c.put_line-2.result c.put_line-2.ensures
