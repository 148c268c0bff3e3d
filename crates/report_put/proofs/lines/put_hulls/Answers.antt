use Rattle.std.proofs.Common.{◌+◌, pos, take}
use Rattle.std.proofs.lemmas.Result.{err_from_is_err_and}
use Rattle.report_text.specs.Line.{hull}
use Rattle.report_rules.specs.Lines.{hull_lines}
use Rattle.report_put.proofs.Put.{has-more, cut-turn, numbered-more, numbered-rest}
use Rattle.report_put.proofs.lines.put_hulls.Goals as goal

pub loop-x-preserved : goal.loop-x-preserved
loop-x-preserved g c =
    let i = c.args.index in
    let x = c.loop-x.x in
    let all = c.args.hulls.now in
    has-more (hull_lines i (take x all)) _ _ (numbered-more (λ e. hull i e.0 e.1.0 e.1.1) all x (pos 0, pos 0) c.loop-x-test.true) c.loop-x.invariant c.in_ok-put_hull.ensures

pub returns-in_err-put_hull : goal.returns-in_err-put_hull
returns-in_err-put_hull g c =
    let i = c.args.index in
    let x = c.loop-x.x in
    let all = c.args.hulls.now in
    let p = err_from_is_err_and c.from_residual.result c.from_residual.ensures.1 in
    rw (p.1, p.2)
    (cut-turn (hull_lines i (take x all)) _ _ (numbered-more (λ e. hull i e.0 e.1.0 e.1.1) all x (pos 0, pos 0) c.loop-x-test.true) c.loop-x.invariant _ _ (numbered-rest (λ e. hull i e.0 e.1.0 e.1.1) all (x + 1)) c.in_err-put_hull.ensures)
