use Rattle.std.proofs.Common.{[], ◌∷◌, refl, sym, ◌∙◌}
use Rattle.outside_io.proofs.Fronts.{on-ok}
use Rattle.report_text.specs.Line.{lines_text, end}
use Rattle.cert_replay.proofs.Comparing.{made-text, takes-made, departs-made, if-err}
use Rattle.cert_replay.proofs.window.Window.compare_end.Goals as goal

pub returns-clause-same : goal.returns-clause-same
returns-clause-same c =
    let text = lines_text (end c.args.samples ∷ []) in
    let made = made-text text c.clear.new.self c.put_end.new.out c.put_end.result c.clear.ensures.text c.put_end.ensures (sym c.is_err.ensures.value ∙ c.if-is_err.false) in
    on-ok c.compare.result _ _ (takes-made text c.put_end.new.out.text.items c.args.self.now _ made refl refl c.compare.new.self) c.compare.ensures.same

pub returns-clause-departs : goal.returns-clause-departs
returns-clause-departs c =
    let text = lines_text (end c.args.samples ∷ []) in
    let made = made-text text c.clear.new.self c.put_end.new.out c.put_end.result c.clear.ensures.text c.put_end.ensures (sym c.is_err.ensures.value ∙ c.if-is_err.false) in
    if-err c.compare.result _ _ (λ fault h line e. departs-made text c.put_end.new.out.text.items c.args.self.now _ made refl refl line (h line e)) c.compare.ensures.departs
