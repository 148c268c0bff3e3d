use Rattle.std.proofs.Common.{◌≡◌, ◌+◌, ◌∷◌, ◌++◌, map, flat_map, refl, sym, ◌∙◌, subst}
use Rattle.outside_io.specs.Sink.{PutsAll}
use Rattle.cert_replay.specs.Made.{made_state}
use Rattle.model_bank.specs.Seen.{model_seen}
use Rattle.report_text.specs.Line.{lines_text, sample}
use Rattle.report_rules.specs.Lines.{model_lines, pred_lines}
use Rattle.cert_replay.specs.Window.{DepartsBehind}
use Rattle.cert_replay.proofs.Comparing.{made-text, departs-made, behind-made}
use Rattle.cert_replay.proofs.window.Window.compare_refused.Goals as goal

pub returns-in-Ok-clause-departs : goal.returns-in-Ok-clause-departs
returns-in-Ok-clause-departs c = λ line e.
    let text = lines_text (sample c.args.k ∷ flat_map model_lines (map model_seen c.args.below.now) ++ pred_lines c.args.refused.now.model c.args.refused.now.preds.items) in
    let puts = subst (λ es. PutsAll (lines_text (sample c.args.k ∷ flat_map model_lines (map model_seen c.args.below.now) ++ pred_lines c.args.refused.now.model es)) (made_state c.clear.new.self) c.put_refused.result (made_state c.put_refused.new.out)) c.deref.ensures.0 c.put_refused.ensures in
    let made = made-text text c.clear.new.self c.put_refused.new.out c.put_refused.result c.clear.ensures.text puts (sym c.is_err.ensures.value ∙ c.if-is_err.false) in
    let number : line ≡ c.compare.new.self.lines + 1 = cc in
    behind-made text c.put_refused.new.out.text.items c.args.self.now _ made refl refl c.compare.new.self line c.in-Ok.ensures.same number

pub returns-in-Err-clause-departs : goal.returns-in-Err-clause-departs
returns-in-Err-clause-departs c = λ line e.
    let text = lines_text (sample c.args.k ∷ flat_map model_lines (map model_seen c.args.below.now) ++ pred_lines c.args.refused.now.model c.args.refused.now.preds.items) in
    let puts = subst (λ es. PutsAll (lines_text (sample c.args.k ∷ flat_map model_lines (map model_seen c.args.below.now) ++ pred_lines c.args.refused.now.model es)) (made_state c.clear.new.self) c.put_refused.result (made_state c.put_refused.new.out)) c.deref.ensures.0 c.put_refused.ensures in
    let made = made-text text c.clear.new.self c.put_refused.new.out c.put_refused.result c.clear.ensures.text puts (sym c.is_err.ensures.value ∙ c.if-is_err.false) in
    DepartsBehind.within (departs-made text c.put_refused.new.out.text.items c.args.self.now _ made refl refl line (c.in-Err.ensures.departs line e))
