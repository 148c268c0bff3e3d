use Rattle.std.proofs.Common.{◌≡◌, List, [], ◌∷◌, ◌++◌, map, flat_map, ap, sym, refl, ◌∙◌}
use Rattle.isolate_core.specs.Verdict.{possible_models}
use Rattle.model_bank.specs.Answers.{SampleAnswer}
use Rattle.model_bank.specs.declared.record.ModelRec.{ModelRec}
use Rattle.model_bank.specs.Seen.{model_seen, sample_seen}
use Rattle.std.proofs.lemmas.Result.{err_from_is_err_and}
use Rattle.report_text.specs.Line.{Line, sample, possible, verdict}
use Rattle.report_rules.specs.Lines.{model_lines, sample_lines}
use Rattle.report_put.proofs.Put.{has-put, has-more, cut-first, cut-turn, puts-last}
use Rattle.report_put.proofs.lines.put_sample.Goals as goal

-- the lines of the models
abbrev models : List ModelRec → List Line
models ms = flat_map model_lines (map model_seen ms)

abbrev closing : SampleAnswer → List Line
closing s = possible (possible_models s.possible) ∷ verdict s.verdict ∷ []

parts : (s : SampleAnswer) (ms put : List ModelRec) → s.models ≡ map model_seen ms → put ≡ ms → sample_lines s ≡ (sample s.k ∷ models put) ++ closing s
parts s ms put e same = ap (λ ms. (sample s.k ∷ flat_map model_lines ms) ++ closing s) e ∙ ap (λ ms. (sample s.k ∷ models ms) ++ closing s) (sym same)

pub returns-in_err-put_line : goal.returns-in_err-put_line
returns-in_err-put_line g c =
    let s = sample_seen c.args.rec.now in
    let p = err_from_is_err_and c.from_residual.result c.from_residual.ensures.1 in
    rw (p.1, p.2) (cut-first (sample s.k ∷ []) (flat_map model_lines s.models ++ closing s) (sample_lines s) refl c.in_err-put_line.ensures)

pub returns-in_err-put_models : goal.returns-in_err-put_models
returns-in_err-put_models g c =
    let s = sample_seen c.args.rec.now in
    let so-far = sample s.k ∷ models c.deref.result.now in
    let p = err_from_is_err_and c.from_residual-in_err-put_models.result c.from_residual-in_err-put_models.ensures.1 in
    rw (p.1, p.2)
    (cut-turn (sample s.k ∷ []) (models c.deref.result.now) so-far refl (has-put _ c.in_ok-put_line.ensures) (closing s) (sample_lines s)
    (parts s c.args.rec.now.models.items c.deref.result.now refl c.deref.ensures.0) c.in_err-put_models.ensures)

pub returns : goal.returns
returns g c =
    let s = sample_seen c.args.rec.now in
    let so-far = sample s.k ∷ models c.deref.result.now in
    puts-last so-far (closing s) (sample_lines s) (parts s c.args.rec.now.models.items c.deref.result.now refl c.deref.ensures.0)
    (has-more (sample s.k ∷ []) (models c.deref.result.now) so-far refl (has-put _ c.in_ok-put_line.ensures) c.in_ok-put_models.ensures) c.put_closing.result c.put_closing.ensures
