use Rattle.std.proofs.Common.{◌≡◌, ℕ, ℤ, Bool, not, List, [], ◌∷◌, ◌++◌, ap, sym, ◌∙◌}
use Rattle.observer_step.specs.Seen.{certificate_in, was_widened}
use Rattle.observer_step.specs.declared.outcome.Outcome.{Outcome}
use Rattle.observer_step.specs.declared.outcome.Outcome.TheVariants.{Fits}
use Rattle.report_text.specs.Line.{status}
use Rattle.report_rules.specs.Lines.{hull_lines, outcome_lines}
use Rattle.report_put.proofs.Put.{has-put, puts-last}
use Rattle.report_put.proofs.lines.put_outcome.Goals as goal

fits-lines : (i : ℕ) (o : Outcome) (hs put : List (ℤ × ℤ)) (w : Bool) → o ≡ Fits → put ≡ hs → outcome_lines i (certificate_in o) hs w ≡ hull_lines i put ++ status i (not w) ∷ []
fits-lines i o hs put w e same = ap (λ (o : Outcome). outcome_lines i (certificate_in o) hs w) e ∙ ap (λ hs. hull_lines i hs ++ status i (not w) ∷ []) (sym same)

pub returns-in_ok-put_hulls-in-Fits : goal.returns-in_ok-put_hulls-in-Fits
returns-in_ok-put_hulls-in-Fits g c =
    let rec = c.args.rec.now in
    puts-last (hull_lines rec.index c.deref.result.now) _ _ (fits-lines rec.index rec.outcome rec.hulls.items c.deref.result.now (was_widened rec.kept) c.in-Fits.is c.deref.ensures.0)
    (has-put _ c.in_ok-put_hulls-in-Fits.ensures) c.put_status.result c.put_status.ensures
