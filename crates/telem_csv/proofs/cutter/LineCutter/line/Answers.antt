use Rattle.std.proofs.Common.{◌∙◌, ap}
use Rattle.telem_csv.proofs.Ends.{line_is_text}
use Rattle.telem_csv.proofs.cutter.LineCutter.line.Goals as goal

pub returns-clause-text : goal.returns-clause-text
returns-clause-text c =
    let kept = c.self.invariant in
    line_is_text c.self.inside.number c.self.inside.bytes.items _ _ c.deref.ensures.0 c.text_of.ensures kept.in_line kept.no_feed (kept.line_is_text (ap (λ v. v.last) c.self.view_is ∙ c.requires))
