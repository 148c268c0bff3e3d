use Rattle.std.proofs.Common.{append_assoc}
use Rattle.refusal_text.proofs.telemetry.push_ragged.Goals as goal

pub returns-clause-text : goal.returns-clause-text
returns-clause-text c =
    rw (c.push_text-2.ensures.text, c.push_number-2.ensures.text, c.push_text.ensures.text, c.push_number.ensures.text) (simp append_assoc)
