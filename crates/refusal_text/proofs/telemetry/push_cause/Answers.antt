use Rattle.std.proofs.Common.{append_assoc, refl}
use Rattle.refusal_text.proofs.telemetry.push_cause.Goals as goal

pub returns-in-NoColumn-clause-text : goal.returns-in-NoColumn-clause-text
returns-in-NoColumn-clause-text c = rw (c.push_column.ensures.text, c.push_text-in-NoColumn.ensures.text, c.in-NoColumn.is) (simp append_assoc)

pub returns-in-NoInput-clause-text : goal.returns-in-NoInput-clause-text
returns-in-NoInput-clause-text c =
    rw (c.push_text-in-NoInput-2.ensures.text, c.push_index.ensures.text, c.push_text-in-NoInput.ensures.text, c.in-NoInput.is) (simp append_assoc)

pub returns-in-LongLine-clause-text : goal.returns-in-LongLine-clause-text
returns-in-LongLine-clause-text c = rw (c.push_text-in-LongLine.ensures.text, c.in-LongLine.is) refl
