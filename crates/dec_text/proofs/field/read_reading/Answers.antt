use Rattle.dec_text.specs.Reading.{without_gaps}
use Rattle.dec_text.proofs.Readings.{number_sound}
use Rattle.dec_text.proofs.field.read_reading.Goals as goal

pub returns-clause-range : goal.returns-clause-range
returns-clause-range c = rw (c.number_said.ensures, c.without_gaps-text.ensures) (number_sound (without_gaps c.args.field.now)).range

pub returns-clause-near : goal.returns-clause-near
returns-clause-near c = rw (c.number_said.ensures, c.without_gaps-text.ensures) (number_sound (without_gaps c.args.field.now)).near

pub returns-clause-faults : goal.returns-clause-faults
returns-clause-faults c = rw (c.number_said.ensures, c.without_gaps-text.ensures) (number_sound (without_gaps c.args.field.now)).faults
