-- Lines that are made before they are compared.
use Rattle.std.specs.Prelude.{Some}
use Rattle.outside_io.specs.Sink.{SinkState}
use Rattle.cert_replay.specs.declared.made.MadeText.{MadeText}

-- what the text tells as a sink: it never fails, but may want room
abbrev pub made_state : MadeText → SinkState
made_state m = record { held = Some m.text.items; faults = 0; wants = m.wanted }
