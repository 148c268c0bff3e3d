-- What a text says to the reader of telemetries, for the names of the demonstration.
use Rattle.std.specs.Prelude.{ℕ, List, [], ◌∷◌, codes, None}
use Rattle.plant_model.specs.Plant.{Sample}
use Rattle.telem_csv.specs.Telemetry.{Telemetry, telemetry, has_header}

-- how many bytes of a telemetry are read at most
abbrev pub most_telemetry : ℕ
most_telemetry = 1_073_741_824

-- what is read from a text, with the input `u` and the output `y`
abbrev pub said_by : List ℕ → Telemetry
said_by text = telemetry most_telemetry (codes "u" ∷ []) (codes "y" ∷ []) text

-- these rows, and no line that is refused
abbrev pub just : List Sample → Telemetry
just samples = has_header (record { samples = samples; refusal = None })
