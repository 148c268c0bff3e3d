-- What is said of a telemetry that is refused.
use Rattle.std.specs.Prelude.{ℕ, List, [], ◌++◌, codes, decimal, if◌then◌else◌}
use Rattle.refusal_text.specs.Model.{decimal_cause}
use Rattle.telem_csv.specs.declared.fault.Col.{Col}
use Rattle.telem_csv.specs.declared.fault.TelemFault.{TelemFault}
use Rattle.telem_csv.specs.declared.fault.TelemWhy.{TelemWhy}
use Rattle.telem_csv.specs.declared.fault.TelemWhy.TheVariants as why

abbrev pub column_text : Col → List ℕ
column_text c = (if c.input then codes "input " else codes "output ") ++ decimal c.index

abbrev pub fields_cause : ℕ → ℕ → List ℕ
fields_cause want got = decimal want ++ codes " fields wanted, " ++ decimal got ++ codes " found"

-- the cause, where a telemetry may have `limit` bytes
abbrev pub telemetry_cause : ℕ → TelemWhy → List ℕ
telemetry_cause limit why.NoHeader = codes "no header"
telemetry_cause limit (why.NoColumn c) = codes "no column for " ++ column_text c
telemetry_cause limit (why.TwiceColumn c) = codes "column twice for " ++ column_text c
telemetry_cause limit (why.Ragged want got) = fields_cause want got
telemetry_cause limit (why.Field c e) = column_text c ++ codes ": " ++ decimal_cause e
telemetry_cause limit (why.NoInput i) = codes "input " ++ decimal i ++ codes " is missing"
telemetry_cause limit why.LongLine = codes "line over 4096 bytes"
telemetry_cause limit why.StrayCr = codes "carriage return inside a line"
telemetry_cause limit why.TooLong = codes "file over " ++ decimal limit ++ codes " bytes"
telemetry_cause limit why.Memory = []

abbrev pub refused_line : ℕ → List ℕ → List ℕ
refused_line n cause = codes "telemetry refused: line " ++ decimal n ++ codes ": " ++ cause

-- the line of a refusal, without its line feed; want of memory is no refusal
abbrev pub said_of : ℕ → ℕ → TelemWhy → List ℕ
said_of limit n why.Memory = codes "out of memory"
said_of limit n cause = refused_line n (telemetry_cause limit cause)

abbrev pub telemetry_refusal : ℕ → TelemFault → List ℕ
telemetry_refusal limit e = said_of limit e.line e.why
