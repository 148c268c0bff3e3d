-- What comes of feeding a piece of a stream to a cutter.
use Rattle.std.specs.Prelude.{Bool, true, false, Result, Ok, Err}
use Rattle.telem_csv.specs.declared.fed.Fed.{Fed}
use Rattle.telem_csv.specs.declared.fed.Fed.TheVariants as fed
use Rattle.telem_csv.specs.declared.fault.TelemWhy.{TelemWhy}
use Rattle.telem_csv.specs.declared.fault.TelemWhy.TheVariants as why

-- the stream is refused at the line
abbrev pub is_refusal : Fed → Bool
is_refusal fed.Long = true
is_refusal fed.OverLimit = true
is_refusal fed.StrayCr = true
is_refusal fed.More = false
is_refusal fed.Line = false
is_refusal fed.Ended = false

-- the cause of a refusal
abbrev pub cause_of : Fed → TelemWhy
cause_of fed.OverLimit = why.TooLong
cause_of fed.Long = why.LongLine
cause_of _ = why.StrayCr

-- the refusal of a line with this cause, or what comes where there is none
abbrev pub fed_by : {A : Type 0} → Fed → Result A TelemWhy → Fed
fed_by passed (Ok x) = passed
fed_by passed (Err why.TooLong) = fed.OverLimit
fed_by passed (Err why.LongLine) = fed.Long
fed_by passed (Err _) = fed.StrayCr
