-- That a sample is within its limits has one proof at most.
use Rattle.std.proofs.Props.{props}
use Rattle.fixed_mat.specs.declared.reading.Reading.{Reading}
use Rattle.fixed_mat.specs.declared.reading.Reading.TheVariants.{Missing, Value}
use Rattle.plant_model.specs.Plant.{Sample, IsSample, IsReading}

pub IsReading-prop : (r : Reading) → IsProp (IsReading r)
IsReading-prop Missing = hlevel props
IsReading-prop (Value v slack) = hlevel props

pub IsSample-prop : (s : Sample) → IsProp (IsSample s)
IsSample-prop s = hlevel (props, IsReading-prop)
