-- What the definitions see of the code's types.
use Rattle.plant_model.specs.declared.sample.Sample as row
use Rattle.plant_model.specs.declared.any.AnyPlant.{AnyPlant}
use Rattle.plant_model.specs.declared.any.AnyPlant.TheVariants.{N1, N2, N3, N4, N5, N6, N7, N8}
use Rattle.plant_model.specs.Plant.{Sample, Plant}

-- the sample that a row is
abbrev pub sample_of : row.Sample → Sample
sample_of s = record { inputs = s.u.items; readings = s.y.items }

-- the plant, whatever the number of its states
abbrev pub plant_of : AnyPlant → Plant
plant_of (N1 p) = p
plant_of (N2 p) = p
plant_of (N3 p) = p
plant_of (N4 p) = p
plant_of (N5 p) = p
plant_of (N6 p) = p
plant_of (N7 p) = p
plant_of (N8 p) = p
