-- What the definitions see of a named plant of the code.
use Rattle.std.specs.Prelude.{ℕ, List}
use Rattle.plant_model.specs.Seen.{plant_of}
use Rattle.model_file.specs.declared.bank.NamedPlant.{NamedPlant}
use Rattle.model_file.specs.Bank.{Named}

abbrev pub named : NamedPlant → Named
named m = record { name = m.name.bytes; plant = plant_of m.plant }

abbrev pub name_seen : NamedPlant → List ℕ
name_seen m = m.name.bytes
