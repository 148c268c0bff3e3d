use Rattle.std.proofs.Common.{◌≡◌, None}
use Rattle.set_rules.specs.Tests.{first_below}
use Rattle.plant_model.specs.Parts.{of_parts, leaves}
use Rattle.plant_model.proofs.parts.PlantParts.first_leaving.Given as goal

abbrev pub invariant-loop-i : goal.invariant-loop-i
invariant-loop-i g l = first_below l.i (leaves (of_parts g.row.N l.self)) ≡ None
