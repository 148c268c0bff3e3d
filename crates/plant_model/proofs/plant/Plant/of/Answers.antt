use Rattle.std.proofs.Common.{sym}
use Rattle.plant_model.specs.Parts.{of_parts}
use Rattle.plant_model.proofs.IsPlant.{is_plant}
use Rattle.plant_model.proofs.plant.Plant.of.Goals as goal

pub invariant_of-result : goal.invariant_of-result
invariant_of-result g c =
    (is_plant (of_parts g.row.N c.args.parts) (sym c.if-not-has_counts.ensures) (sym c.if-not-has_no_negative.ensures) (sym c.in-None.ensures) c.tell.ensures.shape.radius_size c.tell.ensures.entries, c.tell.ensures.shape)
