-- What the definitions see of the parts of a plant in the code.
use Rattle.std.specs.Prelude.{ℕ, ◌≤◌}
use Rattle.plant_model.specs.Counts.{most_inputs, most_outputs, most_disturbances}
use Rattle.model_file.specs.declared.plants.Counts.{Counts}
use Rattle.model_file.specs.declared.plants.Matrices as code_matrices
use Rattle.model_file.specs.declared.plants.Bounds as code_bounds
use Rattle.model_file.specs.Models.{Matrices, Bounds}

-- at most 4 inputs, 1 to 6 outputs, at most 8 disturbances
pub record AreCounts (k : Counts) : Type 0 where
  pub few_inputs : k.inputs ≤ most_inputs
  pub some_output : 1 ≤ k.outputs
  pub few_outputs : k.outputs ≤ most_outputs
  pub few_disturbances : k.disturbances ≤ most_disturbances

abbrev pub matrices_seen : {n : ℕ} → code_matrices.Matrices n → Matrices
matrices_seen m = record { a = m.a; b = m.b; c = m.c; d = m.d; e = m.e }

abbrev pub bounds_seen : {n : ℕ} → code_bounds.Bounds n → Bounds
bounds_seen r = record { noise = r.noise; centre = r.centre; radius = r.radius; state_max = r.state_max }
