-- What a model file gives: names, and named plants.
use Rattle.std.specs.Prelude.{◌≡◌, ℕ, ◌≤◌, List, [], length}
use Rattle.std.specs.List.{All}
use Rattle.plant_model.specs.Counts.{most_inputs, most_outputs}
use Rattle.plant_model.specs.Plant.{Plant}
use Rattle.model_file.specs.Limits.{most_models}

-- a model: its name and its plant
pub record Named : Type 0 where
  pub name : List ℕ
  pub plant : Plant

pub record Models : Type 0 where
  pub inputs : List (List ℕ)
  pub outputs : List (List ℕ)
  pub models : List Named

-- a plant of so many inputs and outputs
abbrev pub HasCounts : ℕ → ℕ → Named → Type 0
HasCounts inputs outputs m = (m.plant.inputs ≡ inputs) × (m.plant.outputs ≡ outputs)

-- at most 4 inputs, 1 to 6 outputs, and 1 to 16 models of these counts
pub record IsModels (b : Models) : Type 0 where
  pub few_inputs : length b.inputs ≤ most_inputs
  pub some_output : 1 ≤ length b.outputs
  pub few_outputs : length b.outputs ≤ most_outputs
  pub some_model : 1 ≤ length b.models
  pub few_models : length b.models ≤ most_models
  pub counts : All (HasCounts (length b.inputs) (length b.outputs)) b.models

-- what stands past the last model
abbrev pub no_model : Named
no_model = record {
  name = [];
  plant = record {
    states = 0;
    inputs = 0;
    outputs = 0;
    disturbances = 0;
    a = [];
    b = [];
    c = [];
    d = [];
    e = [];
    noise = [];
    centre = [];
    radius = [];
    state_max = [];
  };
}
