-- The two models of the demonstration.
use Rattle.std.specs.Prelude.{ℕ, ◌+◌, ◌*◌, [], ◌∷◌, ◌++◌, codes, pos}
use Rattle.set_rules.specs.Round.{unit}
use Rattle.plant_model.specs.Plant.{Plant}
use Rattle.model_file.specs.Bank.{Models}
use Rattle.model_file.specs.Numbers.{zeros}
use Rattle.sim_gen.specs.Process.{Process}

-- the plant of two states that moves as a process of this coupling and this gain: half of each state stays, what is odd of it and a
-- hundredth of a unit of the push are its disturbances, and the first state is read within a twentieth of a unit
abbrev pub plant_with : ℕ → ℕ → Plant
plant_with coupling gain = record {
  states = 2;
  inputs = 1;
  outputs = 1;
  disturbances = 3;
  a = pos 500_000_000 ∷ pos (coupling * unit) ∷ pos 0 ∷ pos 500_000_000 ∷ [];
  b = pos 0 ∷ pos 0 ∷ pos 0 ∷ pos 0 ∷ pos (gain * unit) ∷ zeros 3;
  c = pos unit ∷ zeros 11;
  d = zeros 24;
  e = (pos 1 ∷ zeros 8) ++ (pos 1 ∷ pos 10_000_000 ∷ zeros 5);
  noise = pos 50_000_000 ∷ zeros 5;
  centre = zeros 2;
  radius = pos unit ∷ pos unit ∷ [];
  state_max = pos (1_000 * unit) ∷ pos (1_000 * unit) ∷ [];
}

-- the plant of a process
abbrev pub plant_of : Process → Plant
plant_of p = plant_with p.coupling p.gain

-- the true model, and the other, whose gain is greater by one
abbrev pub models_with : ℕ → ℕ → Models
models_with coupling gain = record {
  inputs = codes "u" ∷ [];
  outputs = codes "y" ∷ [];
  models = record { name = codes "true"; plant = plant_with coupling gain }
      ∷ record { name = codes "other"; plant = plant_with coupling (gain + 1) } ∷ [];
}
