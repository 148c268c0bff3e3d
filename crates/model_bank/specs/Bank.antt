-- A bank, and the list of samples that it stands for.
use Rattle.std.specs.Prelude.{◌≡◌, ℕ, zero, suc, ◌-◌, ◌≤◌, true, Bool, List, length, map, All, ℤ}
use Rattle.set_rules.specs.Limits.{input_limit}
use Rattle.plant_model.specs.Plant.{Plant, Sample, sample_at, AllWithinLimit}
use Rattle.observer_step.specs.Sets.{Sets, first_sets, corrected_sets}
use Rattle.model_file.specs.Bank.{Models}

-- one model of a bank
pub record Member : Type 0 where
  pub plant : Plant
  pub estimate : Sets
  pub live : Bool

-- the counts of inputs and outputs of all models, the models, how many samples were taken, and the inputs of the last of them
pub record Bank : Type 0 where
  pub inputs : ℕ
  pub outputs : ℕ
  pub members : List Member
  pub count : ℕ
  pub last_inputs : List ℤ

-- a model of so many inputs and outputs
abbrev pub HasPlantOf : ℕ → ℕ → Member → Type 0
HasPlantOf inputs outputs m = (m.plant.inputs ≡ inputs) × (m.plant.outputs ≡ outputs)

-- at most 4 inputs, 1 to 6 outputs, 1 to 16 models of these counts; the last inputs are
-- within their limit, and as many as there are once there was a sample
pub record IsBank (bank : Bank) : Type 0 where
  pub few_inputs : bank.inputs ≤ 4
  pub some_output : 1 ≤ bank.outputs
  pub few_outputs : bank.outputs ≤ 6
  pub some_member : 1 ≤ length bank.members
  pub few_members : length bank.members ≤ 16
  pub counts : All (HasPlantOf bank.inputs bank.outputs) bank.members
  pub last_small : AllWithinLimit input_limit bank.last_inputs
  pub last_inputs : 1 ≤ bank.count → length bank.last_inputs ≡ bank.inputs

-- a member before the first sample
abbrev pub begun : Plant → Member
begun p = record { plant = p; estimate = first_sets p; live = true }

-- the sets of a model after these samples: where it starts, or corrected by the last of them
abbrev pub sets_after : Plant → List Sample → ℕ → Sets
sets_after p samples zero = first_sets p
sets_after p samples (suc k) = corrected_sets p samples k

-- a member stands for these samples: where it is live, its estimate is that of the samples
abbrev pub MemberStands : List Sample → Member → Type 0
MemberStands samples m = m.live ≡ true → m.estimate ≡ sets_after m.plant samples (length samples)

-- a bank of these plants, of which these are live, stands for these samples
pub record BankStands (plants : List Plant) (samples : List Sample) (lives : List Bool) (bank : Bank) : Type 0 where
  pub plants_are : map (λ (m : Member). m.plant) bank.members ≡ plants
  pub lives_are : map (λ (m : Member). m.live) bank.members ≡ lives
  pub count_is : bank.count ≡ length samples
  pub inputs_are : bank.last_inputs ≡ (sample_at samples (length samples - 1)).inputs
  pub members_stand : All (MemberStands samples) bank.members

-- the plants of a model file, in order
abbrev pub plants_in : Models → List Plant
plants_in m = map (λ n. n.plant) m.models

-- and the names
abbrev pub names_in : Models → List (List ℕ)
names_in m = map (λ n. n.name) m.models
