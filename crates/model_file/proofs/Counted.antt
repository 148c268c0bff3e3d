-- The models that were read: as many as tables, and each with the counts of the file.
use Rattle.std.proofs.Common.{◌≡◌, ℕ, zero, suc, ◌+◌, List, [], ◌∷◌, ◌++◌, length, Ok, refl, ap, subst, All, arith}
use Rattle.toml.specs.Data.{Data}
use Rattle.model_file.specs.declared.place.Field.{Field}
use Rattle.model_file.specs.declared.place.Count.{Count}
use Rattle.model_file.specs.declared.plants.Counts.{Counts}
use Rattle.model_file.specs.Names.{name_of}
use Rattle.model_file.specs.Bank.{Named, HasCounts}
use Rattle.model_file.specs.Models.{count_of, matrices_of, bounds_of, made, plant_in, model_of, models_from}
use Rattle.model_file.proofs.Bounded.{bind-ok, ok-value}
use Rattle.plant_model.specs.Plant.{Plant}

-- a plant that was read has these counts
plant-counts : (i n : ℕ) (k : Counts) (d : Data) (p : Plant) → plant_in i n k d ≡ Ok p → (p.inputs ≡ k.inputs) × (p.outputs ≡ k.outputs)
unfolding plant_in
plant-counts i n k d p read =
    let matrices = bind-ok (matrices_of i n k d) _ p read in
    let bounds = bind-ok (bounds_of i n k d) _ p matrices.2 in
    let whole = ok-value (made n k matrices.0 bounds.0) p bounds.2 in
    subst (λ p. (p.inputs ≡ k.inputs) × (p.outputs ≡ k.outputs)) whole (refl, refl)

-- a model that was read has the counts of the file
model-counts : (inputs outputs : ℕ) (earlier : List (List ℕ)) (i : ℕ) (d : Data) (m : Named) → model_of inputs outputs earlier i d ≡ Ok m → HasCounts inputs outputs m
unfolding model_of
model-counts inputs outputs earlier i d m read =
    let name = bind-ok (name_of earlier i d) _ m read in
    let states = bind-ok (count_of i Field.States Count.States 1 d) _ m name.2 in
    let disturbances = bind-ok (count_of i Field.Disturbances Count.Disturbances 0 d) _ m states.2 in
    let counts : Counts = record { inputs = inputs; outputs = outputs; disturbances = disturbances.0 } in
    let plant = bind-ok (plant_in i states.0 counts d) _ m disturbances.2 in
    let n : Named = record { name = name.0; plant = plant.0 } in
    let whole = ok-value n m plant.2 in
    subst (HasCounts inputs outputs) whole (plant-counts i states.0 counts d plant.0 plant.1)

-- the models of a list of tables
pub models-counts : (inputs outputs : ℕ) (earlier : List (List ℕ)) (i : ℕ) (ds : List Data) (ms : List Named) → models_from inputs outputs earlier i ds ≡ Ok ms
    → (length ms ≡ length ds) × All (HasCounts inputs outputs) ms
models-counts inputs outputs earlier i [] ms read =
    subst (λ ms. (length ms ≡ 0) × All (HasCounts inputs outputs) ms) (ok-value [] ms read) (refl, λ k d below. absurd (omega arith))
models-counts inputs outputs earlier i (d ∷ ds) ms read =
    let first = bind-ok (model_of inputs outputs earlier i d) _ ms read in
    let rest = bind-ok (models_from inputs outputs (earlier ++ first.0.name ∷ []) (i + 1) ds) _ ms first.2 in
    let after = models-counts inputs outputs (earlier ++ first.0.name ∷ []) (i + 1) ds rest.0 rest.1 in
    subst (λ ms. (length ms ≡ suc (length ds)) × All (HasCounts inputs outputs) ms) (ok-value (first.0 ∷ rest.0) ms rest.2)
    (ap (λ n. suc n) after.0, joined first.0 rest.0 (model-counts inputs outputs earlier i d first.0 first.1) after.1)
  where
    joined : (m : Named) (ms : List Named) → HasCounts inputs outputs m → All (HasCounts inputs outputs) ms → All (HasCounts inputs outputs) (m ∷ ms)
    joined m ms here there zero d below = here
    joined m ms here there (suc k) d below = there k d (omega arith)
