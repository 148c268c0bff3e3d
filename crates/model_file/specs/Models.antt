-- The models of a file.
use Rattle.std.specs.Prelude.{ℕ, ◌+◌, ℤ, pos, negsuc, neg_ℤ, unsigned_abs, Bool, false, nat_le, List, [], ◌∷◌, ◌++◌, Some, Ok}
use Rattle.toml.specs.Data.{Data, as_integer}
use Rattle.set_rules.specs.Limits.{coef}
use Rattle.set_rules.specs.Zono.{range}
use Rattle.plant_model.specs.Plant.{Plant}
use Rattle.dec_text.specs.Steps.{◌>>=◌, passing}
use Rattle.model_file.specs.Limits.{most_entries}
use Rattle.model_file.specs.Places.{of_model}
use Rattle.model_file.specs.Reads.{Judged, value_at, of_kind}
use Rattle.model_file.specs.Names.{name_of}
use Rattle.model_file.specs.Numbers.{is_from, is_radius, vector, matrix, matrix_unless_empty}
use Rattle.model_file.specs.Bank.{Named}
use Rattle.model_file.specs.declared.plants.Counts.{Counts}
use Rattle.model_file.specs.declared.place.Field.{Field}
use Rattle.model_file.specs.declared.place.Count.{Count}
use Rattle.model_file.specs.declared.fault.ModelFault.TheVariants as fault

abbrev pub is_at_least : ℕ → ℤ → Bool
is_at_least least (pos n) = nat_le least n
is_at_least least (negsuc n) = false

-- an integer from `least` to 8, in model i
unfoldable pub count_of : ℕ → Field → Count → ℕ → Data → Judged ℕ
count_of i f what least model =
    value_at (of_model i f) model >>= λ v. of_kind (of_model i f) (as_integer v)
    >>= passing (is_at_least least) (fault.Kind (of_model i f))
    >>= λ z. passing (λ n. nat_le n most_entries) (fault.TooMany what (unsigned_abs z) (Some i)) (unsigned_abs z)

pub record Matrices : Type 0 where
  pub a : List ℤ
  pub b : List ℤ
  pub c : List ℤ
  pub d : List ℤ
  pub e : List ℤ

pub record Bounds : Type 0 where
  pub noise : List ℤ
  pub centre : List ℤ
  pub radius : List ℤ
  pub state_max : List ℤ

-- the matrices of model i with n states; `B` and `D` are read only where there are inputs, `E` only where there are disturbances
unfoldable pub matrices_of : ℕ → ℕ → Counts → Data → Judged Matrices
matrices_of i n k model = do
  a ← matrix n n coef (of_model i Field.A) n n model
  b ← matrix_unless_empty n 4 coef (of_model i Field.B) n k.inputs model
  c ← matrix 6 n coef (of_model i Field.C) k.outputs n model
  d ← matrix_unless_empty 6 4 coef (of_model i Field.D) k.outputs k.inputs model
  e ← matrix_unless_empty n 8 range (of_model i Field.E) n k.disturbances model
  Ok (record { a = a; b = b; c = c; d = d; e = e })

-- the bounds of model i with n states
unfoldable pub bounds_of : ℕ → ℕ → Counts → Data → Judged Bounds
bounds_of i n k model = do
  noise ← vector 6 (λ o. is_from (pos 0)) (of_model i Field.Noise) k.outputs model
  centre ← vector n (λ j. is_from (neg_ℤ (pos range))) (of_model i Field.Centre) n model
  radius ← vector n (is_radius centre) (of_model i Field.Radius) n model
  state_max ← vector n (λ j. is_from (pos 0)) (of_model i Field.StateMax) n model
  Ok (record { noise = noise; centre = centre; radius = radius; state_max = state_max })

-- the plant of n states with these parts
abbrev pub made : ℕ → Counts → Matrices → Bounds → Plant
made n k m r = record {
  states = n;
  inputs = k.inputs;
  outputs = k.outputs;
  disturbances = k.disturbances;
  a = m.a;
  b = m.b;
  c = m.c;
  d = m.d;
  e = m.e;
  noise = r.noise;
  centre = r.centre;
  radius = r.radius;
  state_max = r.state_max;
}

-- the plant of model i, once its counts are known
unfoldable pub plant_in : ℕ → ℕ → Counts → Data → Judged Plant
plant_in i n k model = do
  matrices ← matrices_of i n k model
  bounds ← bounds_of i n k model
  Ok (made n k matrices bounds)

-- model i, for p inputs and m outputs, after models of these names
unfoldable pub model_of : ℕ → ℕ → List (List ℕ) → ℕ → Data → Judged Named
model_of p m earlier i model = do
  name ← name_of earlier i model
  states ← count_of i Field.States Count.States 1 model
  disturbances ← count_of i Field.Disturbances Count.Disturbances 0 model
  plant ← plant_in i states (record { inputs = p; outputs = m; disturbances = disturbances }) model
  Ok (record { name = name; plant = plant })

-- the models from index i on, after models of these names
abbrev pub models_from : ℕ → ℕ → List (List ℕ) → ℕ → List Data → Judged (List Named)
models_from p m earlier i [] = Ok []
models_from p m earlier i (d ∷ ds) =
    model_of p m earlier i d >>= λ first. models_from p m (earlier ++ first.name ∷ []) (i + 1) ds >>= λ rest. Ok (first ∷ rest)
