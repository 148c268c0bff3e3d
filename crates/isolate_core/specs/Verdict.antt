-- The verdict on a list of truth values, one for each model: whether it is still possible.
use Rattle.std.specs.Prelude.{ℕ, ◌+◌, ◌==◌, Bool, if◌then◌else◌, List, [], ◌∷◌}
use Rattle.isolate_core.specs.declared.verdict.Verdict.{Verdict}
use Rattle.isolate_core.specs.declared.verdict.Verdict.TheVariants.{None, Isolated, Several, Fault}

-- the indices of the possible models, in order, where the first truth value is that of model i
abbrev pub possible_from : ℕ → List Bool → List ℕ
possible_from i [] = []
possible_from i (b ∷ bs) = if b then (i ∷ possible_from (i + 1) bs) else possible_from (i + 1) bs

-- the indices of the possible models, in order
abbrev pub possible_models : List Bool → List ℕ
possible_models bs = possible_from 0 bs

-- no model; one alone; the nominal model, which is model 0, and others; others alone
abbrev pub verdict_of : List ℕ → Verdict
verdict_of [] = None
verdict_of (i ∷ []) = Isolated i
verdict_of (i ∷ j ∷ more) = if i == 0 then Several else Fault

-- the verdict once a model with a greater index is found possible too
abbrev pub with_model : Verdict → ℕ → Verdict
with_model None index = Isolated index
with_model (Isolated i) index = if i == 0 then Several else Fault
with_model Several index = Several
with_model Fault index = Fault
