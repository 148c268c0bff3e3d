-- What a set of states predicts of the outputs, and which reading misses what is predicted.
use Rattle.std.specs.Prelude.{ℕ, List, Option, None, Some, ℤ, Bool, false}
use Rattle.set_rules.specs.Columns.{at, tabulate}
use Rattle.set_rules.specs.Tests.{first_below}
use Rattle.set_rules.specs.Zono.{Zono}
use Rattle.set_rules.specs.Box.{box, hull}
use Rattle.set_rules.specs.Strip.{out_interval, misses}
use Rattle.plant_model.specs.Plant.{Plant, Present, Sample, reading_at, through_of, output_row}

-- where the plant starts
abbrev pub first_set : Plant → Zono
first_set p = box p.states p.centre p.radius

-- the interval in which the set predicts output o, with the inputs u
abbrev pub out_of : Plant → List ℤ → Zono → ℕ → ℤ × ℤ
out_of p u z o = out_interval p.states (output_row p o) (through_of p u o) (at p.noise o) z

-- the predicted output intervals, in order
abbrev pub predicted_outs : Plant → List ℤ → Zono → List (ℤ × ℤ)
predicted_outs p u z = tabulate p.outputs (out_of p u z)

-- the ends of the set in each state, in order
abbrev pub hulls : Plant → Zono → List (ℤ × ℤ)
hulls p z = tabulate p.states (hull z)

-- a reading, if there is one, misses the interval
abbrev pub reading_misses : ℤ × ℤ → Option Present → Bool
reading_misses ends None = false
reading_misses ends (Some r) = misses ends r.value r.slack

-- the least output whose reading misses the interval that the set predicts
unfoldable pub due : Plant → Sample → Zono → Option ℕ
due p s z = first_below p.outputs (λ o. reading_misses (out_of p s.inputs z o) (reading_at s o))
