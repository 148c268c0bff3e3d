-- The plant that some parts make, and the first limit that it breaks.
use Rattle.std.specs.Prelude.{ℕ, ◌+◌, unsigned_abs, Bool, ◌&&◌, not, nat_le, nat_lt, if◌then◌else◌, Option, Some, None, Result, Ok, Err}
use Rattle.std.specs.List.{list_all}
use Rattle.set_rules.specs.Columns.{at}
use Rattle.set_rules.specs.Tests.{first_below}
use Rattle.set_rules.specs.Zono.{range}
use Rattle.set_rules.specs.Limits.{most_states}
use Rattle.plant_model.specs.Counts.{most_inputs, most_outputs, most_disturbances}
use Rattle.plant_model.specs.declared.parts.PlantParts.{PlantParts}
use Rattle.plant_model.specs.declared.parts.PlantFault.{PlantFault}
use Rattle.plant_model.specs.declared.parts.PlantFault.TheVariants.{Counts, Negative, Box}
use Rattle.plant_model.specs.Plant.{Plant, noises}
use Rattle.plant_model.specs.Signs.{is_not_negative}

-- the plant of n states that has these parts
abbrev pub of_parts : (n : ℕ) → PlantParts n → Plant
of_parts n p = record {
  states = n;
  inputs = p.inputs;
  outputs = p.outputs;
  disturbances = p.dists;
  a = p.a;
  b = p.b;
  c = p.c;
  d = p.d;
  e = p.e;
  noise = p.noise;
  centre = p.centre;
  radius = p.radius;
  state_max = p.state_max;
}

-- 1 to 8 states, at most 4 inputs, 1 to 6 outputs, at most 8 disturbances
abbrev pub has_counts : Plant → Bool
has_counts p =
    (nat_le 1 p.states && nat_le p.states most_states)
    && (nat_le p.inputs most_inputs && ((nat_le 1 p.outputs && nat_le p.outputs most_outputs) && nat_le p.disturbances most_disturbances))

-- no noise of an output, no radius and no bound of a state is negative
abbrev pub has_no_negative : Plant → Bool
has_no_negative p =
    list_all is_not_negative (noises p) && (list_all is_not_negative p.radius && list_all is_not_negative p.state_max)

-- the initial box leaves the range in state i
abbrev pub leaves : Plant → ℕ → Bool
leaves p i = nat_lt range (unsigned_abs (at p.centre i) + unsigned_abs (at p.radius i))

-- the least state in which the initial box leaves the range
abbrev pub first_leaving : Plant → Option ℕ
first_leaving p = first_below p.states (leaves p)

abbrev pub boxed : Plant → Option ℕ → Result Plant PlantFault
boxed p None = Ok p
boxed p (Some i) = Err (Box i)

-- the plant, or the first limit that it breaks: the counts, then the signs, then the box
abbrev pub judged : Plant → Result Plant PlantFault
judged p = if not (has_counts p) then Err Counts else (if not (has_no_negative p) then Err Negative else boxed p (first_leaving p))
