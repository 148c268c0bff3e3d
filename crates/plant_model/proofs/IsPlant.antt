-- What passes the tests of a plant is within the limits of a plant.
use Rattle.std.proofs.Common.{◌≡◌, ◌+◌, ◌≤◌, Bool, true, false, ◌&&◌, List, length, get_or, ℤ, pos, negsuc, ◌+ℤ◌, ◌≤ℤ◌, unsigned_abs, None, nat_lt, refl, arith}
use Rattle.std.proofs.lemmas.Int.{ints}
use Rattle.std.proofs.lemmas.Bool.Decides.{nat_tests}
use Rattle.std.proofs.lemmas.List.Elements.{All-take}
use Rattle.std.proofs.lemmas.List.Sums.{AllPass-from_list_all}
use Rattle.std.specs.List.{list_all}
use Rattle.set_rules.specs.Sum.{magnitude}
use Rattle.set_rules.specs.Columns.{at}
use Rattle.set_rules.specs.Zono.{range}
use Rattle.plant_model.specs.Plant.{Plant, IsPlant, HasSmallEntries, AllWithinLimit, AllSizes, noises}
use Rattle.plant_model.specs.Signs.{is_not_negative}
use Rattle.plant_model.specs.Parts.{has_counts, has_no_negative, first_leaving, leaves}
use Rattle.plant_model.proofs.FirstBelow.{first_below-none}

-- a number of this magnitude that is not negative
size : (v : ℤ) → is_not_negative v ≡ true → unsigned_abs v ≤ range → (pos 0 ≤ℤ v) × (v ≤ℤ pos range)
size (pos n) signed small = (omega (arith, ints), omega (arith, ints))
size (negsuc n) signed small = absurd (cc)

-- such numbers
sizes : (xs : List ℤ) → list_all is_not_negative xs ≡ true → AllWithinLimit range xs → AllSizes range xs
sizes xs signed small k d below = size (get_or xs k d) (AllPass-from_list_all is_not_negative xs signed k d below) (small k d below)

-- the box in one state
box : (c r : ℤ) → is_not_negative r ≡ true → nat_lt range (unsigned_abs c + unsigned_abs r) ≡ false → (magnitude c +ℤ r) ≤ℤ pos range
box c (pos n) signed within = let sum : unsigned_abs c + n ≤ range = grind (arith, nat_tests) in omega (arith, ints)
box c (negsuc n) signed within = absurd (cc)

-- what passes two tests
both : (a b : Bool) → (a && b) ≡ true → (a ≡ true) × (b ≡ true)
both true b h = (refl, h)
both false b h = absurd (cc)

pub is_plant : (p : Plant) → has_counts p ≡ true → has_no_negative p ≡ true → first_leaving p ≡ None → length p.radius ≡ p.states → HasSmallEntries p → IsPlant p
is_plant p counts signs none size small =
    let first = both (list_all is_not_negative (noises p)) (list_all is_not_negative p.radius && list_all is_not_negative p.state_max) signs in
    let rest = both (list_all is_not_negative p.radius) (list_all is_not_negative p.state_max) first.1 in
    let radii = AllPass-from_list_all is_not_negative p.radius rest.0 in
    record {
      some_state = grind (arith, nat_tests);
      few_states = grind (arith, nat_tests);
      few_inputs = grind (arith, nat_tests);
      some_output = grind (arith, nat_tests);
      few_outputs = grind (arith, nat_tests);
      few_disturbances = grind (arith, nat_tests);
      a_small = small.a_small;
      b_small = small.b_small;
      c_small = small.c_small;
      d_small = small.d_small;
      e_small = small.e_small;
      centre_small = small.centre_small;
      noise_size = sizes (noises p) first.0 (All-take (λ v. unsigned_abs v ≤ range) p.outputs p.noise small.noise_small);
      radius_size = sizes p.radius rest.0 small.radius_small;
      bound_size = sizes p.state_max rest.1 small.bound_small;
      box_small = λ i below. box (at p.centre i) (at p.radius i) (radii i (pos 0) (omega arith)) (first_below-none (leaves p) p.states none i below);
    }
