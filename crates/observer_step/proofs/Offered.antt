-- A certificate, or none, that is offered or given for a sample.
use Rattle.std.proofs.Common.{◌≡◌, ℕ, ℤ, List, Bool, true, not, ◌&&◌, is_none, Option, None, Some, eq-eqb, refl}
use Rattle.farkas_check.specs.Certificate.{Certificate, by_out, by_rows}
use Rattle.farkas_check.specs.Multipliers.{are_multipliers}
use Rattle.observer_step.specs.Answers.{certificate_by, is_justified, Rule, any_justified, as_run_chooses, is_allowed}
use Rattle.observer_step.specs.Offers.{offers_output}
use Rattle.observer_step.proofs.Chosen.{chosen}

-- the readings are taken where what is offered is justified and is no output
pub taken-justified : (d : Option ℕ) (refutes : List ℤ → Bool) (c : Option Certificate) → is_justified d refutes c ≡ true
    → not (offers_output c) && is_none d ≡ not (offers_output c)
taken-justified None refutes None h = refl
taken-justified None refutes (Some (by_out p)) h = absurd cc
taken-justified None refutes (Some (by_rows ls)) h = refl
taken-justified (Some o) refutes None h = absurd cc
taken-justified (Some o) refutes (Some (by_out p)) h = refl
taken-justified (Some o) refutes (Some (by_rows ls)) h = absurd cc

-- the certificate of the output that is due, or else of the first candidate, is allowed by each rule, where candidates refute
pub given-allowed : (rule : Rule) (d : Option ℕ) (refutes : List ℤ → Bool) (first : Option (List ℤ))
    → ((list : List ℤ) → first ≡ Some list → refutes list && are_multipliers list ≡ true)
    → is_allowed rule d refutes first (certificate_by d first) ≡ true
given-allowed any_justified (Some o) refutes first good = eq-eqb o o refl
given-allowed any_justified None refutes None good = refl
given-allowed any_justified None refutes (Some list) good = good list refl
given-allowed as_run_chooses d refutes first good = chosen refutes d first
