-- What the definitions say of one model at a sample.
use Rattle.std.specs.Prelude.{ℕ, ◌==◌, ℤ, Bool, true, false, ◌&&◌, is_none, List, [], Option, None, Some}
use Rattle.std.specs.Prelude.{option_map, if◌then◌else◌}
use Rattle.std.specs.Ordering.{int_eq}
use lib.Pointwise.{pointwise}
use Rattle.farkas_check.specs.Certificate.{Certificate, by_out, by_rows}
use Rattle.farkas_check.specs.Multipliers.{are_multipliers}
use Rattle.set_rules.specs.Zono.{Zono}
use Rattle.plant_model.specs.Plant.{Plant, Sample, sample_at}
use Rattle.observer_step.specs.Predicted.{predicted_outs, hulls, due}

-- the predicted output intervals; whether the model was widened; its certificate, if it is excluded; and else the hulls of its states
pub record Answer : Type 0 where
  pub predicted : List (ℤ × ℤ)
  pub is_widened : Bool
  pub certificate : Option Certificate
  pub hulls : List (ℤ × ℤ)

-- the rules by which a set follows a plant through its telemetry: the predicted and the corrected set at a sample, whether
-- the plant was widened there, which multipliers refute the rows that are kept then, and the first candidate that does
pub record Observer : Type 0 where
  pub predicted : Plant → List Sample → ℕ → Zono
  pub corrected : Plant → List Sample → ℕ → Zono
  pub widened : Plant → List Sample → ℕ → Bool
  pub refutes : Plant → List Sample → ℕ → List ℤ → Bool
  pub candidate : Plant → List Sample → ℕ → Option (List ℤ)

-- the output that is due at sample k
abbrev pub due_at : Observer → Plant → List Sample → ℕ → Option ℕ
due_at o p samples k = due p (sample_at samples k) (o.predicted p samples k)

-- the certificate of an output that is due; or where none is, that of a candidate, if there is one
abbrev pub certificate_by : Option ℕ → Option (List ℤ) → Option Certificate
certificate_by (Some o) candidate = Some (by_out o)
certificate_by None candidate = option_map by_rows candidate

-- the certificate at sample k: that of the output that is due, or else of the first candidate that refutes the kept rows
abbrev pub certificate_at : Observer → Plant → List Sample → ℕ → Option Certificate
certificate_at o p samples k = certificate_by (due_at o p samples k) (o.candidate p samples k)

-- a certificate, or none, is justified: where an output is due, its certificate alone; and else none, or multipliers that refute the kept rows
abbrev pub is_justified : Option ℕ → (List ℤ → Bool) → Option Certificate → Bool
is_justified (Some o) refutes (Some (by_out p)) = p == o
is_justified (Some o) refutes (Some (by_rows ls)) = false
is_justified (Some o) refutes None = false
is_justified None refutes (Some (by_out p)) = false
is_justified None refutes (Some (by_rows ls)) = refutes ls && are_multipliers ls
is_justified None refutes None = true

-- the choice of `run`: where no output is due and a candidate refutes, the first that does
abbrev pub is_chosen : Option ℕ → (List ℤ → Bool) → Option (List ℤ) → Option Certificate → Bool
is_chosen (Some o) refutes first c = is_justified (Some o) refutes c
is_chosen None refutes None c = is_justified None refutes c
is_chosen None refutes (Some l) (Some (by_rows ls)) = pointwise int_eq ls l
is_chosen None refutes (Some l) (Some (by_out p)) = false
is_chosen None refutes (Some l) None = false

-- which certificates may stand in a report: any that is justified, or the choice of `run`
pub data Rule : Type 0 where
  any_justified : Rule
  as_run_chooses : Rule

abbrev pub is_allowed : Rule → Option ℕ → (List ℤ → Bool) → Option (List ℤ) → Option Certificate → Bool
is_allowed any_justified due refutes first c = is_justified due refutes c
is_allowed as_run_chooses due refutes first c = is_chosen due refutes first c

-- at sample k the rule allows this certificate, or none
abbrev pub allows_at : Rule → Observer → Plant → List Sample → ℕ → Option Certificate → Bool
allows_at rule o p samples k c = is_allowed rule (due_at o p samples k) (o.refutes p samples k) (o.candidate p samples k) c

-- the answer on a model at sample k where it is excluded by this certificate, or stays
abbrev pub answer_with : Observer → Plant → List Sample → ℕ → Option Certificate → Answer
answer_with o p samples k c = record {
  predicted = predicted_outs p (sample_at samples k).inputs (o.predicted p samples k);
  is_widened = o.widened p samples k;
  certificate = c;
  hulls = if is_none c then hulls p (o.corrected p samples k) else [];
}
