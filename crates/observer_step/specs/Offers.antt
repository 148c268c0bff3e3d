-- What a sample makes of a model where a certificate, or none, is offered for it.
use Rattle.std.specs.Prelude.{ℤ, Bool, true, false, if◌then◌else◌, List, Result, Ok, Err, Option, None, Some}
use Rattle.set_rules.specs.Zono.{Zono}
use Rattle.farkas_check.specs.Certificate.{Certificate, by_out, by_rows}
use Rattle.plant_model.specs.Plant.{Plant, Sample}
use Rattle.observer_step.specs.Estimate.{correct}
use Rattle.observer_step.specs.declared.outcome.Outcome.{Outcome}
use Rattle.observer_step.specs.declared.outcome.Judgement.{Judgement}
use Rattle.observer_step.specs.declared.outcome.NotJustified.{NotJustified}
use Rattle.observer_step.specs.declared.outcome.Unjustified.{Unjustified}

-- an output is offered
abbrev pub offers_output : Option Certificate → Bool
offers_output None = false
offers_output (Some (by_out o)) = true
offers_output (Some (by_rows ls)) = false

-- the set with the readings of the sample, where they are taken
abbrev pub correct_if : Bool → Plant → Sample → Zono → Zono
correct_if taken p s z = if taken then correct p s z else z

-- the predicted output intervals, in either answer
abbrev pub outs_in : Result Judgement Unjustified → List (ℤ × ℤ)
outs_in (Ok judgement) = judgement.outs.items
outs_in (Err unjustified) = unjustified.outs.items

-- what is answered to the offer
abbrev pub answer_in : Result Judgement Unjustified → Result Outcome NotJustified
answer_in (Ok judgement) = Ok judgement.outcome
answer_in (Err unjustified) = Err unjustified.why
