-- The laws of reports: what their lines claim holds, and what `run` puts is accepted.
use Rattle.std.specs.Prelude.{ℕ, List, length, None}
use Rattle.plant_model.specs.Plant.{Sample}
use Rattle.observer_step.specs.Answers.{Observer, any_justified, as_run_chooses}
use Rattle.observer_step.specs.SetsAnswers.{sets_observer}
use Rattle.report_text.specs.Line.{Line}
use Rattle.report_rules.specs.Claims.{HullsHold, ExclusionsHold, MissesTold, IsSoundBefore, CandidatesRefute, plant_at}
use Rattle.report_rules.specs.Report.{Watch, IsReport, report, due_choice}

-- each hull of an accepted report of a sound observer holds every trajectory of its model
abbrev pub HullsAreSound : Type 0
HullsAreSound = (o : Observer) (w : Watch) (lines : List Line) → IsSoundBefore o w.samples (length w.samples)
    → IsReport any_justified o w lines → HullsHold (plant_at w.plants) w.samples 0 lines

-- each model that an accepted report of a sound observer excludes has no trajectory
abbrev pub ExclusionsAreSound : Type 0
ExclusionsAreSound = (o : Observer) (w : Watch) (lines : List Line) → IsSoundBefore o w.samples (length w.samples)
    → IsReport any_justified o w lines → ExclusionsHold (plant_at w.plants) w.samples 0 lines

-- each miss of a printed interval is told in an accepted report, whatever the observer is
abbrev pub MissesAreTold : Type 0
MissesAreTold = (o : Observer) (w : Watch) (lines : List Line) → IsReport any_justified o w lines → MissesTold w.samples 0 None lines

-- an estimate, by a plain set and one with rows, is sound at every sample
abbrev pub EstimateIsSound : Type 0
EstimateIsSound = (samples : List Sample) (n : ℕ) → IsSoundBefore sets_observer samples n

-- its candidates refute
abbrev pub EstimateRefutes : Type 0
EstimateRefutes = CandidatesRefute sets_observer

-- what `run` may put is accepted
abbrev pub RunIsAccepted : Type 0
RunIsAccepted = (o : Observer) (w : Watch) (lines : List Line) → CandidatesRefute o
    → IsReport as_run_chooses o w lines → IsReport any_justified o w lines

-- the report with the certificates that are due, or of the first candidates, is one that `run` may put
abbrev pub DueIsChosen : Type 0
DueIsChosen = (w : Watch) → IsReport as_run_chooses sets_observer w (report sets_observer w (due_choice sets_observer w.plants w.samples))
