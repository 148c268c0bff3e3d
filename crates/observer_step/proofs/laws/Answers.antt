use Rattle.observer_step.proofs.TrajectoriesHold.{begin-holds, predict-holds, correct-holds, ready-holds, corrected-holds}
use Rattle.observer_step.proofs.ExclusionHolds.{hull-contains, due-has_none, excluded-stays, later-nothing}
use Rattle.observer_step.proofs.laws.Goals as goal

pub returns-clause-begun : goal.returns-clause-begun
returns-clause-begun c = begin-holds

pub returns-clause-predict : goal.returns-clause-predict
returns-clause-predict c = predict-holds

pub returns-clause-correct : goal.returns-clause-correct
returns-clause-correct c = correct-holds

pub returns-clause-predicted : goal.returns-clause-predicted
returns-clause-predicted c = ready-holds

pub returns-clause-corrected : goal.returns-clause-corrected
returns-clause-corrected c = corrected-holds

pub returns-clause-hull : goal.returns-clause-hull
returns-clause-hull c = hull-contains

pub returns-clause-excluded : goal.returns-clause-excluded
returns-clause-excluded c = due-has_none

pub returns-clause-stays : goal.returns-clause-stays
returns-clause-stays c = excluded-stays

pub returns-clause-later : goal.returns-clause-later
returns-clause-later c = later-nothing
