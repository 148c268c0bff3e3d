use Rattle.observer_step.proofs.SetsHold.{predicted-hold, corrected-hold, sets-hull, missed-has_none, refuted-has_none, later-sets}
use Rattle.observer_step.proofs.Later.{chosen-is-justified}
use Rattle.observer_step.proofs.laws_of_sets.Goals as goal

pub returns-clause-predicted : goal.returns-clause-predicted
returns-clause-predicted c = predicted-hold

pub returns-clause-corrected : goal.returns-clause-corrected
returns-clause-corrected c = corrected-hold

pub returns-clause-hull : goal.returns-clause-hull
returns-clause-hull c = sets-hull

pub returns-clause-missed : goal.returns-clause-missed
returns-clause-missed c = missed-has_none

pub returns-clause-refuted : goal.returns-clause-refuted
returns-clause-refuted c = refuted-has_none

pub returns-clause-later : goal.returns-clause-later
returns-clause-later c = later-sets

pub returns-clause-chosen : goal.returns-clause-chosen
returns-clause-chosen c = chosen-is-justified
