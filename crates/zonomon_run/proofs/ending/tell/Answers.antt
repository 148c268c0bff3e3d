use Rattle.zonomon_run.proofs.Told.{told}
use Rattle.zonomon_run.proofs.ending.tell.Goals as goal

pub returns-clause-told : goal.returns-clause-told
returns-clause-told g c = told c.put_ending.result _ _ _ c.put_ending.ensures
