use Rattle.input_files.proofs.Models.{ok-file, says-file, ok-end}
use Rattle.input_files.proofs.model.read_model.Goals as goal

pub returns-clause-read_all : goal.returns-clause-read_all
returns-clause-read_all g c = ok-file c.models_of.result _ _ c.in-Ok.ensures.bytes (rw c.deref.ensures.value at c.models_of.ensures.ok)

pub returns-clause-says : goal.returns-clause-says
returns-clause-says g c = says-file c.models_of.result _ _ c.in-Ok.ensures.bytes (rw c.deref.ensures.value at c.models_of.ensures.says)

pub returns-clause-at_end : goal.returns-clause-at_end
returns-clause-at_end g c = ok-end c.models_of.result _ _ c.in-Ok.ensures.end (rw c.deref.ensures.value at c.models_of.ensures.ok)
