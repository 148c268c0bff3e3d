use Rattle.std.proofs.Common.{◌∙◌, sym}
use Rattle.input_files.proofs.Models.{refused-is, not-want}
use Rattle.input_files.proofs.model.models_of.Goals as goal

pub returns-else-is_memory-clause-says : goal.returns-else-is_memory-clause-says
returns-else-is_memory-clause-says c = refused-is _ _ (not-want _ _ c.in-Err.ensures.err (sym c.is_memory.ensures ∙ c.if-is_memory.false))
