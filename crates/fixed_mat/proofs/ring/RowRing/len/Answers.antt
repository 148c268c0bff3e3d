use Rattle.std.proofs.Common.{ap, ◌∙◌, length, sym}
use Rattle.fixed_mat.proofs.Around.{length-around}
use Rattle.fixed_mat.proofs.ring.RowRing.len.Goals as goal

pub returns-clause-value : goal.returns-clause-value
returns-clause-value c = sym (length-around c.self.inside.first c.self.inside.count c.self.inside.slots) ∙ ap length c.self.view_is
