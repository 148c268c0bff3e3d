use Rattle.farkas_check.proofs.Gains.{first-outweighed, second-outweighed}
use Rattle.farkas_check.proofs.pair.Pair.is_hopeless.Goals as goal

pub returns-then-is_outweighed_by : goal.returns-then-is_outweighed_by
returns-then-is_outweighed_by c = λ is. first-outweighed c.args.self.now (c.is_outweighed_by.ensures is)

pub returns-else-is_outweighed_by : goal.returns-else-is_outweighed_by
returns-else-is_outweighed_by c = λ is. second-outweighed c.args.self.now (c.is_outweighed_by-else-is_outweighed_by.ensures is)
