use Rattle.czono_set.proofs.Taken.{inside-without}
use Rattle.czono_set.proofs.czono.Czono.of.Goals as goal

pub returns-clause-holds : goal.returns-clause-holds
returns-clause-holds g c q x inside = inside-without g.row.N q c.args.base c.new-rows.result.rows x c.new-rows.ensures.rows inside
