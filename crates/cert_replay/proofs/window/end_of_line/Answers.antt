use Rattle.cert_replay.proofs.Fronts.{some-short, none-short}
use Rattle.cert_replay.proofs.window.end_of_line.Goals as goal

pub returns-clause-some : goal.returns-clause-some
returns-clause-some c = some-short c.args.bytes.now c.args.from c.min.result c.first_feed.result c.requires c.min.ensures c.first_feed.ensures

pub returns-clause-none : goal.returns-clause-none
returns-clause-none c = none-short c.args.bytes.now c.args.from c.min.result c.first_feed.result c.requires c.min.ensures c.first_feed.ensures
