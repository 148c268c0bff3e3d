use Rattle.std.proofs.Common.{◌-◌, length}
use Rattle.cert_replay.proofs.offers.+take_models.Given as goal

abbrev pub decreases-take_models : goal.decreases-take_models
decreases-take_models g l = length l.lives.now - length l.offers.now.items
