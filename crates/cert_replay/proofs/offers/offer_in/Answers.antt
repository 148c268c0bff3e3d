use Rattle.std.proofs.Common.{Err, ap}
use Rattle.cert_replay.proofs.Exclusions.{read-offer, unread-offer}
use Rattle.cert_replay.proofs.offers.offer_in.Goals as goal

pub returns-in-Ok : goal.returns-in-Ok
returns-in-Ok c = read-offer c.args.model c.args.text.now c.in-Ok.rep c.exclusion_of.result c.in-Ok.ensures.line c.exclusion_of.ensures.some c.exclusion_of.ensures.none

pub returns-in-Err : goal.returns-in-Err
returns-in-Err c = unread-offer c.args.model c.args.text.now c.in-Err.field-0 (λ e. c.in-Err.ensures.too_long.0 (ap Err e)) (λ e. c.in-Err.ensures.no_form (ap Err e))
