use Rattle.std.proofs.Common.{◌-◌, ◌≤◌, length, Some, None, ap, arith, length-append}
use Rattle.std.specs.Prelude.{slice_range}
use Rattle.farkas_check.specs.Certificate.{certificate_of}
use Rattle.report_rules.specs.Replay.{IsOfferIn}
use Rattle.cert_replay.specs.Window.{left_in}
use Rattle.cert_replay.proofs.Taken.{ahead-then}
use Rattle.cert_replay.proofs.Models.{model-before, model-at, model-excludes, model-stays, taken-within, taken-past}
use Rattle.cert_replay.proofs.offers.take_model.Goals as goal

pub returns-in_default-clause-taken : goal.returns-in_default-clause-taken
returns-in_default-clause-taken g c =
    model-before c.args.model c.args.outputs c.args.states c.args.place c.args.window.now c.take_lines.new.self (g.F.Shelf.state c.args.shelf.now) (g.F.Shelf.state c.take_lines.new.shelf)
    c.requires.place c.in_ok-from.ensures.ahead (rw c.in_default.is at c.in_ok-from.ensures.taken)

pub returns-in_default-2-clause-ahead : goal.returns-in_default-2-clause-ahead
returns-in_default-2-clause-ahead g c = ahead-then _ _ _ _ _ _ c.in_ok-from.ensures.ahead c.in_ok-to.ensures.ahead

pub returns-in_default-2-clause-taken : goal.returns-in_default-2-clause-taken
returns-in_default-2-clause-taken g c =
    model-at c.args.model c.args.outputs c.args.states c.args.place c.args.window.now c.take_lines.new.self (g.F.Shelf.state c.args.shelf.now) (g.F.Shelf.state c.take_lines.new.shelf)
    c.requires.place c.in_ok-from.ensures.ahead c.in-Some.from (rw c.in-Some.is at c.in_ok-from.ensures.taken) c.take_lines-2.new.self (g.F.Shelf.state c.take_lines-2.new.shelf)
    c.in_ok-to.ensures.ahead (rw c.in_default-2.is at c.in_ok-to.ensures.taken)

pub text_between-requires-clause-some : goal.text_between-requires-clause-some
text_between-requires-clause-some g c =
    let within = taken-within c.args.outputs c.args.place c.args.window.now c.take_lines.new.self (g.F.Shelf.state c.args.shelf.now) c.in-Some.from (rw c.in-Some.is at c.in_ok-from.ensures.taken) in
    let ahead = c.in_ok-to.ensures.ahead in
    let wide : c.in-Some.from ≤ length (left_in c.take_lines-2.new.self) = omega (arith, within, ap length ahead.grows, length-append (left_in c.take_lines.new.self) ahead.piece) in
    omega (arith, taken-past c.in-Some.from c.in-Some-2.to (left_in c.take_lines-2.new.self) wide (rw c.in-Some-2.is at c.in_ok-to.ensures.taken))

pub text_between-requires-clause-within : goal.text_between-requires-clause-within
text_between-requires-clause-within g c = taken-within 1 (Some c.in-Some.from) c.take_lines.new.self c.take_lines-2.new.self (g.F.Shelf.state c.take_lines.new.shelf) c.in-Some-2.to (rw c.in-Some-2.is at c.in_ok-to.ensures.taken)

pub returns-in-Some-offer_in-clause-ahead : goal.returns-in-Some-offer_in-clause-ahead
returns-in-Some-offer_in-clause-ahead g c = ahead-then _ _ _ _ _ _ c.in_ok-from.ensures.ahead c.in_ok-to.ensures.ahead

pub returns-in-Some-offer_in-clause-taken : goal.returns-in-Some-offer_in-clause-taken
returns-in-Some-offer_in-clause-taken g c =
    let taken = rw c.in-Some.is at c.in_ok-from.ensures.taken in
    let within = taken-within c.args.outputs c.args.place c.args.window.now c.take_lines.new.self (g.F.Shelf.state c.args.shelf.now) c.in-Some.from taken in
    let ahead = c.in_ok-to.ensures.ahead in
    let wide : c.in-Some.from ≤ length (left_in c.take_lines-2.new.self) = omega (arith, within, ap length ahead.grows, length-append (left_in c.take_lines.new.self) ahead.piece) in
    let offer : IsOfferIn c.args.model (slice_range (left_in c.take_lines-2.new.self) c.in-Some.from (c.in-Some-2.to - 1)) (Some (certificate_of c.in-Some-offer_in.cert)) =
    rw (c.text_between.ensures, c.in-Some-offer_in.is) at c.offer_in.ensures in
    model-excludes c.args.model c.args.outputs c.args.states c.args.place c.args.window.now c.take_lines.new.self (g.F.Shelf.state c.args.shelf.now) (g.F.Shelf.state c.take_lines.new.shelf)
    c.requires.place c.in_ok-from.ensures.ahead c.in-Some.from taken c.take_lines-2.new.self (g.F.Shelf.state c.take_lines-2.new.shelf) ahead
    c.in-Some-2.to wide (rw c.in-Some-2.is at c.in_ok-to.ensures.taken) (certificate_of c.in-Some-offer_in.cert) offer

pub returns-clause-ahead : goal.returns-clause-ahead
returns-clause-ahead g c = ahead-then _ _ _ _ _ _ (ahead-then _ _ _ _ _ _ c.in_ok-from.ensures.ahead c.in_ok-to.ensures.ahead) c.in_ok-behind.ensures.ahead

pub returns-clause-taken : goal.returns-clause-taken
returns-clause-taken g c =
    let taken = rw c.in-Some.is at c.in_ok-from.ensures.taken in
    let within = taken-within c.args.outputs c.args.place c.args.window.now c.take_lines.new.self (g.F.Shelf.state c.args.shelf.now) c.in-Some.from taken in
    let ahead = c.in_ok-to.ensures.ahead in
    let wide : c.in-Some.from ≤ length (left_in c.take_lines-2.new.self) = omega (arith, within, ap length ahead.grows, length-append (left_in c.take_lines.new.self) ahead.piece) in
    let offer : IsOfferIn c.args.model (slice_range (left_in c.take_lines-2.new.self) c.in-Some.from (c.in-Some-2.to - 1)) None =
    rw (c.text_between.ensures, c.in_default-offer_in.is) at c.offer_in.ensures in
    model-stays c.args.model c.args.outputs c.args.states c.args.place c.args.window.now c.take_lines.new.self (g.F.Shelf.state c.args.shelf.now) (g.F.Shelf.state c.take_lines.new.shelf)
    c.requires.place c.in_ok-from.ensures.ahead c.in-Some.from taken c.take_lines-2.new.self (g.F.Shelf.state c.take_lines-2.new.shelf) ahead
    c.in-Some-2.to wide (rw c.in-Some-2.is at c.in_ok-to.ensures.taken) c.take_lines-3.new.self (g.F.Shelf.state c.take_lines-3.new.shelf) c.in_ok-behind.ensures.ahead offer
    c.in_ok-behind.behind c.in_ok-behind.ensures.taken
