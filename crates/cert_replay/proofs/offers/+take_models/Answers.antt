use Rattle.std.proofs.Common.{◌≡◌, ◌<◌, ◌∷◌, [], ◌++◌, length, sym, ◌∙◌, ap, arith, subst, option_map, get_or, false, Option, ℕ}
use Rattle.std.proofs.lemmas.List.{length-map, map-append}
use Rattle.outside_io.proofs.Fronts.{on-ok}
use Rattle.farkas_check.specs.Certificate.{Certificate, certificate_of}
use Rattle.model_bank.specs.Seen.{offers_seen}
use Rattle.cert_replay.specs.Offers.{AddsOffers, TakesIfLive}
use Rattle.cert_replay.proofs.Taking.{adds-closing, adds-model, on-both}
use Rattle.cert_replay.proofs.Taken.{ahead-then}
use Rattle.cert_replay.proofs.offers.+take_models.Goals as goal

pub returns-then-i-lives-clause-taken : goal.returns-then-i-lives-clause-taken
returns-then-i-lives-clause-taken g t c =
    let many = length-map c.args.offers.now.items (option_map certificate_of) in
    adds-closing c.args.counts.now c.args.lives.now c.args.place c.in_ok-take_lines.field-0 c.args.window.now c.take_lines.new.self (g.F.Shelf.state c.args.shelf.now) (g.F.Shelf.state c.take_lines.new.shelf)
    (offers_seen c.args.offers.now.items) (omega (arith, many, c.len-i.ensures.value, c.if-i-lives.true)) c.requires.models c.requires.place c.in_ok-take_lines.ensures.ahead c.in_ok-take_lines.ensures.taken

pub push-requires : goal.push-requires
push-requires g t c =
    let less : length c.args.offers.now.items < 16 = omega (arith, c.len-i.ensures.value, c.if-i-lives.false, c.requires.fewer, c.requires.few) in
    (omega arith, less)

pub returns-clause-ahead : goal.returns-clause-ahead
returns-clause-ahead g t c = on-ok c.take_models.result _ _ (λ a. ahead-then _ _ _ _ _ _ c.in_ok-offer.ensures.ahead a) c.take_models.ensures.ahead

pub returns-clause-taken : goal.returns-clause-taken
returns-clause-taken g t c =
    let items = c.args.offers.now.items in
    let before = offers_seen items in
    let lives = c.args.lives.now in
    let counts = c.args.counts.now in
    let i = c.len-i.result in
    let many : length before ≡ length items = length-map items (option_map certificate_of) in
    let place-is : i ≡ length before = c.len-i.ensures.value ∙ sym many in
    let less : length before < length lives = omega (arith, many, c.len-i.ensures.value, c.if-i-lives.false, c.requires.fewer) in
    let sizes : c.deref.result.now ≡ counts.states.items = c.deref.ensures.0 in
    let states-is : get_or c.deref.result.now i 0 ≡ get_or counts.states.items (length before) 0 = ap (λ xs. get_or xs i 0) sizes ∙ ap (λ n. get_or counts.states.items n 0) place-is in
    let offer : Option Certificate × Option ℕ = (option_map certificate_of c.in_ok-offer.offer, c.in_ok-offer.behind) in
    let taken : TakesIfLive (get_or lives i false) (length before) counts.outputs (get_or c.deref.result.now i 0) c.args.place c.args.window.now (g.F.Shelf.state c.args.shelf.now) c.take_if_live.new.window offer =
    subst (λ n. TakesIfLive (get_or lives i false) n counts.outputs (get_or c.deref.result.now i 0) c.args.place c.args.window.now (g.F.Shelf.state c.args.shelf.now) c.take_if_live.new.window offer) place-is c.in_ok-offer.ensures.taken in
    let pushed : offers_seen c.push.new.self.items ≡ before ++ offer.0 ∷ [] = ap offers_seen c.push.ensures.items ∙ map-append (option_map certificate_of) items (c.in_ok-offer.offer ∷ []) in
    on-both c.take_models.result _ _ _ (λ a r.
    adds-model counts lives c.args.place c.in_ok-offer.behind c.args.window.now c.take_if_live.new.window c.take_models.new.window
    (g.F.Shelf.state c.args.shelf.now) (g.F.Shelf.state c.take_if_live.new.shelf) (g.F.Shelf.state c.take_models.new.shelf) before (offers_seen c.take_models.new.offers.items)
    offer.0 (get_or lives i false) (get_or c.deref.result.now i 0) less c.requires.models c.requires.place (ap (λ n. get_or lives n false) place-is) states-is c.in_ok-offer.ensures.ahead a taken
    (subst (λ xs. AddsOffers counts lives c.in_ok-offer.behind c.take_if_live.new.window (g.F.Shelf.state c.take_if_live.new.shelf) c.take_models.new.window xs (offers_seen c.take_models.new.offers.items)) pushed r))
    c.take_models.ensures.ahead c.take_models.ensures.taken
