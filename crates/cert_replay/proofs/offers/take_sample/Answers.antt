use Rattle.std.proofs.Common.{◌≡◌, [], ◌++◌, length, drop, sym, ◌∙◌, ap, subst}
use Rattle.model_bank.specs.Seen.{offers_seen}
use Rattle.cert_replay.specs.Window.{left_in}
use Rattle.cert_replay.specs.Offers.{TakesModels, TakesSample}
use Rattle.cert_replay.proofs.Taking.{takes-sample}
use Rattle.cert_replay.proofs.offers.take_sample.Goals as goal

pub returns-clause-taken : goal.returns-clause-taken
returns-clause-taken g c = λ ps are unread u.
    let adds = c.in_ok-take_models.ensures.taken in
    let first = c.in_ok-place.ensures.ahead in
    let more = c.in_ok-take_models.ensures.ahead in
    let none : offers_seen c.new-offers.result.items ≡ [] = ap offers_seen c.new-offers.ensures in
    let there = first.same unread u in
    let lives = c.args.lives.now in
    let bytes = left_in c.take_models.new.window in
    let begun = adds.takes ps are unread there in
    let all : TakesModels 0 ps lives c.in_ok-place.place bytes unread adds.os =
    subst (λ xs. TakesModels (length xs) (drop (length xs) ps) (drop (length xs) lives) c.in_ok-place.place bytes unread adds.os) none begun in
    subst (TakesSample ps lives bytes unread) (sym (adds.added ∙ ap (λ xs. xs ++ adds.os) none))
    (takes-sample ps lives adds.os c.in_ok-place.place c.args.window.now c.take_lines.new.self c.take_models.new.window (g.F.Shelf.state c.args.shelf.now) (g.F.Shelf.state c.take_lines.new.shelf) (g.F.Shelf.state c.take_models.new.shelf)
    unread u (more.same unread there) more c.in_ok-place.ensures.taken all)
