use Rattle.std.proofs.Common.{◌≡◌, ◌<◌, ◌+◌, ◌-◌, ◌++◌, take, drop, length, ap, ◌∙◌, append-nil, length-append, arith}
use Rattle.std.proofs.lemmas.Bool.Decides.{nat_tests}
use Rattle.std.proofs.lemmas.List.{length-take-le}
use Rattle.cert_replay.proofs.Read.{left-read, reads-ahead}
use Rattle.cert_replay.proofs.window.Window.read_more.Goals as goal

pub returns-clause-ahead : goal.returns-clause-ahead
returns-clause-ahead g c =
    let m = c.make_room.new.self in
    let n = c.in_ok-count.count in
    let reads = c.in_ok-count.ensures in
    let left = left-read m.bytes c.next.new.into _ m.at m.end n m.within (omega (arith, m.size, m.short)) reads.here.bound.0 in
    reads-ahead c.args.self.now _ _ _ c.next.new.into n (left ∙ ap (λ l. l ++ take n c.next.new.into) c.make_room.ensures.left) c.make_room.ensures.lines reads

pub returns-clause-none : goal.returns-clause-none
returns-clause-none g c = λ none.
    let m = c.make_room.new.self in
    let n = c.in_ok-count.count in
    let left = left-read m.bytes c.next.new.into (drop (m.end + 4096 - m.end) (drop m.end m.bytes)) m.at m.end n m.within (omega (arith, m.size, m.short)) c.in_ok-count.ensures.here.bound.0 in
    let zero : n ≡ 0 = grind (arith, nat_tests) in
    left ∙ ap (λ k. take (m.end - m.at) (drop m.at m.bytes) ++ take k c.next.new.into) zero ∙ append-nil _ ∙ c.make_room.ensures.left

pub returns-clause-more : goal.returns-clause-more
returns-clause-more g c = λ some.
    let m = c.make_room.new.self in
    let n = c.in_ok-count.count in
    let left = left-read m.bytes c.next.new.into (drop (m.end + 4096 - m.end) (drop m.end m.bytes)) m.at m.end n m.within (omega (arith, m.size, m.short)) c.in_ok-count.ensures.here.bound.0 in
    let positive : 0 < n = grind (arith, nat_tests) in
    omega (arith, positive, ap length left, length-append (take (m.end - m.at) (drop m.at m.bytes)) (take n c.next.new.into), length-take-le n c.next.new.into c.in_ok-count.ensures.here.bound.0, ap length c.make_room.ensures.left)
