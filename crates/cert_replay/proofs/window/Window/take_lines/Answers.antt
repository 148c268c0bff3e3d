use Rattle.std.proofs.Common.{◌+◌, ◌≤◌, length, ap, arith, rules, length-append}
use Rattle.cert_replay.specs.Window.{left_in}
use Rattle.cert_replay.proofs.Taken.{stand-longer, stand-more, stop-more, stop-sooner, ahead-then}
use Rattle.cert_replay.proofs.window.Window.take_lines.Goals as goal

pub returns-in-None-clause-ahead : goal.returns-in-None-clause-ahead
returns-in-None-clause-ahead g c = ahead-then _ _ _ _ _ _ c.loop.invariant.ahead c.in_ok-to.ensures.ahead

pub returns-in-None-clause-taken : goal.returns-in-None-clause-taken
returns-in-None-clause-taken g c = rw c.in-Some.is (λ unread u.
    let before = c.loop.invariant.ahead in
    let now = c.in_ok-to.ensures.ahead in
    let taken = rw c.in-None.is at c.in_ok-to.ensures.taken in
    let there = before.same unread u in
    let u2 = now.same unread there in
    let within : c.in-Some.at ≤ length (left_in c.loop.self) = omega (arith, c.loop.invariant.begins, ap length before.grows, length-append (left_in c.args.self.now) before.piece) in
    let wide : c.in-Some.at ≤ length (left_in c.take_line.new.self) = omega (arith, within, ap length now.grows, length-append (left_in c.loop.self) now.piece) in
    stop-sooner (c.loop.counter + 1) c.args.n c.in-Some.at (left_in c.take_line.new.self) unread (omega (arith, c.loop-test.true))
    (stop-more c.loop.counter 1 c.in-Some.at c.loop.at (left_in c.take_line.new.self) u2.rest unread u2.is wide
    (stand-longer c.loop.counter c.in-Some.at c.loop.at (left_in c.loop.self) now.piece (left_in c.take_line.new.self) now.grows within c.loop.invariant.stands)
    (taken unread there)))

pub loop-preserved : goal.loop-preserved
loop-preserved g c =
    let before = c.loop.invariant.ahead in
    let now = c.in_ok-to.ensures.ahead in
    let taken = rw c.in-Some-2.is at c.in_ok-to.ensures.taken in
    let within : c.in-Some.at ≤ length (left_in c.loop.self) = omega (arith, c.loop.invariant.begins, ap length before.grows, length-append (left_in c.args.self.now) before.piece) in
    record {
      ahead = ahead-then _ _ _ _ _ _ before now;
      begins = c.loop.invariant.begins;
      stands = stand-more c.loop.counter 1 c.in-Some.at c.loop.at c.in-Some-2.to (left_in c.take_line.new.self)
          (stand-longer c.loop.counter c.in-Some.at c.loop.at (left_in c.loop.self) now.piece (left_in c.take_line.new.self) now.grows within c.loop.invariant.stands) taken;
      kept = search rules;
    }
