use Rattle.std.proofs.Common.{◌≡◌, ◌-◌, ◌≤◌, false, drop, take, length, ap, ◌∙◌, arith, rules, length-append}
use Rattle.std.specs.List.{list_any}
use Rattle.report_text.specs.Laws.{is_feed}
use Rattle.cert_replay.specs.Lines.{most_line}
use Rattle.cert_replay.specs.Window.{left_in}
use Rattle.cert_replay.proofs.Taken.{line-stands, stops-far, stops-ended, ahead-then}
use Rattle.cert_replay.proofs.window.Window.take_line.Goals as goal

pub returns-then-left-from-ge-MOST_LINE-clause-taken : goal.returns-then-left-from-ge-MOST_LINE-clause-taken
returns-then-left-from-ge-MOST_LINE-clause-taken g c = λ unread u.
    let none = rw c.left.ensures at c.in_default.ensures.none in
    let same : c.left-in-loop-at.result.now ≡ left_in c.loop-at.self = c.left-in-loop-at.ensures in
    let far : most_line ≤ length (left_in c.loop-at.self) - c.args.from = omega (arith, c.if-left-from-ge-MOST_LINE.true, ap length same) in
    stops-far c.loop-at.self (g.F.Shelf.state c.loop-at.shelf) c.args.from c.loop-at.invariant.within none far unread (c.loop-at.invariant.ahead.same unread u)

pub returns-then-not-branch-clause-ahead : goal.returns-then-not-branch-clause-ahead
returns-then-not-branch-clause-ahead g c = ahead-then _ _ _ _ _ _ c.loop-at.invariant.ahead c.in_ok-read_more.ensures.ahead

pub returns-then-not-branch-clause-taken : goal.returns-then-not-branch-clause-taken
returns-then-not-branch-clause-taken g c = λ unread u.
    let same = c.in_ok-read_more.ensures.none c.if-not-branch.true in
    let none = rw c.left.ensures at c.in_default.ensures.none in
    let still : list_any is_feed (take most_line (drop c.args.from (left_in c.read_more.new.self))) ≡ false = ap (λ bs. list_any is_feed (take most_line (drop c.args.from bs))) same ∙ none in
    stops-ended c.read_more.new.self (g.F.Shelf.state c.read_more.new.shelf) c.args.from (omega (arith, ap length same, c.loop-at.invariant.within)) still
    (c.in_ok-read_more.ensures.at_end c.if-not-branch.true) unread (c.in_ok-read_more.ensures.ahead.same unread (c.loop-at.invariant.ahead.same unread u))

pub loop-at-preserved : goal.loop-at-preserved
loop-at-preserved g c =
    let ahead = c.in_ok-read_more.ensures.ahead in
    record {
      ahead = ahead-then _ _ _ _ _ _ c.loop-at.invariant.ahead ahead;
      within = omega (arith, c.loop-at.invariant.within, ap length ahead.grows, length-append (left_in c.loop-at.self) ahead.piece);
      kept = search rules;
    }

pub returns-in-Some-clause-taken : goal.returns-in-Some-clause-taken
returns-in-Some-clause-taken g c = line-stands c.args.from c.in-Some.at _ c.loop-at.invariant.within (rw c.left.ensures at c.in-Some.ensures.some)
