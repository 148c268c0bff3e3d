use Rattle.std.proofs.Common.{◌≡◌, ◌+◌}
use Rattle.std.proofs.lemmas.Result.{err_from_is_err_and}
use Rattle.cert_replay.proofs.Heads.{end-other, end-stands, end-behind}
use Rattle.cert_replay.proofs.checking.check_end.Goals as goal

pub returns-clause-stands : goal.returns-clause-stands
returns-clause-stands g c = λ unread u.
    end-stands c.args.samples c.requires.few unread c.args.window.now c.take_lines.new.self (g.F.Shelf.state c.args.shelf.now) (g.F.Shelf.state c.take_lines.new.shelf) u c.in_ok-take_lines.ensures.ahead
    c.compare_end.new.self c.has_more.new.self (g.F.Shelf.state c.has_more.new.shelf) c.in_ok-compare_end.ensures.same c.in_ok-has_more.ensures.ahead
    (c.in_ok-has_more.ensures.none c.if-branch.false) (c.in_ok-has_more.ensures.at_end c.if-branch.false)

pub returns-then-branch-clause-departs : goal.returns-then-branch-clause-departs
returns-then-branch-clause-departs g c = λ line e unread u.
    let number : line ≡ c.has_more.new.self.lines + 1 = cc in
    end-behind c.args.samples c.requires.few unread c.args.window.now c.take_lines.new.self (g.F.Shelf.state c.args.shelf.now) (g.F.Shelf.state c.take_lines.new.shelf) u c.in_ok-take_lines.ensures.ahead
    c.compare_end.new.self c.has_more.new.self (g.F.Shelf.state c.has_more.new.shelf) c.in_ok-compare_end.ensures.same c.in_ok-has_more.ensures.ahead
    (c.in_ok-has_more.ensures.more c.if-branch.true) line number

pub returns-in_err-compare_end-clause-departs : goal.returns-in_err-compare_end-clause-departs
returns-in_err-compare_end-clause-departs g c =
    let p = err_from_is_err_and c.from_residual-in_err-compare_end.result c.from_residual-in_err-compare_end.ensures.1 in
    rw (p.1, p.2) (λ line e unread u.
    end-other c.args.samples c.requires.few unread c.args.window.now c.take_lines.new.self (g.F.Shelf.state c.args.shelf.now) (g.F.Shelf.state c.take_lines.new.shelf) u c.in_ok-take_lines.ensures.ahead
    c.in_ok-take_lines.field-0 c.in_ok-take_lines.ensures.taken line (c.in_err-compare_end.ensures.departs line e))
