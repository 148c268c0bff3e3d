use Rattle.std.proofs.Common.{ap, Err, refl}
use Rattle.zonomon_run.specs.Runs.{outside}
use Rattle.zonomon_run.proofs.Checks.{ended, came-to-the-end}
use Rattle.zonomon_run.proofs.files.check_files.Goals as goal

pub returns-in-Err-clause-checks : goal.returns-in-Err-clause-checks
returns-in-Err-clause-checks g c =
    let before = outside (g.F.Shelf.state c.args.shelf.now) (g.O.Sink.state c.args.out.now) (g.E.Sink.state c.args.err.now) in
    let after = outside (g.F.Shelf.state c.check.new.shelf) (g.O.Sink.state c.args.out.now) (g.E.Sink.state c.tell.new.err) in
    let m = c.in-Err.ensures in
    rw (c.tell.ensures.status, c.check_ending.ensures)
    (ended c.args.model.now c.args.telemetry.now c.args.report.now before after c.in-Err.fault m.says_model m.says (λ slot e. m.read slot (ap Err e)) m.asks refl
    (rw c.check_ending.ensures at c.tell.ensures.told) m.in_time m.model_taken)

pub returns-in-Ok-clause-checks : goal.returns-in-Ok-clause-checks
returns-in-Ok-clause-checks g c =
    let before = outside (g.F.Shelf.state c.args.shelf.now) (g.O.Sink.state c.args.out.now) (g.E.Sink.state c.args.err.now) in
    let after = outside (g.F.Shelf.state c.check.new.shelf) (g.O.Sink.state c.put_text.new.out) (g.E.Sink.state c.put_text.new.err) in
    let m = c.in-Ok.ensures in
    came-to-the-end c.args.model.now c.args.telemetry.now c.args.report.now before after c.in-Ok.field-0 c.put_text.result m.says_model m.says m.at_end m.asks
    (rw c.accepted.ensures at c.put_text.ensures.puts) m.model_taken
