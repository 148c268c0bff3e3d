use Rattle.std.proofs.Common.{ap, Err}
use Rattle.zonomon_run.specs.Runs.{outside}
use Rattle.zonomon_run.proofs.Runs.{ended, came-to-the-end}
use Rattle.zonomon_run.proofs.files.run_files.Goals as goal

pub returns-in-Err-clause-monitors : goal.returns-in-Err-clause-monitors
returns-in-Err-clause-monitors g c =
    let before = outside (g.F.Shelf.state c.args.shelf.now) (g.O.Sink.state c.args.out.now) (g.E.Sink.state c.args.err.now) in
    let after = outside (g.F.Shelf.state c.monitor.new.shelf) (g.O.Sink.state c.monitor.new.out) (g.E.Sink.state c.tell.new.err) in
    let m = c.in-Err.ensures in
    rw (c.tell.ensures.status, c.ending_of.ensures)
    (ended c.args.model.now c.args.telemetry.now before after c.in-Err.fault m.says_model m.says_files m.puts m.nothing (λ slot e. m.read slot (ap Err e)) (λ e. m.write (ap Err e)) m.asks
    (rw c.ending_of.ensures at c.tell.ensures.told) m.in_time m.model_taken (g.met.F.Shelf.attached_was_asked c.monitor.new.shelf 1))

pub returns-in-Ok-clause-monitors : goal.returns-in-Ok-clause-monitors
returns-in-Ok-clause-monitors g c =
    let before = outside (g.F.Shelf.state c.args.shelf.now) (g.O.Sink.state c.args.out.now) (g.E.Sink.state c.args.err.now) in
    let after = outside (g.F.Shelf.state c.monitor.new.shelf) (g.O.Sink.state c.monitor.new.out) (g.E.Sink.state c.args.err.now) in
    let m = c.in-Ok.ensures in
    came-to-the-end c.args.model.now c.args.telemetry.now before after c.in-Ok.field-0 m.says_model m.says_files m.puts m.at_end m.asks m.model_taken
