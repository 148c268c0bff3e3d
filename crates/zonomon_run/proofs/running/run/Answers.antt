use Rattle.std.proofs.Common.{inl}
use Rattle.zonomon_run.specs.Words.{texts}
use Rattle.zonomon_run.specs.Runs.{outside, TrueHulls, TrueExclusions, TrueMisses}
use Rattle.zonomon_run.specs.Demo.{TrueStays}
use Rattle.zonomon_run.proofs.Demos.{on-demo, true-stays}
use Rattle.zonomon_run.specs.Checks.{CheckedHulls, CheckedExclusions, CheckedMisses}
use Rattle.zonomon_run.proofs.Checks.{on-check, if-accepted, own-kept, checked-hulls, checked-exclusions, checked-misses}
use Rattle.zonomon_run.proofs.Runs.{on-run, on-files, true-hulls, true-exclusions, true-misses}
use Rattle.zonomon_run.proofs.running.run.Goals as goal

pub returns-in-Monitor-clause-monitors : goal.returns-in-Monitor-clause-monitors
returns-in-Monitor-clause-monitors g c = on-run (texts c.args.words.now) _ c.in-Monitor.model.now c.in-Monitor.telemetry.now c.in-Monitor.ensures c.run_files.ensures.monitors

pub returns-in-Monitor-clause-accepted : goal.returns-in-Monitor-clause-accepted
returns-in-Monitor-clause-accepted g c = λ zero. on-run (texts c.args.words.now) _ c.in-Monitor.model.now c.in-Monitor.telemetry.now c.in-Monitor.ensures (c.run_files.ensures.monitors.accepted zero)

pub returns-in-Monitor-clause-report : goal.returns-in-Monitor-clause-report
returns-in-Monitor-clause-report g c = λ put. on-run (texts c.args.words.now) _ c.in-Monitor.model.now c.in-Monitor.telemetry.now c.in-Monitor.ensures (c.run_files.ensures.monitors.report put)

pub returns-in-Monitor-clause-front : goal.returns-in-Monitor-clause-front
returns-in-Monitor-clause-front g c = on-run (texts c.args.words.now) _ c.in-Monitor.model.now c.in-Monitor.telemetry.now c.in-Monitor.ensures c.run_files.ensures.monitors.front

pub returns-in-Monitor-clause-hull : goal.returns-in-Monitor-clause-hull
returns-in-Monitor-clause-hull g c = on-files (texts c.args.words.now) (g.F.Shelf.state c.args.shelf.now) TrueHulls true-hulls

pub returns-in-Monitor-clause-exclusion : goal.returns-in-Monitor-clause-exclusion
returns-in-Monitor-clause-exclusion g c = on-files (texts c.args.words.now) (g.F.Shelf.state c.args.shelf.now) TrueExclusions true-exclusions

pub returns-in-Monitor-clause-miss : goal.returns-in-Monitor-clause-miss
returns-in-Monitor-clause-miss g c = on-files (texts c.args.words.now) (g.F.Shelf.state c.args.shelf.now) TrueMisses true-misses

pub returns-in-Help-clause-helps : goal.returns-in-Help-clause-helps
returns-in-Help-clause-helps g c = λ _. rw c.usage.ensures at c.put_text.ensures.puts

pub returns-in-Check-clause-checks : goal.returns-in-Check-clause-checks
returns-in-Check-clause-checks g c =
    on-check (texts c.args.words.now) _ c.in-Check.model.now c.in-Check.telemetry.now c.in-Check.report.now c.in-Check.ensures c.check_files.ensures.checks

pub returns-in-Check-clause-checked_hull : goal.returns-in-Check-clause-checked_hull
returns-in-Check-clause-checked_hull g c = λ zero.
    on-check (texts c.args.words.now) _ c.in-Check.model.now c.in-Check.telemetry.now c.in-Check.report.now c.in-Check.ensures
    (if-accepted (g.F.Shelf.state c.args.shelf.now) c.in-Check.model.now c.in-Check.telemetry.now c.in-Check.report.now CheckedHulls checked-hulls
    (c.check_files.ensures.checks.accepted (inl zero)))

pub returns-in-Check-clause-checked_exclusion : goal.returns-in-Check-clause-checked_exclusion
returns-in-Check-clause-checked_exclusion g c = λ zero.
    on-check (texts c.args.words.now) _ c.in-Check.model.now c.in-Check.telemetry.now c.in-Check.report.now c.in-Check.ensures
    (if-accepted (g.F.Shelf.state c.args.shelf.now) c.in-Check.model.now c.in-Check.telemetry.now c.in-Check.report.now CheckedExclusions checked-exclusions
    (c.check_files.ensures.checks.accepted (inl zero)))

pub returns-in-Check-clause-checked_miss : goal.returns-in-Check-clause-checked_miss
returns-in-Check-clause-checked_miss g c = λ zero.
    on-check (texts c.args.words.now) _ c.in-Check.model.now c.in-Check.telemetry.now c.in-Check.report.now c.in-Check.ensures
    (if-accepted (g.F.Shelf.state c.args.shelf.now) c.in-Check.model.now c.in-Check.telemetry.now c.in-Check.report.now CheckedMisses checked-misses
    (c.check_files.ensures.checks.accepted (inl zero)))

pub returns-in-Check-clause-own_report : goal.returns-in-Check-clause-own_report
returns-in-Check-clause-own_report g c =
    let before = outside (g.F.Shelf.state c.args.shelf.now) (g.O.Sink.state c.args.out.now) (g.E.Sink.state c.args.err.now) in
    let after = outside (g.F.Shelf.state c.check_files.new.shelf) (g.O.Sink.state c.check_files.new.out) (g.E.Sink.state c.check_files.new.err) in
    on-check (texts c.args.words.now) _ c.in-Check.model.now c.in-Check.telemetry.now c.in-Check.report.now c.in-Check.ensures
    (own-kept c.in-Check.model.now c.in-Check.telemetry.now c.in-Check.report.now before c.check_files.result after c.check_files.ensures.checks)

pub returns-in-Demonstrate-clause-true_model : goal.returns-in-Demonstrate-clause-true_model
returns-in-Demonstrate-clause-true_model g c =
    let demo = c.in-Demonstrate.demo in
    on-demo (texts c.args.words.now) TrueStays demo.seed demo.samples c.in-Demonstrate.ensures (λ lines is. true-stays demo.seed demo.samples demo.some demo.few lines is)
