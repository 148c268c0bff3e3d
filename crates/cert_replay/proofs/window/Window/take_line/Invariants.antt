use Rattle.std.proofs.Common.{◌-◌, ◌+◌, ◌≤◌, length}
use Rattle.input_files.specs.Stream.{ReadsOn}
use Rattle.cert_replay.specs.Lines.{most_line}
use Rattle.cert_replay.specs.Window.{left_in, ReadsAhead}
use Rattle.cert_replay.proofs.window.Window.take_line.Given as goal

abbrev pub invariant-loop-at : goal.invariant-loop-at
invariant-loop-at g l = record {
  ahead : ReadsAhead l.fn.self (g.F.Shelf.state l.fn.shelf) l.self (g.F.Shelf.state l.shelf);
  within : l.from ≤ length (left_in l.self);
  kept : ReadsOn 2 (g.F.Shelf.state l.fn.shelf) (g.F.Shelf.state l.shelf);
}

abbrev pub decreases-loop-at : goal.decreases-loop-at
decreases-loop-at g l = most_line + l.from - length (left_in l.self)
