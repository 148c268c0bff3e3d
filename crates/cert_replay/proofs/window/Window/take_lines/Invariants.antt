use Rattle.std.proofs.Common.{◌≤◌, length}
use Rattle.input_files.specs.Stream.{ReadsOn}
use Rattle.cert_replay.specs.Window.{left_in, ReadsAhead, LinesStand}
use Rattle.cert_replay.proofs.window.Window.take_lines.Given as goal

abbrev pub invariant-loop : goal.invariant-loop
invariant-loop g l = record {
  ahead : ReadsAhead l.fn.self (g.F.Shelf.state l.fn.shelf) l.self (g.F.Shelf.state l.shelf);
  begins : l.initial.at ≤ length (left_in l.fn.self);
  stands : LinesStand l.counter l.initial.at l.at (left_in l.self);
  kept : ReadsOn 2 (g.F.Shelf.state l.fn.shelf) (g.F.Shelf.state l.shelf);
}
