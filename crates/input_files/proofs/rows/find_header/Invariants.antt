use Rattle.std.proofs.Common.{◌≡◌, ◌≤◌, false}
use Rattle.telem_csv.specs.Cutter.{current, telemetry_owed}
use Rattle.telem_csv.specs.Fed.{is_refusal}
use Rattle.input_files.specs.Stream.{OnUnread, ReadsOn, IsEndedAt}
use Rattle.input_files.proofs.Ended.{PassesHeader}
use Rattle.input_files.proofs.rows.find_header.Given as goal

abbrev pub invariant-lines : goal.invariant-lines
invariant-lines g l = record {
  going : is_refusal l.stream.cutter.last ≡ false;
  same : OnUnread 1 l.fn.stream (g.F.Shelf.state l.fn.shelf) l.stream (g.F.Shelf.state l.shelf)
      (λ u u'. telemetry_owed l.inputs l.outputs l.fn.stream.cutter u ≡ telemetry_owed l.inputs l.outputs l.stream.cutter u');
  ends : OnUnread 1 l.fn.stream (g.F.Shelf.state l.fn.shelf) l.stream (g.F.Shelf.state l.shelf) (PassesHeader l.inputs l.outputs l.stream.is_ended l.fn.stream.cutter l.stream.cutter);
  ended : IsEndedAt 1 l.stream (g.F.Shelf.state l.shelf);
  stays : l.stream.is_ended ≡ false → l.fn.stream.is_ended ≡ false;
  room : (current l.stream.cutter).room ≤ (current l.fn.stream.cutter).room;
  kept : ReadsOn 1 (g.F.Shelf.state l.fn.shelf) (g.F.Shelf.state l.shelf);
}

abbrev pub decreases-lines : goal.decreases-lines
decreases-lines g l = (current l.stream.cutter).room
