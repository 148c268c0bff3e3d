use Rattle.std.proofs.Common.{◌≡◌, ◌+◌, ◌≤◌, ◌++◌, List, length, false}
use Rattle.plant_model.specs.Plant.{Sample}
use Rattle.telem_csv.specs.Cutter.{current}
use Rattle.telem_csv.specs.Fed.{is_refusal}
use Rattle.input_files.specs.Left.{left_of}
use Rattle.input_files.specs.Stream.{BothTold, IsEndedAt}
use Rattle.monitor_run.proofs.InTime.{InTime}
use Rattle.cert_replay.specs.Checked.{IsReady}
use Rattle.cert_replay.specs.Ends.{ReadsBoth}
use Rattle.cert_replay.proofs.Turned.{Turned}
use Rattle.cert_replay.proofs.checking.check_rows.Given as goal

abbrev pub invariant-rows : goal.invariant-rows
invariant-rows g l = record {
  going : is_refusal l.stream.cutter.last ≡ false;
  ended : IsEndedAt 1 l.stream (g.F.Shelf.state l.shelf);
  inputs : length l.head.inputs ≡ l.replay.bank.inputs;
  outputs : length l.head.outputs ≡ l.replay.bank.outputs;
  ready : IsReady l.replay;
  counts : l.replay.counts ≡ l.fn.replay.counts;
  taken : (taken : List Sample) × Turned l.head l.fn.replay l.replay (g.F.Shelf.state l.fn.shelf) (g.F.Shelf.state l.shelf) l.fn.stream.cutter l.stream.cutter (left_of l.fn.stream) (left_of l.stream)
      ((g.F.Shelf.state l.fn.shelf).slot 1).rest ((g.F.Shelf.state l.shelf).slot 1).rest taken
      × BothTold ((g.F.Shelf.state l.fn.shelf).slot 1).rest ((g.F.Shelf.state l.shelf).slot 1).rest (λ r r'. InTime l.head l.stream.is_ended l.fn.stream.cutter l.stream.cutter (left_of l.fn.stream ++ r) (left_of l.stream ++ r') taken);
  room : l.replay.bank.count + (current l.stream.cutter).room ≤ (current l.fn.stream.cutter).room;
  both : ReadsBoth (g.F.Shelf.state l.fn.shelf) (g.F.Shelf.state l.shelf);
}

abbrev pub decreases-rows : goal.decreases-rows
decreases-rows g l = (current l.stream.cutter).room
