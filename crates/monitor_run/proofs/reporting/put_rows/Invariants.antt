use Rattle.std.proofs.Common.{◌≡◌, ◌+◌, ◌≤◌, ◌++◌, List, length, false}
use Rattle.plant_model.specs.Plant.{Sample}
use Rattle.telem_csv.specs.Cutter.{current}
use Rattle.telem_csv.specs.Fed.{is_refusal}
use Rattle.input_files.specs.Left.{left_of}
use Rattle.input_files.specs.Stream.{ReadsOn, BothTold, IsEndedAt}
use Rattle.monitor_run.proofs.Turns.{Monitored}
use Rattle.monitor_run.proofs.InTime.{InTime}
use Rattle.monitor_run.proofs.reporting.put_rows.Given as goal

abbrev pub invariant-rows : goal.invariant-rows
invariant-rows g l = record {
  going : is_refusal l.stream.cutter.last ≡ false;
  inputs : length l.head.inputs ≡ l.bank.inputs;
  outputs : length l.head.outputs ≡ l.bank.outputs;
  taken : (taken : List Sample) × Monitored l.head l.fn.bank l.bank l.fn.stream.cutter l.stream.cutter (left_of l.fn.stream) (left_of l.stream)
      ((g.F.Shelf.state l.fn.shelf).slot 1).rest ((g.F.Shelf.state l.shelf).slot 1).rest (g.O.Sink.state l.fn.out) (g.O.Sink.state l.out) taken
      × BothTold ((g.F.Shelf.state l.fn.shelf).slot 1).rest ((g.F.Shelf.state l.shelf).slot 1).rest (λ r r'. InTime l.head l.stream.is_ended l.fn.stream.cutter l.stream.cutter (left_of l.fn.stream ++ r) (left_of l.stream ++ r') taken);
  ended : IsEndedAt 1 l.stream (g.F.Shelf.state l.shelf);
  stays : l.stream.is_ended ≡ false → l.fn.stream.is_ended ≡ false;
  room : l.bank.count + (current l.stream.cutter).room ≤ (current l.fn.stream.cutter).room;
  faults : (g.O.Sink.state l.fn.out).faults ≤ (g.O.Sink.state l.out).faults;
  kept : ReadsOn 1 (g.F.Shelf.state l.fn.shelf) (g.F.Shelf.state l.shelf);
}

abbrev pub decreases-rows : goal.decreases-rows
decreases-rows g l = (current l.stream.cutter).room
