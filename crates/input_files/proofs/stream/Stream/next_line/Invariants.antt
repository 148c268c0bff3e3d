use Rattle.std.proofs.Common.{◌≡◌, ◌-◌, length, false}
use Rattle.telem_csv.specs.Cutter.{current}
use Rattle.telem_csv.specs.Fed.{is_refusal}
use Rattle.input_files.specs.Stream.{OnUnread, TellsSame, ReadsOn, IsEndedAt}
use Rattle.input_files.specs.Ended.{GrowsLine}
use Rattle.input_files.proofs.stream.Stream.next_line.Given as goal

abbrev pub invariant-loop-self : goal.invariant-loop-self
invariant-loop-self g l = record {
  going : is_refusal l.self.cutter.last ≡ false;
  same : OnUnread l.slot l.fn.self (g.F.Shelf.state l.fn.shelf) l.self (g.F.Shelf.state l.shelf) (TellsSame l.fn.self.cutter l.self.cutter);
  grown : OnUnread l.slot l.fn.self (g.F.Shelf.state l.fn.shelf) l.self (g.F.Shelf.state l.shelf) (GrowsLine l.fn.self.cutter l.self.cutter);
  ended : IsEndedAt l.slot l.self (g.F.Shelf.state l.shelf);
  stays : l.self.is_ended ≡ false → l.fn.self.is_ended ≡ false;
  room : (current l.self.cutter).room ≡ (current l.fn.self.cutter).room;
  kept : ReadsOn l.slot (g.F.Shelf.state l.fn.shelf) (g.F.Shelf.state l.shelf);
}

abbrev pub decreases-loop-self : goal.decreases-loop-self
decreases-loop-self g l = 4097 - length (current l.self.cutter).bytes
