use Rattle.std.proofs.Common.{◌≡◌, ◌≤◌, ◌+◌, ◌-◌, true, Some, vec_len}
use Rattle.std.specs.Io.KnownBytes.{Consumes}
use Rattle.outside_io.specs.Shelf.{KeepsOthers}
use Rattle.input_files.proofs.whole.read_whole.Given as goal

abbrev pub invariant-loop-piece : goal.invariant-loop-piece
invariant-loop-piece g l = record {
  taken : Consumes ((g.F.Shelf.state l.fn.shelf).file l.name) ((g.F.Shelf.state l.shelf).slot l.slot).rest l.bytes.items;
  few : vec_len l.bytes ≤ l.limit + 4096;
  attached : ((g.F.Shelf.state l.shelf).slot l.slot).attached ≡ true;
  asked : ((g.F.Shelf.state l.shelf).slot l.slot).asked ≡ Some l.name;
  others : KeepsOthers l.slot (g.F.Shelf.state l.fn.shelf) (g.F.Shelf.state l.shelf);
  faults : ((g.F.Shelf.state l.fn.shelf).slot l.slot).faults ≤ ((g.F.Shelf.state l.shelf).slot l.slot).faults;
}

abbrev pub decreases-loop-piece : goal.decreases-loop-piece
decreases-loop-piece g l = (l.limit + 1) - vec_len l.bytes
