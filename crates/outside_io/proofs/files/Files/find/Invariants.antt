use Rattle.std.proofs.Common.{◌≡◌, None, take}
use Rattle.std.specs.Option.{option_copied}
use Rattle.outside_io.specs.Files.{last_named}
use Rattle.outside_io.proofs.files.Files.find.Given as goal

abbrev pub invariant-loop-kept : goal.invariant-loop-kept
invariant-loop-kept l = option_copied l.found ≡ last_named (take l.kept-index l.kept-items) l.name None
