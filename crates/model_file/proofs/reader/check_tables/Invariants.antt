use Rattle.std.proofs.Common.{◌≡◌, ◌++◌, drop, take, map, Ok}
use Rattle.toml.specs.View.{view}
use Rattle.dec_text.specs.Steps.{◌>>=◌}
use Rattle.model_file.specs.ModelFile.{are_tables}
use Rattle.model_file.proofs.reader.check_tables.Given as goal

abbrev pub invariant-loop-i : goal.invariant-loop-i
invariant-loop-i l =
    are_tables 0 (map view l.array) ≡ (are_tables l.i (map view (drop l.i l.array)) >>= λ ts. Ok (map view (take l.i l.array) ++ ts))
