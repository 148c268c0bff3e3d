use Rattle.std.proofs.Common.{◌≡◌, [], ◌++◌, drop, map, Ok}
use Rattle.toml.specs.View.{view}
use Rattle.dec_text.specs.Steps.{◌>>=◌}
use Rattle.model_file.specs.Models.{models_from}
use Rattle.model_file.specs.Seen.{named, name_seen}
use Rattle.model_file.proofs.models.models.Given as goal

abbrev pub invariant-loop-i : goal.invariant-loop-i
invariant-loop-i l =
    models_from l.inputs l.outputs [] 0 (map view l.tables)
    ≡ (models_from l.inputs l.outputs (map name_seen l.models.items) l.i (map view (drop l.i l.tables)) >>= λ ms. Ok (map named l.models.items ++ ms))
