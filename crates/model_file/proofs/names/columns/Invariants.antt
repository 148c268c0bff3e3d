use Rattle.std.proofs.Common.{◌≡◌, ◌++◌, length, drop, map, Ok}
use Rattle.toml.specs.View.{view}
use Rattle.dec_text.specs.Steps.{◌>>=◌}
use Rattle.model_file.specs.Names.{columns_from}
use Rattle.model_file.proofs.names.columns.Given as goal

abbrev pub invariant-loop-i : goal.invariant-loop-i
invariant-loop-i l = record {
  so_far : columns_from l.path 0 l.earlier (map view l.array) ≡ (columns_from l.path l.i (l.earlier ++ l.names) (map view (drop l.i l.array)) >>= λ ts. Ok (l.names ++ ts));
  size : length l.names ≡ l.i;
}
