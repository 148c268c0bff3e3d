use Rattle.std.proofs.Common.{◌≡◌, ℕ, ℤ, ◌*◌, drop, map, List, Ok}
use Rattle.toml.specs.Data.{Data}
use Rattle.toml.specs.View.{view}
use Rattle.dec_text.specs.Steps.{◌>>=◌, each_from}
use Rattle.model_file.specs.Places.{item_of}
use Rattle.model_file.specs.Reads.{Judged}
use Rattle.model_file.specs.Numbers.{row_of, rows_written, zeros}
use Rattle.model_file.proofs.numbers.matrix.Given as goal

abbrev pub invariant-loop-r : goal.invariant-loop-r
invariant-loop-r g l =
    let step : ℕ → Data → Judged (List ℤ) = λ r. row_of g.L.Limit.LIM (item_of l.path r) l.width in
    (each_from 0 step (map view l.rows) >>= λ rows. Ok (rows_written g.row.C (zeros (g.row.R * g.row.C)) 0 rows))
    ≡ (each_from l.r step (map view (drop l.r l.rows)) >>= λ rows. Ok (rows_written g.row.C l.matrix l.r rows))
