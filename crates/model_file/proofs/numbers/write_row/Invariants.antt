use Rattle.std.proofs.Common.{◌≡◌, ℕ, ℤ, ◌+◌, ◌*◌, drop, map, Ok}
use Rattle.toml.specs.Data.{Data}
use Rattle.toml.specs.View.{view}
use Rattle.dec_text.specs.Steps.{◌>>=◌, each_from}
use Rattle.model_file.specs.Places.{entry_of}
use Rattle.model_file.specs.Reads.{Judged}
use Rattle.model_file.specs.Numbers.{is_within, entry, written}
use Rattle.model_file.proofs.numbers.write_row.Given as goal

abbrev pub invariant-loop-c : goal.invariant-loop-c
invariant-loop-c g l =
    let step : ℕ → Data → Judged ℤ = λ c. entry (is_within g.L.Limit.LIM) (entry_of l.path c) in
    (each_from 0 step (map view l.entries) >>= λ xs. Ok (written l.fn.matrix (l.r * g.row.C) xs))
    ≡ (each_from l.c step (map view (drop l.c l.entries)) >>= λ xs. Ok (written l.matrix (l.r * g.row.C + l.c) xs))
