use Rattle.std.proofs.Common.{◌≡◌, ℕ, ℤ, drop, map, Ok}
use Rattle.toml.specs.Data.{Data}
use Rattle.toml.specs.View.{view}
use Rattle.dec_text.specs.Steps.{◌>>=◌, each_from}
use Rattle.model_file.specs.Places.{item_of}
use Rattle.model_file.specs.Reads.{Judged}
use Rattle.model_file.specs.Numbers.{entry, is_radius, written, zeros}
use Rattle.model_file.proofs.numbers.radii.Given as goal

abbrev pub invariant-loop-i : goal.invariant-loop-i
invariant-loop-i g l =
    let step : ℕ → Data → Judged ℤ = λ i. entry (is_radius l.centre i) (item_of l.path i) in
    (each_from 0 step (map view l.numbers) >>= λ xs. Ok (written (zeros g.row.R) 0 xs))
    ≡ (each_from l.i step (map view (drop l.i l.numbers)) >>= λ xs. Ok (written l.radii l.i xs))
