use Rattle.std.proofs.Common.{ℕ, List, ℤ, Ok, slice_set, arith, to_z-of_z}
use Rattle.std.proofs.lemmas.Result.{err_from_is_err_and}
use Rattle.toml.specs.Data.{Data}
use Rattle.toml.specs.View.{view}
use Rattle.model_file.specs.Places.{item_of}
use Rattle.model_file.specs.Reads.{Judged, value_at, array_of}
use Rattle.model_file.specs.Numbers.{entry, is_from, written, zeros, vector}
use Rattle.model_file.proofs.Refused.{array-refused}
use Rattle.model_file.proofs.numbers.vector.Goals as goal

pub returns-in_err-write_number : goal.returns-in_err-write_number
unfolding vector
returns-in_err-write_number g c =
    let p = err_from_is_err_and c.from_residual-in_err-write_number.result c.from_residual-in_err-write_number.ensures.1 in
    let a = c.args in
    let i = c.loop-i.i in
    let step : ℕ → Data → Judged ℤ = λ i. entry (is_from a.least) (item_of a.path i) in
    let set : ℤ → List ℤ = λ z. slice_set c.loop-i.vector i z in
    let whole : List ℤ → Judged (List ℤ) = λ xs. Ok (written (zeros g.row.R) 0 xs) in
    let left : List ℤ → Judged (List ℤ) = λ xs. Ok (written c.loop-i.vector i xs) in
    let so_far = simp (to_z-of_z c.ranges.least) at c.loop-i.invariant in
    let refused = simp (to_z-of_z c.ranges.least) at (rw c.item.ensures at c.in_err-write_number.ensures) in
    rw (p.1, p.2)
    (array-refused view step set (value_at a.path (view a.table.now)) (array_of a.want a.path) _ c.in_ok-numbers.numbers.now whole left i c.index-numbers-i.result _
    c.in_ok-value_at.ensures c.in_ok-numbers.ensures.value so_far (omega arith) c.index-numbers-i.is refused)
