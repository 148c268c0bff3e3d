use Rattle.std.proofs.Common.{ℕ, ◌<◌, ◌≤◌, unsigned_abs, arith}
use Rattle.set_rules.specs.Columns.{column_entry}
use Rattle.set_rules.proofs.Greatest.{greatest_entry-at}
use Rattle.row_drop.proofs.gains.gain.Goals as goal

pub gain_within-requires : goal.gain_within-requires
gain_within-requires g c =
    let columns = c.args.cols.now in
    let within : (i t : ℕ) → i < g.row.N → unsigned_abs (column_entry columns i t) ≤ c.greatest_in_cols.result =
    λ i t _. rw c.greatest_in_cols.ensures (greatest_entry-at columns i t) in
    (omega arith, (omega arith, (c.requires, within)))
