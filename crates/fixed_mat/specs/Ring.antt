-- Rows in a ring of six slots.
use Rattle.std.specs.Prelude.{ℕ, ◌+◌, ◌%◌, ◌<◌, ◌≤◌, List}
use Rattle.set_rules.specs.Columns.{tabulate}
use Rattle.set_rules.specs.Rows.{Row, row_at}
use Rattle.set_rules.specs.Limits.{most_rows}

-- so many rows from slot `first` on, where slot 0 comes after the last
abbrev pub around : (first count : ℕ) → List Row → List Row
around first count slots = tabulate count (λ r. row_at slots ((first + r) % most_rows))

-- the first slot is one of the six, and there are no more rows than slots
pub record IsRing (first count : ℕ) : Type 0 where
  pub starts : first < most_rows
  pub few : count ≤ most_rows
