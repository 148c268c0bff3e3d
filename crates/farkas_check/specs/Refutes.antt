-- What it means that rows are refuted.
use Rattle.std.specs.Prelude.{ℕ, ◌≤◌, List}
use Rattle.set_rules.specs.Symbols.{Symbols}
use Rattle.set_rules.specs.Rows.{Row, MeetsAll}

-- no choice of symbols satisfies every row
abbrev pub Refuted : ℕ → List Row → Type 0
Refuted width rows = (q : ℕ) (s : Symbols width q) → 1 ≤ q → ¬ (MeetsAll width q s rows)
