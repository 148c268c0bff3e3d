-- What a set holds.
use Rattle.std.specs.Prelude.{◌≡◌, ℕ, ◌+◌, ◌<◌, ◌≤◌, List, length, ℤ, pos, ◌+ℤ◌, ◌-ℤ◌, ◌*ℤ◌, ◌≤ℤ◌, false}
use Rattle.set_rules.specs.Sum.{magnitude}
use Rattle.set_rules.specs.Columns.{at}
use Rattle.set_rules.specs.Symbols.{Symbols}
use Rattle.set_rules.specs.Zono.{Zono, Inside}
use Rattle.set_rules.specs.Rows.{Row, GivesPoint, MeetsRow}
use Rattle.set_rules.specs.Box.{IsBetween}
use Rattle.set_rules.specs.Strip.{strip_row, misses, Reads}
use Rattle.set_rules.specs.Laws.{MeetsMore, GivesMore}

-- each point within the radii of the centre is inside
abbrev pub HoldsBox : ℕ → List ℤ → List ℤ → Zono → Type 0
HoldsBox n centre radius z = (q : ℕ) (x : List ℤ) → 1 ≤ q
    → ((i : ℕ) → i < n → magnitude (at x i -ℤ pos q *ℤ at centre i) ≤ℤ (pos q *ℤ at radius i)) → Inside n z x q

-- state i of each point inside lies between the ends
abbrev pub HoldsState : ℕ → Zono → ℕ → ℤ × ℤ → Type 0
HoldsState n z i ends = (q : ℕ) (x : List ℤ) → Inside n z x q → IsBetween ends (at x i) q

-- each point inside the old set is inside the new one
abbrev pub HoldsSet : ℕ → Zono → Zono → Type 0
HoldsSet n old new = (q : ℕ) (x : List ℤ) → Inside n old x q → Inside n new x q

-- each choice of symbols that gives a point of which y is a reading within f satisfies the strip row, with a value for its new symbol
abbrev pub StripHolds : ℕ → List ℤ → ℤ → ℤ → ℤ → Zono → Type 0
StripHolds n c d y f z = (q : ℕ) (x : List ℤ) (old : Symbols (length z.columns) q) → 1 ≤ q
    → GivesPoint n (length z.columns) q old z x → Reads n c d q x y f
    → MeetsMore (length z.columns) (length z.columns + 1) q old (strip_row n c d y f z)

-- no reading of a point inside, within f and its slack, misses the interval
abbrev pub HoldsReadings : ℕ → List ℤ → ℤ → ℤ → Zono → ℤ × ℤ → Type 0
HoldsReadings n c d f z ends = (q : ℕ) (x : List ℤ) (y slack : ℤ) → 1 ≤ q → Inside n z x q
    → Reads n c d q x y (f +ℤ slack) → misses ends y slack ≡ false

-- each choice of symbols that gives a point and satisfies the row goes on to one that gives the point in the new set
abbrev pub HoldsRow : ℕ → Row → Zono → Zono → Type 0
HoldsRow n row old new = (q : ℕ) (x : List ℤ) (s : Symbols (length row.coefficients) q)
    → GivesPoint n (length row.coefficients) q s old x → MeetsRow (length row.coefficients) q s row
    → GivesMore n (length row.coefficients) q s new x

-- each choice of symbols, one for each column of the new set, gives the same point in both sets
abbrev pub HoldsMore : ℕ → Zono → Zono → Type 0
HoldsMore n old new = (q : ℕ) (x : List ℤ) (s : Symbols (length new.columns) q)
    → GivesPoint n (length new.columns) q s old x → GivesPoint n (length new.columns) q s new x
