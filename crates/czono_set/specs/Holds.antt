-- What a constrained set holds: a point together with every row, by one choice of symbols.
use Rattle.std.specs.Prelude.{ℕ, ◌+◌, ◌<◌, ◌≤◌, List, length, ℤ, pos, ◌-ℤ◌, ◌*ℤ◌, ◌≤ℤ◌}
use Rattle.set_rules.specs.Sum.{magnitude}
use Rattle.set_rules.specs.Columns.{at}
use Rattle.set_rules.specs.Zono.{Zono, Inside}
use Rattle.set_rules.specs.Rows.{Row, Czono, InsideAll}
use Rattle.set_rules.specs.Image.{IsStep}
use Rattle.set_rules.specs.Laws.{MeetsMore}

-- each point inside the zonotope is inside the set
abbrev pub HoldsBase : ℕ → Zono → Czono → Type 0
HoldsBase n base z = (q : ℕ) (x : List ℤ) → Inside n base x q → InsideAll n z x q

-- each point within the radii of the centre is inside
abbrev pub HoldsBox : ℕ → List ℤ → List ℤ → Czono → Type 0
HoldsBox n centre radius z = (q : ℕ) (x : List ℤ) → 1 ≤ q
    → ((i : ℕ) → i < n → magnitude (at x i -ℤ pos q *ℤ at centre i) ≤ℤ (pos q *ℤ at radius i)) → InsideAll n z x q

-- each point inside the old set is inside the new one
abbrev pub HoldsAll : ℕ → Czono → Czono → Type 0
HoldsAll n old new = (q : ℕ) (x : List ℤ) → InsideAll n old x q → InsideAll n new x q

-- each step from a point inside the old set ends inside the new one
abbrev pub EnclosesAll : (n w : ℕ) (a shift e : List ℤ) → Czono → Czono → Type 0
EnclosesAll n w a shift e old new = (q : ℕ) (x x' v : List ℤ) → InsideAll n old x q → IsStep n w a shift e q x x' v → InsideAll n new x' q

-- each point inside the old set, whose choice of symbols goes on to one that satisfies the row, is inside the new set
abbrev pub HoldsCut : ℕ → Row → Czono → Czono → Type 0
HoldsCut n row old new = (q : ℕ) (x : List ℤ) (inside : InsideAll n old x q)
    → MeetsMore (length old.base.columns) (length old.base.columns + 1) q inside.symbols row → InsideAll n new x q
