-- A box within the range is not refused, and has few columns.
use Rattle.std.proofs.Common.{ℕ, ◌<◌, ◌≤◌, List, length, Result, Ok, Err, IfErr, ℤ, pos, ◌+ℤ◌, ◌≤ℤ◌, ◌∙◌, arith, rules}
use Rattle.std.proofs.lemmas.Int.{ints}
use Rattle.std.specs.Result.{IsOk}
use Rattle.set_rules.specs.Sum.{magnitude}
use Rattle.set_rules.specs.Symbols.{diagonal}
use Rattle.set_rules.specs.Columns.{at, tabulate}
use Rattle.set_rules.specs.Zono.{Zono, range}
use Rattle.set_rules.specs.Box.{box}
use Rattle.set_rules.specs.Image.{IsFirstPast}
use Rattle.set_rules.proofs.ImageSets.{length-tabulate}
use Rattle.zono_set.proofs.Reaches.{reach-box}
use Rattle.zono_set.specs.declared.zono.PastRange.{PastRange}

pub box-fits : (n : ℕ) (centre radius : List ℤ) → ((i : ℕ) → i < n → pos 0 ≤ℤ at radius i) → ((i : ℕ) → i < n → (magnitude (at centre i) +ℤ at radius i) ≤ℤ pos range)
    → (r : Result Zono PastRange) → IfErr r (λ e. (e.i < n) × IsFirstPast (box n centre radius) e.i e.mag) → IsOk r
box-fits n centre radius natural within (Ok z) h = search rules
box-fits n centre radius natural within (Err e) h =
    let reached = h.1.is ∙ reach-box n centre radius e.i h.0 in
    let past = h.1.past in
    let small = within e.i h.0 in
    let low = natural e.i h.0 in
    absurd (omega (arith, ints))

pub box-room : (n : ℕ) (centre radius : List ℤ) → n ≤ 8 → length (box n centre radius).columns ≤ 64
box-room n centre radius few = let long = length-tabulate n (λ j. tabulate n (λ i. diagonal (at radius) i j)) in omega arith
