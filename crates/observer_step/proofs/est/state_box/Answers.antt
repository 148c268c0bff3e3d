use Rattle.std.proofs.Common.{◌≡◌, ◌≤◌, ◌*◌, ◌<◌, ℕ, ℤ, List, ◌+ℤ◌, ◌≤ℤ◌, length, pos, replicate, sym, ap, ◌∙◌, arith, subst}
use Rattle.std.proofs.lemmas.Int.{ints}
use Rattle.std.proofs.lemmas.List.{get_or-replicate}
use Rattle.set_rules.specs.Sum.{magnitude}
use Rattle.set_rules.specs.Columns.{at}
use Rattle.set_rules.specs.Zono.{Zono, range}
use Rattle.observer_step.proofs.Boxes.{box-fits, box-room}
use Rattle.observer_step.proofs.est.state_box.Goals as goal

-- a box around 0 reaches as far as its radii
around-zero : (n : ℕ) (centre : List ℤ) → centre ≡ replicate (n * 1) (pos 0) → (i : ℕ) (r : ℤ) → i < n → r ≤ℤ pos range → (magnitude (at centre i) +ℤ r) ≤ℤ pos range
around-zero n centre is i r h small =
    let none = ap magnitude (ap (λ xs. at xs i) is ∙ get_or-replicate (n * 1) i (pos 0) (pos 0) (omega arith)) in
    omega (arith, ints)

pub unwrap-requires : goal.unwrap-requires
unwrap-requires g c =
    let e = c.states.ensures.states in
    let p = c.args.plant.now in
    let shape = c.states.ensures.shape in
    let limits = c.states.ensures.limits in
    box-fits g.row.N c.zero.result p.state_max (λ i l. (limits.bound_size i (pos 0) (let long = shape.bound_size in omega arith)).0)
    (λ i l. around-zero g.row.N c.zero.result c.zero.ensures i (at p.state_max i) l (limits.bound_size i (pos 0) (let long = shape.bound_size in omega arith)).1)
    c.of_box.result (rw c.state_max.ensures at c.of_box.ensures.refused)

pub returns-clause-room : goal.returns-clause-room
returns-clause-room g c =
    let e = c.states.ensures.states in
    let few = c.states.ensures.limits.few_states in
    subst (λ (z : Zono). length z.columns ≤ 64) (sym (rw c.unwrap.ensures at c.of_box.ensures.value)) (box-room g.row.N c.zero.result c.state_max.result.now (omega arith))
