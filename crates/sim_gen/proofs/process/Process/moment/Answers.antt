use Rattle.std.proofs.Common.{◌≡◌, ℤ, List, [], ◌∷◌, arith, ap, ◌∙◌, ◌*ℤ◌, pos, SFits, to_z-of_z}
use Rattle.std.proofs.lemmas.Int.{ints}
use mir.Syntax.{w128}
use Rattle.sim_gen.specs.Process.{Process, odd_part}
use Rattle.sim_gen.proofs.process.Process.moment.Goals as goal

pub returns-clause-states : goal.returns-clause-states
returns-clause-states c =
    let first : SFits w128 c.self.inside.first = omega (arith, ints) in
    let second : SFits w128 c.self.inside.second = omega (arith, ints) in
    let one : SFits w128 (pos 2 *ℤ c.self.inside.first) = omega (arith, ints) in
    let two : SFits w128 (pos 2 *ℤ c.self.inside.second) = omega (arith, ints) in
    simp to_z-of_z (ap (λ (p : Process). (pos 2 *ℤ p.first) ∷ (pos 2 *ℤ p.second) ∷ []) c.self.view_is)

three : (a a' b b' d : ℤ) → a ≡ a' → b ≡ b' → let P : List ℤ = a ∷ b ∷ d ∷ [] in P ≡ a' ∷ b' ∷ d ∷ []
three a a' b b' d e f = rw (e, f)

pub returns-clause-dists : goal.returns-clause-dists
returns-clause-dists c =
    let first : SFits w128 c.self.inside.first = omega (arith, ints) in
    let second : SFits w128 c.self.inside.second = omega (arith, ints) in
    let push : SFits w128 c.args.draw.now.push = omega (arith, ints) in
    let one : SFits w128 c.odd_part.result = record { sfits = c.odd_part.type_inv } in
    let two : SFits w128 c.odd_part-2.result = record { sfits = c.odd_part-2.type_inv } in
    let doubled : SFits w128 (pos 2 *ℤ c.args.draw.now.push) = omega (arith, ints) in
    let x = simp to_z-of_z at c.odd_part.ensures.value in
    let y = simp to_z-of_z at c.odd_part-2.ensures.value in
    simp to_z-of_z (three c.odd_part.result (odd_part c.args.self.now.first) c.odd_part-2.result (odd_part c.args.self.now.second) (pos 2 *ℤ c.args.draw.now.push)
    (x ∙ ap (λ (p : Process). odd_part p.first) c.self.view_is) (y ∙ ap (λ (p : Process). odd_part p.second) c.self.view_is))
