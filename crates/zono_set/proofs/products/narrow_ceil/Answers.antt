use Rattle.std.proofs.Common.{◌≡◌, ℕ, ◌+◌, ◌/◌, pos, ◌∙◌, arith}
use Rattle.std.proofs.lemmas.Int.{ints, to_z_pos}
use mir.Syntax.{w64}
use Rattle.set_rules.specs.Round.{ceil_s}
use Rattle.set_rules.proofs.Rounds.{ceil_s-least, ceil_s-within}
use Rattle.zono_set.proofs.products.narrow_ceil.Goals as goal

-- the quotient is the least cover
ceil_is : (p : ℕ) → pos ((p + 999_999_999) / 1_000_000_000) ≡ ceil_s (pos p)
ceil_is p =
    let covers = (ceil_s-least (pos p)).covers in
    let within = ceil_s-within (pos p) in
    omega (arith, ints)

pub returns-clause-value : goal.returns-clause-value
returns-clause-value c = to_z_pos w64 ((c.args.left + 999_999_999) / 1_000_000_000) (let h = c.requires in omega (arith, h)) ∙ ceil_is c.args.left
