use Rattle.std.proofs.Common.{◌≡◌, ◌≤◌, ◌+ℤ◌, ◌*ℤ◌, unsigned_abs, to_z, of_z, ap, ◌∙◌, arith}
use Rattle.std.proofs.lemmas.Int.{ints}
use mir.Syntax.{w128}
use Rattle.set_rules.specs.Sum.{total}
use Rattle.set_rules.specs.Columns.{at, entry}
use Rattle.fixed_mat.proofs.Bits.{sum_back}
use Rattle.zono_set.proofs.Steps.{nearest_is, residue_is, nearest_small}
use Rattle.zono_set.proofs.products.rounded_centre.Given.{Over}
use Rattle.zono_set.proofs.products.rounded_centre.Goals as goal
use Rattle.zono_set.proofs.products.rounded_centre.Goals.{After-row_times_vector}

argument : (g : Over) (c : After-row_times_vector g) → to_z w128 (of_z w128 (to_z w128 (of_z w128 c.row_times_vector.result) +ℤ to_z w128 (of_z w128 c.args.shift))) ≡ total g.row.N (λ l. entry g.row.N c.args.a.now c.args.r l *ℤ at c.args.centre.now l) +ℤ c.args.shift
argument g c =
    let small = c.requires.small in
    sum_back c.row_times_vector.result c.args.shift (let h = c.row_times_vector.ensures.within in omega arith) (let h = c.requires.shift in omega arith)
    ∙ ap (λ z. z +ℤ c.args.shift) c.row_times_vector.ensures.value

exact_small : (g : Over) (c : After-row_times_vector g) → unsigned_abs (total g.row.N (λ l. entry g.row.N c.args.a.now c.args.r l *ℤ at c.args.centre.now l) +ℤ c.args.shift) ≤ 8_010_000_000_000_000_000_000_000_000_000
exact_small g c =
    let small = c.requires.small in
    let one = ap unsigned_abs c.row_times_vector.ensures.value in
    let h = c.row_times_vector.ensures.within in
    let k = c.requires.shift in
    omega (arith, ints)

pub rounded-requires : goal.rounded-requires
rounded-requires g c =
    let is = argument g c in
    let small = exact_small g c in
    rw is (omega arith)

pub returns-clause-nearest : goal.returns-clause-nearest
returns-clause-nearest g c = let here = (goal.at.returns-clause-nearest g c).After-row_times_vector in nearest_is _ _ c.rounded.result.nearest (argument g here) (exact_small g here) c.rounded.ensures.nearest

pub returns-clause-residue : goal.returns-clause-residue
returns-clause-residue g c = let here = (goal.at.returns-clause-residue g c).After-row_times_vector in residue_is _ _ c.rounded.result.residue (argument g here) (exact_small g here) c.rounded.ensures.residue

pub returns-clause-within : goal.returns-clause-within
returns-clause-within g c = let here = (goal.at.returns-clause-within g c).After-row_times_vector in nearest_small _ _ c.rounded.result.nearest (argument g here) (exact_small g here) c.rounded.ensures.near
