use Rattle.std.proofs.Common.{◌≡◌, ◌^◌, ◌≤◌, ◌+ℤ◌, ◌*ℤ◌, unsigned_abs, to_z, of_z, ap, ◌∙◌, sym, subst, arith}
use Rattle.std.proofs.lemmas.Int.{ints}
use mir.Syntax.{w128}
use Rattle.set_rules.specs.Sum.{total}
use Rattle.set_rules.specs.Columns.{at, entry}
use Rattle.set_rules.specs.Zono.{Zono, reach}
use Rattle.set_rules.specs.Round.{rnd, residue, ceil_s}
use Rattle.set_rules.specs.Image.{image, raw_centre}
use Rattle.set_rules.proofs.ImageSets.{reach-image}
use Rattle.fixed_mat.proofs.Bits.{back, sum_back, sum_four, sum_four_fits}
use Rattle.fixed_mat.specs.Fits.{FitsRow}
use Rattle.zono_set.proofs.Steps.{abs_of, abs_small, slack_small}
use Rattle.zono_set.proofs.zono.Zono.reach_after.Given.{Over}
use Rattle.zono_set.proofs.zono.Zono.reach_after.Goals as goal
use Rattle.zono_set.proofs.zono.Zono.reach_after.Goals.{After-abs}

shift_is : (g : Over) (c : After-abs g) → to_z w128 (of_z w128 c.at.result) ≡ at c.args.shift.now c.args.i
shift_is g c = back c.at.result (let h = c.at.ensures.within in omega arith) ∙ c.at.ensures.value

slack_is : (g : Over) (c : After-abs g) → (c.ceil_s-slack.result ≡ ceil_s (c.rounded_centre-centre.result.residue +ℤ c.row_sums-sums.result.left)) × (unsigned_abs c.ceil_s-slack.result ≤ 10 ^ 12)
slack_is g c =
    let low = c.rounded_centre-centre.ensures.low in
    let half = c.rounded_centre-centre.ensures.half in
    let low' = c.row_sums-sums.ensures.left_low in
    let high' = c.row_sums-sums.ensures.left_high in
    let sum = sum_back c.rounded_centre-centre.result.residue c.row_sums-sums.result.left (omega (arith, ints)) (omega (arith, ints)) in
    let is = c.ceil_s-slack.ensures.value ∙ ap ceil_s sum in
    (is, slack_small (c.rounded_centre-centre.result.residue +ℤ c.row_sums-sums.result.left) c.ceil_s-slack.result (omega (arith, ints)) (omega (arith, ints)) is)

size_small : (g : Over) (c : After-abs g) → unsigned_abs c.abs.result ≤ 10 ^ 25
size_small g c = let h = c.rounded_centre-centre.ensures.within in let s = (abs_small c.rounded_centre-centre.result.nearest c.abs.result (omega arith) c.abs.ensures.value).0 in omega arith

sums_small : (g : Over) (c : After-abs g) → unsigned_abs c.row_sums-sums.result.size ≤ 10 ^ 25
sums_small g c = let low = c.row_sums-sums.ensures.size_low in let high = c.row_sums-sums.ensures.size_high in omega (arith, ints)

pub overflow_add-result-3 : goal.overflow_add-result-3
overflow_add-result-3 g c =
    let here = (goal.at.overflow_add-result-3 g c).After-abs in
    sum_four_fits c.abs.result c.row_sums-sums.result.size c.noise_reach.result c.ceil_s-slack.result (size_small g here) (sums_small g here) (let h = c.noise_reach.ensures.within in omega arith) (let h = (slack_is g here).1 in omega arith)

pub returns : goal.returns
returns g c =
    let here = (goal.at.returns g c).After-abs in
    let z : Zono = record { centre = c.self.inside.centre; columns = c.self.inside.cols } in
    let nearest = c.rounded_centre-centre.ensures.nearest ∙ ap (λ s. rnd (total g.row.N (λ l. entry g.row.N c.args.a.now c.args.i l *ℤ at c.self.inside.centre l) +ℤ s)) (shift_is g here) in
    let residue_is = c.rounded_centre-centre.ensures.residue ∙ ap (λ s. residue (total g.row.N (λ l. entry g.row.N c.args.a.now c.args.i l *ℤ at c.self.inside.centre l) +ℤ s)) (shift_is g here) in
    let size = abs_of c.rounded_centre-centre.result.nearest (rnd (raw_centre g.row.N c.args.a.now c.args.shift.now z c.args.i)) c.abs.result (let h = c.rounded_centre-centre.ensures.within in omega arith) c.abs.ensures.value nearest in
    sum_four c.abs.result c.row_sums-sums.result.size c.noise_reach.result c.ceil_s-slack.result (size_small g here) (sums_small g here) (let h = c.noise_reach.ensures.within in omega arith) (let h = (slack_is g here).1 in omega arith)
    ∙ (λ i. size i +ℤ c.row_sums-sums.ensures.size i +ℤ c.noise_reach.ensures.value i +ℤ ((slack_is g here).0 ∙ (λ ι. ceil_s (residue_is ι +ℤ c.row_sums-sums.ensures.left ι))) i)
    ∙ sym (reach-image g.row.N c.args.w c.args.a.now c.args.shift.now c.args.e.now z c.args.i c.requires.row)
    ∙ ap (λ (z : Zono). reach (image g.row.N c.args.w c.args.a.now c.args.shift.now c.args.e.now z) c.args.i) c.self.view_is

pub row_sums-sums-requires : goal.row_sums-sums-requires
row_sums-sums-requires g c =
    (omega arith, (omega arith, (c.requires.row, λ narrow. subst (λ (z : Zono). FitsRow 9_000_000_000_000_000_000 g.row.N c.args.a.now c.args.i z.columns) (sym c.self.view_is) (c.has_narrow_row.ensures narrow))))
