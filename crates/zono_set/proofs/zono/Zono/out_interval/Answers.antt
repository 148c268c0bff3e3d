use Rattle.std.proofs.Common.{◌≡◌, ◌^◌, ◌≤◌, ℤ, ◌+ℤ◌, ◌-ℤ◌, unsigned_abs, SFits, to_z, of_z, to_z-of_z, ap, ◌∙◌, sym, subst, arith}
use Rattle.std.proofs.lemmas.Int.{ints}
use mir.Syntax.{w64, w128}
use Rattle.set_rules.specs.Round.{rnd, residue, ceil_s}
use Rattle.set_rules.specs.Zono.{Zono, zono_of}
use Rattle.set_rules.specs.Strip.{raw_output, output_size, output_residue, half_width, out_interval as out_interval_of, output_slack}
use Rattle.set_rules.proofs.ReadingsHold.{readings-meet}
use Rattle.fixed_mat.proofs.Bits.{back, sum_back}
use Rattle.zono_set.specs.Holds.{HoldsReadings}
use Rattle.zono_set.proofs.OneRow.{size_is as row_size, residue_is as row_left}
use Rattle.zono_set.proofs.Steps.{fold, natural}
use Rattle.zono_set.proofs.zono.Zono.out_interval.Given.{Over}
use Rattle.zono_set.proofs.zono.Zono.out_interval.Goals as goal
use Rattle.zono_set.proofs.zono.Zono.out_interval.Goals.{After-from}

module _ (g : Over) (c : After-from g) where
  abbrev inside : Zono
  inside = zono_of c.self.inside.centre c.self.inside.cols

  size_is : c.row_sums-sums.result.size ≡ output_size g.row.N c.args.c_row.now c.args.self.now
  size_is = c.row_sums-sums.ensures.size ∙ row_size g.row.N c.args.c_row.now inside ∙ ap (λ (z : Zono). output_size g.row.N c.args.c_row.now z) c.self.view_is

  left_is : c.row_sums-sums.result.left ≡ output_residue g.row.N c.args.c_row.now c.args.self.now
  left_is = c.row_sums-sums.ensures.left ∙ row_left g.row.N c.args.c_row.now inside ∙ ap (λ (z : Zono). output_residue g.row.N c.args.c_row.now z) c.self.view_is

  wide_is : c.from.result ≡ c.narrow_ceil-slack.result
  wide_is = let fits : SFits w64 c.narrow_ceil-slack.result = record { sfits = c.narrow_ceil-slack.type_inv } in c.from.ensures ∙ to_z-of_z fits

middle_residue : (g : Over) (c : After-from g) → c.output_middle-middle.result.residue ≡ residue (raw_output g.row.N c.args.c_row.now c.args.du c.args.self.now)
middle_residue g c = c.output_middle-middle.ensures.residue ∙ ap (λ d. residue (raw_output g.row.N c.args.c_row.now d c.args.self.now)) (back c.args.du (let h = c.requires.input in omega arith))

left_sum : (g : Over) (c : After-from g) → to_z w128 (of_z w128 (to_z w128 (of_z w128 c.output_middle-middle.result.residue) +ℤ to_z w128 (of_z w128 c.row_sums-sums.result.left))) ≡ c.output_middle-middle.result.residue +ℤ c.row_sums-sums.result.left
left_sum g c =
    let low = c.row_sums-sums.ensures.left_low in
    let high = c.row_sums-sums.ensures.left_high in
    let low' = c.output_middle-middle.ensures.low in
    let half = c.output_middle-middle.ensures.half in
    sum_back c.output_middle-middle.result.residue c.row_sums-sums.result.left (omega (arith, ints)) (omega (arith, ints))

slack_is : (g : Over) (c : After-from g) → (c.from.result ≡ output_slack g.row.N c.args.c_row.now c.args.du c.args.self.now) × (unsigned_abs c.from.result ≤ 10 ^ 12)
slack_is g c =
    let low = c.row_sums-sums.ensures.left_low in
    let low' = c.output_middle-middle.ensures.low in
    let sum = natural (c.output_middle-middle.result.residue +ℤ c.row_sums-sums.result.left) _ (omega (arith, ints, low, low')) (left_sum g c) in
    let size = ap unsigned_abs (wide_is g c) in
    let small = c.narrow_ceil-slack.ensures.within in
    (wide_is g c ∙ c.narrow_ceil-slack.ensures.value ∙ ap ceil_s sum ∙ (λ i. ceil_s (middle_residue g c i +ℤ left_is g c i)), omega (arith, size, small))

size_small : (g : Over) (c : After-from g) → unsigned_abs c.row_sums-sums.result.size ≤ 8_100_000_000_000_000_000_000
size_small g c = let low = c.row_sums-sums.ensures.size_low in let is = size_is g c in let spread = c.output_middle-middle.ensures.spread in omega (arith, ints)

half_is : (g : Over) (c : After-from g) → (to_z w128 (of_z w128 (to_z w128 (of_z w128 (to_z w128 (of_z w128 c.row_sums-sums.result.size) +ℤ to_z w128 (of_z w128 c.args.f))) +ℤ to_z w128 (of_z w128 c.from.result))) ≡ c.row_sums-sums.result.size +ℤ c.args.f +ℤ c.from.result)
    × (unsigned_abs (c.row_sums-sums.result.size +ℤ c.args.f +ℤ c.from.result) ≤ 9_000_000_000_000_000_000_000)
half_is g c =
    let low = c.requires.noise_low in
    let high = c.requires.noise_high in
    let s = (slack_is g c).1 in
    let z = size_small g c in
    let front = sum_back c.row_sums-sums.result.size c.args.f (omega arith) (omega (arith, ints)) in
    let slack = back c.from.result (omega arith) in (
      fold (to_z w128 (of_z w128 (to_z w128 (of_z w128 c.row_sums-sums.result.size) +ℤ to_z w128 (of_z w128 c.args.f))) +ℤ to_z w128 (of_z w128 c.from.result)) (c.row_sums-sums.result.size +ℤ c.args.f +ℤ c.from.result) (λ i. front i +ℤ slack i) (omega (arith, ints)),
      omega (arith, ints),
    )

pub overflow_add-half-2 : goal.overflow_add-half-2
overflow_add-half-2 g c =
    let low = c.requires.noise_low in
    let high = c.requires.noise_high in
    let s = (slack_is g c).1 in
    let z = size_small g c in
    let front = sum_back c.row_sums-sums.result.size c.args.f (omega arith) (omega (arith, ints)) in
    omega (arith, ints)

pub overflow_sub-result : goal.overflow_sub-result
overflow_sub-result g c =
    let half = half_is g (goal.at.overflow_sub-result g c).After-from in
    let is = half.0 in
    let small = half.1 in
    let middle = c.output_middle-middle.ensures.within in
    omega (arith, ints)

pub overflow_add-result : goal.overflow_add-result
overflow_add-result g c =
    let half = half_is g (goal.at.overflow_add-result g c).After-from in
    let is = half.0 in
    let small = half.1 in
    let middle = c.output_middle-middle.ensures.within in
    omega (arith, ints)

-- the ends, in 128 bits
ends_are : (m h : ℤ) (x : ℤ) → x ≡ h → unsigned_abs m ≤ 8_100_000_000_000_000_000_000 → unsigned_abs h ≤ 9_000_000_000_000_000_000_000
    → (to_z w128 (of_z w128 (to_z w128 (of_z w128 m) -ℤ x)) ≡ m -ℤ h) × (to_z w128 (of_z w128 (to_z w128 (of_z w128 m) +ℤ x)) ≡ m +ℤ h)
ends_are m h x e small small' = (
  fold (to_z w128 (of_z w128 m) -ℤ x) (m -ℤ h) (λ i. back m (omega arith) i -ℤ e i) (omega (arith, ints)),
  fold (to_z w128 (of_z w128 m) +ℤ x) (m +ℤ h) (λ i. back m (omega arith) i +ℤ e i) (omega (arith, ints)),
)

pub returns-clause-value : goal.returns-clause-value
unfolding out_interval_of
returns-clause-value g c =
    let here = (goal.at.returns-clause-value g c).After-from in
    let half = half_is g here in
    let ends = ends_are c.output_middle-middle.result.nearest (c.row_sums-sums.result.size +ℤ c.args.f +ℤ c.from.result) _ half.0 c.output_middle-middle.ensures.within half.1 in
    let width : c.row_sums-sums.result.size +ℤ c.args.f +ℤ c.from.result ≡ half_width g.row.N c.args.c_row.now c.args.du c.args.f c.args.self.now = λ i. size_is g here i +ℤ c.args.f +ℤ (slack_is g here).0 i in
    let middle = c.output_middle-middle.ensures.nearest ∙ ap (λ d. rnd (raw_output g.row.N c.args.c_row.now d c.args.self.now)) (back c.args.du (let h = c.requires.input in omega arith)) in
    (λ i. (ends.0 i, ends.1 i)) ∙ (λ i. (middle i -ℤ width i, middle i +ℤ width i))

pub returns-clause-low : goal.returns-clause-low
returns-clause-low g c =
    let half = half_is g (goal.at.returns-clause-low g c).After-from in
    let middle = c.output_middle-middle.ensures.within in
    let small = half.1 in
    let ends = ends_are c.output_middle-middle.result.nearest (c.row_sums-sums.result.size +ℤ c.args.f +ℤ c.from.result) _ half.0 middle small in
    subst (λ z. unsigned_abs z ≤ 1_000_000_000_000_000_000_000_000) (sym ends.0) (omega (arith, ints))

pub returns-clause-high : goal.returns-clause-high
returns-clause-high g c =
    let half = half_is g (goal.at.returns-clause-high g c).After-from in
    let middle = c.output_middle-middle.ensures.within in
    let small = half.1 in
    let ends = ends_are c.output_middle-middle.result.nearest (c.row_sums-sums.result.size +ℤ c.args.f +ℤ c.from.result) _ half.0 middle small in
    subst (λ z. unsigned_abs z ≤ 1_000_000_000_000_000_000_000_000) (sym ends.1) (omega (arith, ints))

pub returns-clause-holds : goal.returns-clause-holds
returns-clause-holds g c =
    subst (HoldsReadings g.row.N c.args.c_row.now c.args.du c.args.f c.args.self.now) (sym (returns-clause-value g c))
    (λ q x y slack positive inside reads. readings-meet g.row.N q c.args.c_row.now c.args.du y c.args.f slack c.args.self.now x positive inside reads)
