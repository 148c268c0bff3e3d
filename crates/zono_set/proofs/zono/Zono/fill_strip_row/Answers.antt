use Rattle.std.proofs.Common.{◌≡◌, ℕ, ◌^◌, ◌≤◌, [], ◌∷◌, ◌++◌, length, ℤ, ◌+ℤ◌, ◌-ℤ◌, unsigned_abs, SFits, to_z, of_z, to_z-of_z, sum_by, ap, ◌∙◌, arith}
use Rattle.std.proofs.lemmas.Int.{ints}
use mir.Syntax.{w64, w128}
use Rattle.set_rules.specs.Round.{rnd, residue, ceil_s}
use Rattle.set_rules.specs.Strip.{raw_output, raw_coefficient, strip_row, output_slack}
use Rattle.set_rules.proofs.ImageSets.{length-tabulate}
use Rattle.set_rules.proofs.StripHolds.{strip-keeps}
use Rattle.fixed_mat.proofs.Bits.{back, sum_back}
use Rattle.zono_set.proofs.Bound.{sum_by-tabulate}
use Rattle.fixed_mat.proofs.Bits.{ok_unless}
use Rattle.zono_set.proofs.Steps.{left_back, difference_back}
use Rattle.zono_set.proofs.zono.Zono.fill_strip_row.Given.{Over}
use Rattle.zono_set.proofs.zono.Zono.fill_strip_row.Goals as goal
use Rattle.zono_set.proofs.zono.Zono.fill_strip_row.Goals.{After-from}

middle_residue : (g : Over) (c : After-from g) → c.output_middle-middle.result.residue ≡ residue (raw_output g.row.N c.args.c_row.now c.args.du c.args.self.now)
middle_residue g c = c.output_middle-middle.ensures.residue ∙ ap (λ d. residue (raw_output g.row.N c.args.c_row.now d c.args.self.now)) (back c.args.du (let h = c.requires.input in omega arith))

-- what makes up for the rounding
slack_is : (g : Over) (c : After-from g) → (c.narrow_ceil-slack.result ≡ output_slack g.row.N c.args.c_row.now c.args.du c.args.self.now) × (unsigned_abs c.narrow_ceil-slack.result ≤ 10 ^ 12)
slack_is g c =
    let middle = left_back c.output_middle-middle.result.residue c.output_middle-middle.ensures.low c.output_middle-middle.ensures.half ∙ middle_residue g c in (
      c.narrow_ceil-slack.ensures.value ∙ (λ i. ceil_s (middle i +ℤ c.fill_coefficients-left.ensures.left i)),
      c.narrow_ceil-slack.ensures.within,
    )

wide_is : (g : Over) (c : After-from g) → c.from.result ≡ c.narrow_ceil-slack.result
wide_is g c = let fits : SFits w64 c.narrow_ceil-slack.result = record { sfits = c.narrow_ceil-slack.type_inv } in c.from.ensures ∙ to_z-of_z fits

last_is : (g : Over) (c : After-from g) → to_z w128 (of_z w128 (to_z w128 (of_z w128 c.args.f) +ℤ to_z w128 (of_z w128 c.from.result))) ≡ c.args.f +ℤ output_slack g.row.N c.args.c_row.now c.args.du c.args.self.now
last_is g c =
    let low = c.requires.noise_low in
    let high = c.requires.noise_high in
    let s = (slack_is g c).1 in
    let size = ap unsigned_abs (wide_is g c) in
    sum_back c.args.f c.from.result (omega (arith, ints)) (omega (arith, s, size)) ∙ ap (λ z. c.args.f +ℤ z) (wide_is g c ∙ (slack_is g c).0)

pub overflow_add-f : goal.overflow_add-f
overflow_add-f g c =
    let low = c.requires.noise_low in
    let high = c.requires.noise_high in
    let s = (slack_is g c).1 in
    let same = wide_is g c in
    omega (arith, ints)

pub push-requires : goal.push-requires
push-requires g c =
    let long = ap length c.fill_coefficients-left.ensures.coefficients ∙ length-tabulate (length c.args.self.now.columns) _ in
    let room = c.requires.room in
    omega arith

pub unwrap-requires : goal.unwrap-requires
unwrap-requires g c =
    let here = (goal.at.unwrap-requires g c).After-from in
    let f : ℕ → ℤ = λ t. rnd (raw_coefficient g.row.N c.args.c_row.now c.args.self.now t) in
    let held = ap (sum_by unsigned_abs) c.fill_coefficients-left.ensures.coefficients in
    let sum = sum_by-tabulate (length c.args.self.now.columns) f in
    let spread = c.output_middle-middle.ensures.spread in
    let value = ap unsigned_abs (last_is g here) in
    let slack = ap unsigned_abs (slack_is g here).0 in
    let small = (slack_is g here).1 in
    let low = c.requires.noise_low in
    let high = c.requires.noise_high in
    ok_unless c.push.result _ c.push.ensures.refused.0 (λ past. omega (arith, ints))

pub returns-clause-coefficients : goal.returns-clause-coefficients
unfolding strip_row
returns-clause-coefficients g c =
    let here = (goal.at.returns-clause-coefficients g c).After-from in
    let items = rw c.unwrap.ensures at c.push.ensures.ok in
    items ∙ (λ i. c.fill_coefficients-left.ensures.coefficients i ++ last_is g here i ∷ [])

right_is : (y nearest : ℤ) → unsigned_abs y ≤ 10 ^ 18 → unsigned_abs nearest ≤ 8_100_000_000_000_000_000_000 → to_z w128 (of_z w128 (to_z w128 (of_z w128 y) -ℤ to_z w128 (of_z w128 nearest))) ≡ y -ℤ nearest
right_is y nearest h k = difference_back y nearest (omega arith) (omega arith)

pub returns-clause-right : goal.returns-clause-right
unfolding strip_row
returns-clause-right g c =
    right_is c.args.y c.output_middle-middle.result.nearest c.requires.reading c.output_middle-middle.ensures.within ∙ ap (λ z. c.args.y -ℤ z) (c.output_middle-middle.ensures.nearest ∙ ap (λ d. rnd (raw_output g.row.N c.args.c_row.now d c.args.self.now)) (back c.args.du (let h = c.requires.input in omega arith)))

pub returns-clause-within : goal.returns-clause-within
returns-clause-within g c =
    let reading = c.requires.reading in
    let within = c.output_middle-middle.ensures.within in
    rw (right_is c.args.y c.output_middle-middle.result.nearest reading within) (omega (arith, ints))

pub returns-clause-holds : goal.returns-clause-holds
returns-clause-holds g c q x old positive gives reads = strip-keeps g.row.N q c.args.c_row.now c.args.du c.args.y c.args.f c.args.self.now x old positive gives reads
