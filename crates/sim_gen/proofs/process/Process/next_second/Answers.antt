use Rattle.std.proofs.Common.{◌≡◌, ◌≤◌, ℤ, arith, ap, ◌∙◌, ◌+ℤ◌, ◌*ℤ◌, pos, SFits, to_z-of_z, unsigned_abs, refl}
use Rattle.std.proofs.lemmas.Int.{ints}
use mir.Syntax.{w128}
use Rattle.sim_gen.specs.Process.{Process, half_up}
use Rattle.sim_gen.proofs.process.Process.next_second.Goals as goal

sum-fits : (h t p : ℤ) → unsigned_abs h ≤ 10_000_000_000 → unsigned_abs t ≤ 4_000_000_000 → unsigned_abs p ≤ 1
    → SFits w128 (h +ℤ t) × SFits w128 (pos 10_000_000 *ℤ p) × SFits w128 (h +ℤ t +ℤ pos 10_000_000 *ℤ p)
sum-fits h t p a b d = (omega (arith, ints), omega (arith, ints), omega (arith, ints))

sums : (h h' t t' p p' : ℤ) → h ≡ h' → t ≡ t' → p ≡ p' → h +ℤ t +ℤ p ≡ h' +ℤ t' +ℤ p'
sums h h' t t' p p' a b d = rw (a, b, d)

pub overflow_add-result-2 : goal.overflow_add-result-2
overflow_add-result-2 c =
    let half : SFits w128 c.half_up.result = record { sfits = c.half_up.type_inv } in
    let driven : SFits w128 c.times.result = record { sfits = c.times.type_inv } in
    let second : SFits w128 c.self.inside.second = omega (arith, ints) in
    let input : SFits w128 c.args.draw.now.input = omega (arith, ints) in
    let push : SFits w128 c.args.draw.now.push = omega (arith, ints) in
    let a = simp to_z-of_z at c.half_up.ensures.small in
    let b = simp to_z-of_z at c.times.ensures.small in
    let h : unsigned_abs c.half_up.result ≤ 10_000_000_000 = omega (arith, c.self.invariant.second_small) in
    let t : unsigned_abs c.times.result ≤ 4_000_000_000 = omega (arith, c.requires.input) in
    let fits = sum-fits c.half_up.result c.times.result c.args.draw.now.push h t c.requires.push in
    let one = fits.0 in
    let two = fits.1 in
    simp to_z-of_z fits.2

pub returns : goal.returns
returns c =
    let half : SFits w128 c.half_up.result = record { sfits = c.half_up.type_inv } in
    let driven : SFits w128 c.times.result = record { sfits = c.times.type_inv } in
    let second : SFits w128 c.self.inside.second = omega (arith, ints) in
    let input : SFits w128 c.args.draw.now.input = omega (arith, ints) in
    let push : SFits w128 c.args.draw.now.push = omega (arith, ints) in
    let a = simp to_z-of_z at c.half_up.ensures.small in
    let b = simp to_z-of_z at c.times.ensures.small in
    let h : unsigned_abs c.half_up.result ≤ 10_000_000_000 = omega (arith, c.self.invariant.second_small) in
    let t : unsigned_abs c.times.result ≤ 4_000_000_000 = omega (arith, c.requires.input) in
    let fits = sum-fits c.half_up.result c.times.result c.args.draw.now.push h t c.requires.push in
    let one = fits.0 in
    let two = fits.1 in
    let three = fits.2 in
    let x = simp to_z-of_z at c.half_up.ensures.value in
    let y = simp to_z-of_z at c.times.ensures.value in
    let seen : c.self.inside.second ≡ c.args.self.now.second = ap (λ (p : Process). p.second) c.self.view_is in
    let strength : pos c.self.inside.gain *ℤ c.args.draw.now.input ≡ pos c.args.self.now.gain *ℤ c.args.draw.now.input =
    ap (λ (p : Process). pos p.gain *ℤ c.args.draw.now.input) c.self.view_is in
    simp to_z-of_z (sums c.half_up.result (half_up c.args.self.now.second) c.times.result (pos c.args.self.now.gain *ℤ c.args.draw.now.input)
    (pos 10_000_000 *ℤ c.args.draw.now.push) (pos 10_000_000 *ℤ c.args.draw.now.push) (x ∙ ap half_up seen) (y ∙ strength) refl)
