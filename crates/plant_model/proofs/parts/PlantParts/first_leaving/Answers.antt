use Rattle.std.proofs.Common.{◌≡◌, ℕ, ◌+◌, ◌*◌, ◌<◌, ◌≤◌, true, false, nat_lt, List, slice_index_or, ℤ, pos, unsigned_abs, refl, sym, ap, arith, ◌∙◌, to_z, of_z, to_z-of_z, SFits}
use Rattle.std.proofs.lemmas.Bool.Decides.{nat_tests}
use mir.Syntax.{w64}
use Rattle.set_rules.specs.Tests.{first_below}
use Rattle.set_rules.specs.Columns.{at, entry}
use Rattle.set_rules.specs.Zono.{range}
use Rattle.plant_model.specs.Parts.{of_parts, leaves}
use Rattle.plant_model.proofs.FirstBelow.{first_below-more, first_below-found}
use Rattle.plant_model.proofs.parts.PlantParts.first_leaving.Goals as goal

-- the magnitude of an entry that was read from a matrix of one column
read : (m : List ℤ) (i r : ℕ) (v : ℤ) → SFits w64 v → v ≡ entry 1 m i 0 → r ≡ unsigned_abs (to_z w64 (of_z w64 v)) → r ≡ unsigned_abs (at m i)
read m i r v fits is value =
    let place : i * 1 + 0 ≡ i = omega arith in
    value ∙ ap unsigned_abs (to_z-of_z fits ∙ is ∙ ap (λ k. slice_index_or m k (pos 0)) place)

passes : (s a b x y : ℕ) → s ≡ a + b → a ≡ x → b ≡ y → range < s → nat_lt range (x + y) ≡ true
passes s a b x y s_is a_is b_is past = grind (arith, nat_tests)

fails : (s a b x y : ℕ) → s ≡ a + b → a ≡ x → b ≡ y → s ≤ range → nat_lt range (x + y) ≡ false
fails s a b x y s_is a_is b_is within = grind (arith, nat_tests)

pub loop-i-init : goal.loop-i-init
unfolding first_below
loop-i-init g c = refl

pub returns-then-from-gt-RANGE : goal.returns-then-from-gt-RANGE
returns-then-from-gt-RANGE g c =
    let p = c.args.self.now in
    let i = c.loop-i.i in
    let a = read p.centre i _ _ (record { sfits = c.at.type_inv }) c.at.ensures.value c.unsigned_abs.ensures.value in
    let b = read p.radius i _ _ (record { sfits = c.at-in-loop-i.type_inv }) c.at-in-loop-i.ensures.value c.unsigned_abs-in-loop-i.ensures.value in
    sym (first_below-found (leaves (of_parts g.row.N p)) g.row.N i (omega arith) c.loop-i.invariant (passes _ _ _ _ _ c.from.ensures a b c.if-from-gt-RANGE.true))

pub loop-i-preserved : goal.loop-i-preserved
loop-i-preserved g c =
    let p = c.args.self.now in
    let i = c.loop-i.i in
    let a = read p.centre i _ _ (record { sfits = c.at.type_inv }) c.at.ensures.value c.unsigned_abs.ensures.value in
    let b = read p.radius i _ _ (record { sfits = c.at-in-loop-i.type_inv }) c.at-in-loop-i.ensures.value c.unsigned_abs-in-loop-i.ensures.value in
    first_below-more (leaves (of_parts g.row.N p)) i c.loop-i.invariant (fails _ _ _ _ _ c.from.ensures a b c.if-from-gt-RANGE.false)
