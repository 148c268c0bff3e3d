-- The image of a set with rows under a plant: whether it stays in range, and what it is.
use Rattle.std.proofs.Common.{◌≡◌, ℕ, suc, ◌-◌, ◌<◌, List, length, Bool, true, false, not, ◌||◌, ℤ, if◌then◌else◌, refl, ap, sym, ◌∙◌, arith}
use Rattle.set_rules.specs.Zono.{Zono, InRange}
use Rattle.set_rules.specs.Rows.{Czono}
use Rattle.set_rules.specs.Image.{image, IsFirstPast}
use Rattle.set_rules.specs.Gain.{in_range}
use Rattle.set_rules.specs.Keep.{image_with_rows}
use Rattle.set_rules.proofs.TestsHold.{in_range-tests}
use Rattle.plant_model.specs.Plant.{Plant, shift_of}
use Rattle.observer_step.specs.Estimate.{trim, image_of, leaves_range}
use Rattle.observer_step.specs.Sets.{Sets, settle, state_boxes, constrained_image, either_leaves, predict_sets, predicted_sets, sets_widened, LeadsOn}
use Rattle.observer_step.proofs.Imaged.{past-fails}

module _ (p : Plant) (u : List ℤ) (z : Czono) (n : ℕ) (states : p.states ≡ n) (a shift e : List ℤ) (w : ℕ) (a_is : a ≡ p.a) (shift_is : shift ≡ shift_of p u) (e_is : e ≡ p.e) (w_is : w ≡ p.disturbances) where
  base_same : image n w a shift e z.base ≡ image_of p u z.base
  base_same i = image (sym states i) (w_is i) (a_is i) (shift_is i) (e_is i) z.base

  pub both-imaged : image_with_rows n w a shift e z ≡ constrained_image p u z
  both-imaged i = image_with_rows (sym states i) (w_is i) (a_is i) (shift_is i) (e_is i) z

  tested : (b : Bool) → in_range n (image n w a shift e z.base) ≡ b → in_range p.states (image_of p u z.base) ≡ b
  tested b test = (λ i. in_range (states i) (sym base_same i)) ∙ test

  pub both-stay : (plain : Zono) → leaves_range p u plain ≡ false → InRange n (image n w a shift e z.base) → either_leaves p u (record { plain = plain; constrained = z }) ≡ false
  both-stay plain stays fits = λ i. stays i || not (tested true ((in_range-tests n (image n w a shift e z.base)).1 fits) i)

  pub second-leaves : (plain : Zono) (i : ℕ) (mag : ℤ) → leaves_range p u plain ≡ false → i < n → IsFirstPast (image n w a shift e z.base) i mag → either_leaves p u (record { plain = plain; constrained = z }) ≡ true
  second-leaves plain i mag stays h first = λ ι. stays ι || not (tested false (past-fails n (image n w a shift e z.base) i mag h first) ι)

-- where the first leaves, one does
pub first-leaves : (p : Plant) (u : List ℤ) (e : Sets) → leaves_range p u e.plain ≡ true → either_leaves p u e ≡ true
first-leaves p u e leaves = ap (λ b. b || not (in_range p.states (image_of p u e.constrained.base))) leaves

-- a test by its opposite
pub was_not : (b : Bool) → not b ≡ true → b ≡ false
was_not true e = cc
was_not false e = refl

pub was : (b : Bool) → not b ≡ false → b ≡ true
was true e = refl
was false e = cc

-- the images, where neither leaves, and else the state boxes
module _ (p : Plant) (u : List ℤ) (e e' : Sets) where
  pub both-moved : either_leaves p u e ≡ false
      → e' ≡ record { plain = image_of p u (trim p.states e.plain); constrained = settle p.states (constrained_image p u e.constrained) }
      → e' ≡ predict_sets p u e
  unfolding predict_sets
  both-moved stays is =
      is ∙ sym (ap (λ b. if b then state_boxes p
      else record { plain = image_of p u (trim p.states e.plain); constrained = settle p.states (constrained_image p u e.constrained) }) stays)

  pub both-boxed : either_leaves p u e ≡ true → e' ≡ state_boxes p → e' ≡ predict_sets p u e
  unfolding predict_sets
  both-boxed leaves is =
      is ∙ sym (ap (λ b. if b then state_boxes p
      else record { plain = image_of p u (trim p.states e.plain); constrained = settle p.states (constrained_image p u e.constrained) }) leaves)

-- what is predicted of corrected sets are the sets predicted at the next sample
pub leads-on : (p : Plant) (u : List ℤ) (e e' : Sets) (test : Bool) → e' ≡ predict_sets p u e → test ≡ either_leaves p u e → LeadsOn p u e e' test
unfolding predicted_sets
leads-on p u e e' test new_is test_is samples corrected last =
    let some = corrected.some in
    let next : suc (length samples - 1) ≡ length samples = omega arith in
    let sets = corrected.is in (
      new_is ∙ (λ i. predict_sets p (sym last i) (sets i)) ∙ ap (predicted_sets p samples) next,
      test_is ∙ (λ i. either_leaves p (sym last i) (sets i)) ∙ ap (sets_widened p samples) next,
    )
