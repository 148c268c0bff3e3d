-- The image of a set under a plant: whether it stays in range, and what it is.
use Rattle.std.proofs.Common.{◌≡◌, ℕ, ◌<◌, ◌≤◌, List, length, Bool, true, false, not, ℤ, refl, sym, ap, ◌∙◌, arith}
use Rattle.std.proofs.lemmas.Int.{ints}
use Rattle.set_rules.specs.Zono.{Zono, InRange}
use Rattle.set_rules.specs.Reduce.{reduce_set}
use Rattle.set_rules.specs.Image.{image, IsFirstPast}
use Rattle.set_rules.specs.Gain.{in_range}
use Rattle.set_rules.proofs.ImageSets.{length-image}
use Rattle.set_rules.proofs.TestsHold.{in_range-tests}
use Rattle.plant_model.specs.Plant.{Plant, shift_of}
use Rattle.observer_step.specs.Estimate.{trim, image_of, leaves_range}

-- a set that reaches past the range fails its test
pub past-fails : (n : ℕ) (z : Zono) (i : ℕ) (mag : ℤ) → i < n → IsFirstPast z i mag → in_range n z ≡ false
past-fails n z i mag h first = by (in_range n z) refl
  where
    by : (b : Bool) → in_range n z ≡ b → b ≡ false
    by true e =
        let small = (in_range-tests n z).0 e i h in
        let is = first.is in
        let past = first.past in
        absurd (omega (arith, ints))
    by false e = refl

module _ (p : Plant) (u : List ℤ) (z : Zono) (n : ℕ) (states : p.states ≡ n) (a shift e : List ℤ) (w : ℕ) (a_is : a ≡ p.a) (shift_is : shift ≡ shift_of p u) (e_is : e ≡ p.e) (w_is : w ≡ p.disturbances)
    (reduced : Zono) (reduced_is : reduced ≡ reduce_set n 48 z) where
  same-image : image n w a shift e reduced ≡ image_of p u (trim p.states z)
  same-image =
      let trimmed : reduced ≡ trim p.states z = reduced_is ∙ ap (λ m. reduce_set m 48 z) (sym states) in
      λ i. image (sym states i) (w_is i) (a_is i) (shift_is i) (e_is i) (trimmed i)

  tested : (b : Bool) → in_range n (image n w a shift e reduced) ≡ b → leaves_range p u z ≡ not b
  tested b test = ap not ((λ i. in_range (states i) (sym same-image i)) ∙ test)

  pub image-stays : InRange n (image n w a shift e reduced) → leaves_range p u z ≡ false
  image-stays fits = tested true ((in_range-tests n (image n w a shift e reduced)).1 fits)

  pub image-leaves : (i : ℕ) (mag : ℤ) → i < n → IsFirstPast (image n w a shift e reduced) i mag → leaves_range p u z ≡ true
  image-leaves i mag h first = tested false (past-fails n (image n w a shift e reduced) i mag h first)

-- an image of at most 48 columns leaves room
pub image-room : (n w : ℕ) (a shift e : List ℤ) (reduced new : Zono) → n ≤ 8 → w ≤ 8 → length reduced.columns ≤ 48 → new ≡ image n w a shift e reduced → length new.columns ≤ 64
image-room n w a shift e reduced new states dists few is =
    let size : Zono → ℕ = λ z. length z.columns in
    let long = ap size is ∙ length-image n w a shift e reduced in
    omega arith
