use Rattle.std.proofs.Common.{refl}
use Rattle.std.proofs.lemmas.Result.{err_from_is_err_and}
use Rattle.model_file.specs.Models.{bounds_of}
use Rattle.model_file.proofs.plants.Counts.bounds.Goals as goal

pub returns-in_err-radius : goal.returns-in_err-radius
unfolding bounds_of
returns-in_err-radius g c =
    let p = err_from_is_err_and c.from_residual-in_err-radius.result c.from_residual-in_err-radius.ensures.1 in
    let noise = rw c.of_model.ensures at c.in_ok-noise.ensures in
    let centre = rw c.of_model-2.ensures at c.in_ok-centre.ensures in
    let radius = rw c.of_model-3.ensures at c.in_err-radius.ensures in
    rw (p.1, p.2, ← noise, ← centre, ← radius) refl

pub returns-in_err-state_max : goal.returns-in_err-state_max
unfolding bounds_of
returns-in_err-state_max g c =
    let p = err_from_is_err_and c.from_residual-in_err-state_max.result c.from_residual-in_err-state_max.ensures.1 in
    let noise = rw c.of_model.ensures at c.in_ok-noise.ensures in
    let centre = rw c.of_model-2.ensures at c.in_ok-centre.ensures in
    let radius = rw c.of_model-3.ensures at c.in_ok-radius.ensures in
    let state_max = rw c.of_model-4.ensures at c.in_err-state_max.ensures in
    rw (p.1, p.2, ← noise, ← centre, ← radius, ← state_max) refl

pub returns : goal.returns
unfolding bounds_of
returns g c =
    let noise = rw c.of_model.ensures at c.in_ok-noise.ensures in
    let centre = rw c.of_model-2.ensures at c.in_ok-centre.ensures in
    let radius = rw c.of_model-3.ensures at c.in_ok-radius.ensures in
    let state_max = rw c.of_model-4.ensures at c.in_ok-state_max.ensures in
    rw (← noise, ← centre, ← radius, ← state_max) refl
