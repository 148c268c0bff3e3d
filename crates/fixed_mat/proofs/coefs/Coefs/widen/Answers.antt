use Rattle.std.proofs.Common.{arith, ap, ◌∙◌, length, length-append, replicate, pos, unsigned_abs, sum_by}
use Rattle.std.proofs.lemmas.List.{length-replicate}
use Rattle.std.proofs.lemmas.List.Sums.{sum_by-append}
use Rattle.std.proofs.lemmas.List.Folds.{sum_by-replicate}
use Rattle.fixed_mat.proofs.coefs.Coefs.widen.Goals as goal

pub invariant_of-self : goal.invariant_of-self
invariant_of-self c =
    let xs = c.self.inside.items.items in
    let n = c.loop.counter in
    let items = c.loop.invariant.items in
    let long = ap length items ∙ length-append xs (replicate n (pos 0)) in
    let shown = ap length c.self.view_is in
    let zeros = length-replicate n (pos 0) in
    let sum = ap (sum_by unsigned_abs) items ∙ sum_by-append unsigned_abs xs (replicate n (pos 0)) in
    let none = sum_by-replicate unsigned_abs n (pos 0) in
    record { few = omega arith; sum_is = omega arith; small = omega arith }
