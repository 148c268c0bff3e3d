use Rattle.std.proofs.Common.{◌≡◌, ◌≤◌, pos, unsigned_abs, SFits, to_z, of_z, to_z-of_z, sym, ap, ◌∙◌, arith}
use mir.Syntax.{w64}
use Rattle.set_rules.specs.Sum.{magnitude}
use Rattle.set_rules.specs.Columns.{entry}
use Rattle.set_rules.proofs.Sums.{total-zero}
use Rattle.fixed_mat.proofs.Bits.{next_sum}
use Rattle.zono_set.proofs.zono.image.noise_reach.Given.{Over}
use Rattle.zono_set.proofs.zono.image.noise_reach.Goals as goal
use Rattle.zono_set.proofs.zono.image.noise_reach.Goals.{After-unsigned_abs-sum}

pub loop-t-init : goal.loop-t-init
loop-t-init g c = record { so_far = sym (total-zero _); within = omega arith }

module _ (g : Over) (c : After-unsigned_abs-sum g) where
  same : to_z w64 (of_z w64 c.at.result) ≡ c.at.result
  same = let fits : SFits w64 c.at.result = record { sfits = c.at.type_inv } in to_z-of_z fits

  size_small : c.unsigned_abs-sum.result ≤ 1_000_000_000_000_000_000
  size_small = let is = c.unsigned_abs-sum.ensures.value ∙ ap unsigned_abs same in let h = c.at.ensures.within in omega (arith, is, h)

pub overflow_add-sum : goal.overflow_add-sum
overflow_add-sum g c =
    let h = size_small g c in
    let before = c.loop-t.invariant.within in
    let test = c.loop-t-test.true in
    let dists = c.requires.dists in
    record { fits = omega (arith, h, before, test, dists) }

pub loop-t-preserved : goal.loop-t-preserved
loop-t-preserved g c =
    let here = (goal.at.loop-t-preserved g c).After-unsigned_abs-sum in
    let size = ap pos (c.unsigned_abs-sum.ensures.value ∙ ap unsigned_abs (same g here ∙ c.at.ensures.value)) in
    let small = size_small g here in
    let before = c.loop-t.invariant.within in
    record {
      so_far = next_sum (pos c.loop-t.sum) (pos c.unsigned_abs-sum.result) c.loop-t.t (λ t. magnitude (entry 8 c.args.e.now c.args.i t)) c.loop-t.invariant.so_far size;
      within = omega (arith, small, before);
    }
