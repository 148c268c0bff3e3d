use Rattle.std.proofs.Common.{◌≤◌, [], length, unsigned_abs, arith, ap, ◌∙◌, SFits, to_z, of_z, to_z-of_z}
use Rattle.std.proofs.lemmas.List.FromFn.{length-map-range_with_len}
use Rattle.std.proofs.lemmas.List.Elements.{All-push}
use mir.Syntax.{w64, w128}
use Rattle.set_rules.specs.Limits.{coef}
use Rattle.set_rules.specs.Gain.{gain_of}
use Rattle.fixed_mat.proofs.Columns.{pushes}
use Rattle.row_drop.proofs.gains.ratios.Goals as goal

pub push-requires : goal.push-requires
push-requires g c =
    let long = ap length c.loop-i.invariant.value ∙ length-map-range_with_len _ 0 c.loop-i.i in
    let small = c.len.ensures.height_small in
    (omega arith, omega arith)

pub loop-i-preserved : goal.loop-i-preserved
loop-i-preserved g c =
    let fits : SFits w64 c.ratio.result = record { sfits = c.ratio.type_inv } in
    let product_fits : SFits w128 c.product_of.result = record { sfits = c.product_of.type_inv } in
    record {
      value = pushes [] _ _ _ _ _ c.loop-i.invariant.value c.push.ensures.items
          (to_z-of_z fits ∙ c.ratio.ensures.value
          ∙ ap (λ p. gain_of p (to_z w128 (of_z w128 c.square_of-square.result))) (to_z-of_z product_fits ∙ c.product_of.ensures.value));
      within = rw (c.push.ensures.items, to_z-of_z fits)
          (All-push (λ z. unsigned_abs z ≤ coef) c.loop-i.gains.items c.ratio.result c.loop-i.invariant.within c.ratio.ensures.within);
    }
