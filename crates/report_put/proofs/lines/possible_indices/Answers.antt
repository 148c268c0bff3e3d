use Rattle.std.proofs.Common.{◌∙◌, ap, sym, arith, ◌++◌, ◌∷◌, [], append-nil, take, true, false}
use Rattle.arrayvec.specs.ArrayVec.{array_vec_len}
use Rattle.isolate_core.specs.Verdict.{possible_models}
use Rattle.isolate_core.proofs.Judged.{models-more}
use Rattle.report_put.proofs.lines.possible_indices.Goals.{then-is_possible, else-is_possible}
use Rattle.report_put.proofs.lines.possible_indices.Goals as goal

pub loop-i-preserved : goal.loop-i-preserved
loop-i-preserved c =
    let i = c.loop-i.i in
    let bs = c.args.possible.now in
    elim c.if-is_possible.branch [
      | then-is_possible w ↦ record {
        so_far = ap (λ m. m.items) w.models-is ∙ w.push.ensures.items ∙ ap (λ is. is ++ i ∷ []) c.loop-i.invariant.so_far ∙ sym (models-more bs i c.loop-i-test.true true w.if-is_possible.true);
        room = omega (arith, ap array_vec_len w.models-is);
      }
      | else-is_possible w ↦ record {
        so_far = ap (λ m. m.items) w.models-is ∙ c.loop-i.invariant.so_far ∙ sym (models-more bs i c.loop-i-test.true false w.if-is_possible.false ∙ append-nil (possible_models (take i bs)));
        room = omega (arith, ap array_vec_len w.models-is);
      }
    ]
