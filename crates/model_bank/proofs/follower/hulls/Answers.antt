use Rattle.std.proofs.Common.{[], length, ap, ◌∙◌, arith}
use Rattle.std.proofs.lemmas.List.FromFn.{length-map-range_with_len}
use Rattle.fixed_mat.proofs.Columns.{pushes}
use Rattle.model_bank.proofs.Judged.{list_all-push, printable-hull}
use Rattle.observer_step.specs.Seen.{is_printable_interval}
use Rattle.model_bank.proofs.follower.hulls.Goals as goal

pub push-requires : goal.push-requires
push-requires g c =
    let long = ap length c.loop-i.invariant.so_far ∙ length-map-range_with_len _ 0 c.loop-i.i in
    let few = c.states-i-end.ensures.limits.few_states in
    let states = c.states-i-end.ensures.states in
    (omega arith, omega arith)

pub loop-i-preserved : goal.loop-i-preserved
loop-i-preserved g c =
    let e = c.push.ensures.items in
    record {
      so_far = pushes [] _ _ _ _ _ c.loop-i.invariant.so_far e c.hull.ensures.value;
      printable = rw e (list_all-push is_printable_interval c.loop-i.hulls.items c.hull.result c.loop-i.invariant.printable (printable-hull c.hull.result c.hull.ensures.low c.hull.ensures.high));
    }
