use Rattle.std.proofs.Common.{◌≡◌, [], length, get_or, int_lt, pos, rules, arith, ap, ◌∙◌, SFits, to_z-of_z}
use Rattle.std.specs.List.{count_by}
use Rattle.std.proofs.lemmas.Int.{to_z_pos}
use Rattle.std.proofs.lemmas.List.FromFn.{length-map-range_with_len}
use mir.Syntax.{w64, w128}
use Rattle.fixed_mat.proofs.Columns.{pushes}
use Rattle.girard_reduce.proofs.Reduced.{ordered-same}
use Rattle.girard_reduce.proofs.LiftedKeys.{smaller, smaller-ordered}
use Rattle.girard_reduce.proofs.keys.places_in_order.Goals as goal

pub push-requires : goal.push-requires
push-requires c =
    let long = ap length c.loop-key.invariant ∙ length-map-range_with_len _ 0 c.loop-key.key-index in
    let few = c.requires in
    (omega arith, omega arith)

pub loop-key-preserved : goal.loop-key-preserved
loop-key-preserved c =
    let few = c.count_below.ensures.few in
    let short = c.requires in
    let fits : SFits w128 (get_or c.args.keys.now c.loop-key.key-index (pos 0)) = search rules in
    let counted = c.count_below.ensures.value ∙ ap (λ bound. count_by (λ key. int_lt key bound) c.args.keys.now) (to_z-of_z fits) in
    pushes [] _ _ _ _ _ c.loop-key.invariant c.push.ensures.items (to_z_pos w64 c.count_below.result (omega arith) ∙ ap pos counted)

pub returns-clause-count : goal.returns-clause-count
returns-clause-count c =
    let long = ap length c.loop-key.invariant ∙ length-map-range_with_len _ 0 c.loop-key.key-index in
    let end = c.loop-key-test.false in
    let most = c.loop-key.auto.key-index-end in
    omega arith

pub returns-clause-order : goal.returns-clause-order
returns-clause-order c s t h l =
    let end = c.loop-key-test.false in
    let most = c.loop-key.auto.key-index-end in
    let all : c.loop-key.key-index ≡ length c.args.keys.now = omega arith in
    ordered-same c.loop-key.key-index c.loop-key.places.items (λ s. pos (smaller c.args.keys.now s)) c.loop-key.invariant s t (omega arith) (omega arith)
    ∙ smaller-ordered c.args.keys.now s t h l
