use Rattle.std.proofs.Common.{[], length, pos, arith, ap, sym, ◌∙◌, SFits, to_z-of_z}
use mir.Syntax.{w64}
use Rattle.std.proofs.lemmas.List.FromFn.{length-map-range_with_len}
use Rattle.set_rules.specs.Reduce.{key_of}
use Rattle.fixed_mat.proofs.Columns.{pushes}
use Rattle.girard_reduce.proofs.LiftedKeys.{lifted-at, lifted-within}
use Rattle.girard_reduce.proofs.keys.narrow_keys.Goals as goal

pub lifted_key-requires : goal.lifted_key-requires
lifted_key-requires g c =
    let small = c.len-t-end.ensures.height_small in
    let end = c.len-t-end.ensures.value in
    let within = lifted-within g.row.N c.args.cols.now c.args.rows.now.rows c.loop-t.t small c.tell.ensures in
    let most = c.requires.small in
    (omega arith, (omega arith, (c.requires.width, omega arith)))

pub push-requires : goal.push-requires
push-requires g c =
    let long = ap length c.loop-t.invariant ∙ length-map-range_with_len _ 0 c.loop-t.t in
    let few = c.len-t-end.ensures.few in
    (omega arith, omega arith)

pub loop-t-preserved : goal.loop-t-preserved
loop-t-preserved g c =
    let fits : SFits w64 c.lifted_key.result = record { sfits = c.lifted_key.type_inv } in
    let end = c.len-t-end.ensures.value in
    pushes [] _ _ _ _ _ c.loop-t.invariant c.push.ensures.items (to_z-of_z fits ∙ c.lifted_key.ensures ∙ ap (λ column. pos (key_of column)) (sym (lifted-at g.row.N c.args.cols.now c.args.rows.now.rows c.loop-t.t (omega arith))))
