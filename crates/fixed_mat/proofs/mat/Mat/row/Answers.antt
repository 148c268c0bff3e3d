use Rattle.std.proofs.Common.{◌≡◌, ◌≤◌, ◌*◌, [], unsigned_abs, arith, ◌∙◌, SFits, to_z-of_z}
use Rattle.std.proofs.Math.Nat.{mul-le-mul_right}
use Rattle.std.proofs.lemmas.List.Elements.{All-push}
use Rattle.set_rules.specs.Columns.{entry}
use mir.Syntax.{w64}
use Rattle.fixed_mat.proofs.Columns.{pushes, counted}
use Rattle.fixed_mat.proofs.mat.Mat.row.Goals as goal

pub push-requires : goal.push-requires
push-requires g c =
    let long = counted [] c.loop-l.cells.items c.loop-l.l (λ k. entry g.row.C c.args.self.now c.args.r k) c.loop-l.invariant.cells in
    let row : 1 ≤ g.row.R = omega arith in
    let fits : 1 * g.row.C ≤ g.row.R * g.row.C = mul-le-mul_right g.row.C row in
    let small = c.entries.ensures.small in
    omega arith

pub loop-l-preserved : goal.loop-l-preserved
loop-l-preserved g c =
    let fits : SFits w64 c.at.result = record { sfits = c.at.type_inv } in
    record {
      cells = pushes [] _ _ _ _ _ c.loop-l.invariant.cells c.push.ensures.items (to_z-of_z fits ∙ c.at.ensures.value);
      within = rw (c.push.ensures.items, to_z-of_z fits) (All-push (λ z. unsigned_abs z ≤ g.L.Limit.LIM) c.loop-l.cells.items c.at.result c.loop-l.invariant.within c.at.ensures.within);
    }

pub invariant_of-result : goal.invariant_of-result
invariant_of-result g c =
    let end : c.loop-l.l ≡ g.row.C = omega arith in
    let long = counted [] c.loop-l.cells.items c.loop-l.l (λ k. entry g.row.C c.args.self.now c.args.r k) c.loop-l.invariant.cells in
    let row : 1 ≤ g.row.R = omega arith in
    let fits : 1 * g.row.C ≤ g.row.R * g.row.C = mul-le-mul_right g.row.C row in
    let small = c.entries.ensures.small in
    record { small = omega arith; size = omega arith; within = c.loop-l.invariant.within }
