use Rattle.std.proofs.Common.{arith, ap, ◌∙◌, pos, replicate, sum_by, unsigned_abs}
use Rattle.std.proofs.lemmas.List.Sums.{sum_by-append}
use Rattle.std.proofs.lemmas.List.Folds.{sum_by-replicate}
use Rattle.std.proofs.lemmas.Int.{ints, to_z_pos}
use mir.Syntax.{w128}
use Rattle.fixed_mat.specs.Rows.{marked, condensed_row}
use Rattle.fixed_mat.proofs.Bits.{ok_unless}
use Rattle.fixed_mat.proofs.Wider.{condensed}
use Rattle.fixed_mat.proofs.ring.KeptRow.condense.Goals as goal

pub unwrap-requires : goal.unwrap-requires
unwrap-requires c =
    let small = c.retain-lost.ensures.small in
    let wider = ap (sum_by unsigned_abs) c.widen.ensures ∙ sum_by-append unsigned_abs c.retain-lost.new.self (replicate c.args.place (pos 0)) in
    let zeros = sum_by-replicate unsigned_abs c.args.place (pos 0) in
    let is = ap unsigned_abs (to_z_pos w128 c.retain-lost.result (omega arith)) in
    ok_unless c.push.result _ c.push.ensures.refused.0 (λ past. omega (arith, ints))

pub returns : goal.returns
returns c =
    let small = c.retain-lost.ensures.small in
    let is = to_z_pos w128 c.retain-lost.result (omega arith) in
    condensed (marked c.args.keep.now) c.args.more c.args.place _ c.retain-lost.new.self c.widen.new.self c.push.new.self c.widen-2.new.self c.retain-lost.result _
    c.requires.place c.retain-lost.ensures.kept c.retain-lost.ensures.lost is c.widen.ensures (rw c.unwrap.ensures at c.push.ensures.ok) c.widen-2.ensures
    ∙ ap (condensed_row (marked c.args.keep.now) c.args.more c.args.place) c.self.view_is
