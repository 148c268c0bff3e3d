use Rattle.std.proofs.Common.{unsigned_abs, ap, ◌∙◌, SFits, to_z-of_z, ◌^◌}
use mir.Syntax.{w128}
use Rattle.set_rules.specs.Reduce.{greatest}
use Rattle.set_rules.proofs.Greatest.{greatest-at}
use Rattle.row_drop.proofs.Shrinking.{shrinks}
use Rattle.row_drop.proofs.shrink.shrunk_row.Goals as goal

pub shrunk-requires-clause-below : goal.shrunk-requires-clause-below
shrunk-requires-clause-below c =
    let fits : SFits w128 c.at.result = record { sfits = c.at.type_inv } in
    let size = ap unsigned_abs (to_z-of_z fits ∙ c.at.ensures.value) in
    rw size (shrinks _ (greatest c.args.a.now) c.args.halvings (2 ^ 40) (greatest-at c.args.a.now c.loop-t.t) c.requires.below)
