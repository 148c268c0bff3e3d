use Rattle.std.proofs.Common.{length, ap, ◌∙◌, arith}
use Rattle.set_rules.specs.Reduce.{key_at}
use Rattle.set_rules.proofs.ImageSets.{length-tabulate}
use Rattle.girard_reduce.specs.Lifted.{lifted_all}
use Rattle.girard_reduce.proofs.Reduced.{ordered-same}
use Rattle.girard_reduce.proofs.keys.lifted_keys.Goals as goal

pub returns-then-sum_of-le1000000000000000000-clause-count : goal.returns-then-sum_of-le1000000000000000000-clause-count
returns-then-sum_of-le1000000000000000000-clause-count g c = ap length c.narrow_keys.ensures ∙ length-tabulate (length c.args.cols.now) (key_at (lifted_all g.row.N c.args.cols.now c.args.rows.now.rows))

pub returns-then-sum_of-le1000000000000000000-clause-order : goal.returns-then-sum_of-le1000000000000000000-clause-order
returns-then-sum_of-le1000000000000000000-clause-order g c = ordered-same (length c.args.cols.now) c.narrow_keys.result.items (key_at (lifted_all g.row.N c.args.cols.now c.args.rows.now.rows)) c.narrow_keys.ensures

pub returns-clause-count : goal.returns-clause-count
returns-clause-count g c =
    c.places_in_order.ensures.count ∙ ap length (c.deref.ensures.0 ∙ c.wide_keys.ensures) ∙ length-tabulate (length c.args.cols.now) (key_at (lifted_all g.row.N c.args.cols.now c.args.rows.now.rows))

pub returns-clause-order : goal.returns-clause-order
returns-clause-order g c s t h l =
    let keys = c.deref.ensures.0 ∙ c.wide_keys.ensures in
    let long = ap length keys ∙ length-tabulate (length c.args.cols.now) (key_at (lifted_all g.row.N c.args.cols.now c.args.rows.now.rows)) in
    c.places_in_order.ensures.order s t (omega arith) (omega arith)
    ∙ ordered-same (length c.args.cols.now) c.deref.result.now (key_at (lifted_all g.row.N c.args.cols.now c.args.rows.now.rows)) keys s t h l
